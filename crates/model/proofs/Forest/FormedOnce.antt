-- There is one proof at most that a world is formed, so types can keep it.
use Rattle.std.specs.Prelude.{List, Option}
use Rattle.std.specs.Coded.{Coded-set, coded_ℕ, coded_list, coded×, coded_option}
use Rattle.model.specs.FullIds.{coded_full}
use Rattle.model.specs.World.{World, Place}
use Rattle.model.specs.Forest.{IsFormed}

Option-Place-set : IsSet (Option Place)
Option-Place-set = Coded-set (coded_option (coded× coded_full coded_ℕ))

List-Place-set : IsSet (List Place)
List-Place-set = Coded-set (coded_list (coded× coded_full coded_ℕ))

pub IsFormed-prop : (w : World) → IsProp (IsFormed w)
IsFormed-prop w = hlevel (Option-Place-set, List-Place-set)
