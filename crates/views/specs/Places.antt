-- Places as plain data.
use Rattle.std.specs.Coded.{Coded, coded×, coded_ℕ}
use Rattle.model.specs.FullIds.{coded_full}
use Rattle.model.specs.World.{Place}

abbrev pub coded_place : Coded Place
coded_place = coded× coded_full coded_ℕ
