-- A list that is kept for a later decision.
use Rattle.std.specs.Prelude.{◌≡◌, ◌≤◌, []}
use Rattle.std.specs.Global.{Vec}
use Rattle.std.specs.Vec.{vec_capacity}

-- it is empty and short
abbrev pub IsSpare : {X : Type 0} → Vec X → Type 0
IsSpare list = (list.items ≡ []) × (vec_capacity list ≤ 64)
