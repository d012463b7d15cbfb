-- What is printed doesn't depend on what is typed into a password.
use Rattle.std.specs.Prelude.{◌≡◌, Bool}
use Rattle.model.specs.declared.FullNodeId.{FullNodeId}
use Rattle.model.specs.World.{World}
use Rattle.model.specs.Forest.{IsFormed}
use Rattle.hidden_texts.specs.Alike.{DifferInPassword}
use Rattle.find.specs.Told.{told_with}
use Rattle.find.specs.Wanted.{Sought}

-- the same is printed in two worlds that differ in what is typed alone
abbrev pub TypingPrintsTheSame : Type 0
TypingPrintsTheSame =
    (p : FullNodeId) (w v : World) → IsFormed w → DifferInPassword p w v → (near : Bool) (sought : Sought) (top : FullNodeId) →
    told_with near sought w top ≡ told_with near sought v top
