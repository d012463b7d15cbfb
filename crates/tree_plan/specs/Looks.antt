-- What a pass may do with its look-ups.
use Rattle.std.specs.Prelude.{◌≡◌, ℕ}
use Rattle.model.specs.World.{World}
use Rattle.tree_changes.specs.LookUps.{IsRaisedUpTo}

-- the world that is read stays as it was, and at most so many records more are looked up
abbrev pub LooksUpTo : {S : Type 0} → (S → World) → (S → ℕ) → S → ℕ → S → Type 0
LooksUpTo world asked before most after = (world after ≡ world before) × IsRaisedUpTo (asked before) most (asked after)
