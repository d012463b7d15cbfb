-- What the exit status of a run says.
use Rattle.std.specs.Prelude.{◌≡◌, ◌≢◌, ℕ, List, Bool, true, false, IfSome, Option, Some, Ok}
use Rattle.model.specs.World.{World}
use Rattle.atree_script.specs.Played.{Bytes}
use Rattle.atree_script.specs.Reports.{ReadsTree}
use Rattle.compare.specs.Compared.{IsCompared}
use Rattle.compare.specs.Parts.{IsCut}

-- a script leaves this tree, or none: it is read to its end, and each of its commands is carried out
abbrev pub IsLeftBy : List ℕ → Option World → Type 0
IsLeftBy script world = (before : Bytes) × ((after : Bytes) × ReadsTree (Some script) before after (Ok world))

-- the two scripts of the input leave these trees
pub record AreLeftBy (input : List ℕ) (old new : Option World) : Type 0 where
  pub first : List ℕ
  pub second : List ℕ
  pub cut : IsCut input first second
  pub old_left : IsLeftBy first old
  pub new_left : IsLeftBy second new

-- those trees are compared
pub record Compares (input before after : Bytes) (is_equal : Bool) : Type 0 where
  pub old : Option World
  pub new : Option World
  pub left : IfSome input (λ bytes. AreLeftBy bytes old new)
  pub compared : IsCompared old new before after is_equal

-- the status 0 says this of what is equal, and 1 of what differs
abbrev pub Says : (Bool → Type 0) → ℕ → Type 0
Says Is status = (status ≡ 0 → Is true) × (status ≡ 1 → Is false)

-- a status that says neither
abbrev pub IsNoAnswer : ℕ → Type 0
IsNoAnswer status = (status ≢ 0) × (status ≢ 1)
