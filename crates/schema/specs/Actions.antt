-- Sets of actions: the number whose bits are the members. So two sets are equal exactly if they have the same members.
use Rattle.std.specs.Prelude.{◌≡◌, ℕ, ◌+◌, ◌*◌, ◌^◌, ◌==◌, ◌⊎◌, ◌↔◌, Bool, IsTrue}
use Rattle.std.specs.Int.{bit_at}
use Rattle.std.specs.Int.RustNames.{bit_or}
use Rattle.schema.specs.declared.actions.Action.{Action}
use Rattle.schema.specs.declared.actions.Action.TheVariants.{Click, Focus, Increment, Decrement, Other}

-- the bit that stands for an action
abbrev pub action_number : Action → ℕ
action_number Click = 0
action_number Focus = 1
action_number Increment = 2
action_number Decrement = 3
action_number (Other n) = 4 + n

-- whether a set has an action
abbrev pub has_action : ℕ → Action → Bool
has_action set a = bit_at set (action_number a) == 1

-- a set with one more action
abbrev pub with_action : ℕ → Action → ℕ
with_action set a = bit_or set (2 ^ action_number a)

-- the new set has the action, what the old one has, and nothing else
abbrev pub Gains : ℕ → ℕ → Action → Type 0
Gains old new a = (b : Action) → IsTrue (has_action new b) ↔ ((b ≡ a) ⊎ IsTrue (has_action old b))

-- the bits of a set from 128 on, below 256, and those below 128
pub record ActionWordsData : Type 0 where
  pub low : ℕ
  pub high : ℕ

-- the set of these words and of its bits from 256 on
abbrev pub set_with : ℕ → ActionWordsData → ℕ
set_with top w = (top * 2 ^ 128 + w.high) * 2 ^ 128 + w.low
