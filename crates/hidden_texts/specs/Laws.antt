-- What is decided and shown doesn't depend on what is typed into a password.
use Rattle.std.specs.Prelude.{◌≡◌}
use Rattle.model.specs.declared.FullNodeId.{FullNodeId}
use Rattle.model.specs.World.{World}
use Rattle.model.specs.Forest.{IsFormed}
use Rattle.model.specs.Shape.{EqualShape}
use Rattle.hidden_texts.specs.Alike.{DifferInPassword}
use Rattle.hidden_texts.specs.Hidden.{hides_text, hides_value, hides_label}
use Rattle.hidden_texts.specs.Shown.{shown_value, shown_label}

-- the same texts, values and labels are hidden in two such worlds
pub record HidesAlike (w v : World) (id : FullNodeId) : Type 0 where
  pub text : hides_text w id ≡ hides_text v id
  pub value : hides_value w id ≡ hides_value v id
  pub label : hides_label w id ≡ hides_label v id

abbrev pub TypingHidesTheSame : Type 0
TypingHidesTheSame = (p : FullNodeId) (w v : World) → IsFormed w → DifferInPassword p w v → (id : FullNodeId) → HidesAlike w v id

-- the same value is shown of the password
abbrev pub PasswordShowsTheSame : Type 0
PasswordShowsTheSame = (p : FullNodeId) (w v : World) → IsFormed w → DifferInPassword p w v → shown_value w p ≡ shown_value v p

-- and the same value and label of each node
pub record ShowsAlike (w v : World) (id : FullNodeId) : Type 0 where
  pub value : shown_value w id ≡ shown_value v id
  pub label : shown_label w id ≡ shown_label v id

abbrev pub TypingShowsTheSame : Type 0
TypingShowsTheSame = (p : FullNodeId) (w v : World) → IsFormed w → DifferInPassword p w v → (id : FullNodeId) → ShowsAlike w v id

-- worlds of equal shape, which the library's own promise is about, are such worlds
abbrev pub EqualShapesDifferInPassword : Type 0
EqualShapesDifferInPassword = (p : FullNodeId) (w v : World) → EqualShape p w v → DifferInPassword p w v
