-- What is printed doesn't depend on what is typed into a password.
use Rattle.std.specs.Prelude.{◌≡◌, false}
use Rattle.schema.specs.declared.NodeId.{NodeId}
use Rattle.schema.specs.declared.TreeId.{TreeId}
use Rattle.model.specs.declared.FullNodeId.{FullNodeId}
use Rattle.model.specs.World.{World}
use Rattle.model.specs.Forest.{IsFormed}
use Rattle.model.specs.TextRuns.{supports_text_ranges}
use Rattle.hidden_texts.specs.Alike.{DifferInPassword}
use Rattle.views.specs.TextDefects.{text_defect}
use Rattle.read.specs.Asked.{asked_text, is_told}

-- the two worlds differ in what is typed alone; and if the password's runs make no text, then for the same reason in both
pub record DifferInTyping (p : FullNodeId) (w v : World) : Type 0 where
  pub typed : DifferInPassword p w v
  pub defects : supports_text_ranges w p ≡ false → text_defect w p ≡ text_defect v p

-- the same is printed of the node with this name, and with the same exit status
pub record ReadsAlike (w v : World) (name : NodeId × TreeId) : Type 0 where
  pub printed : asked_text w name ≡ asked_text v name
  pub told : is_told w name ≡ is_told v name

abbrev pub TypingReadsTheSame : Type 0
TypingReadsTheSame = (p : FullNodeId) (w v : World) → IsFormed w → DifferInTyping p w v → (name : NodeId × TreeId) → ReadsAlike w v name
