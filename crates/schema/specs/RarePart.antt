-- What few nodes have: who labels them, what they control, and the rarer texts.
use Rattle.std.specs.Prelude.{ℕ, List, []}
use Rattle.schema.specs.declared.NodeId.{NodeId}
use Rattle.schema.specs.declared.rare_part.Rare.{Rare}
use Rattle.schema.specs.declared.rare_texts.RareText.{RareText}

pub record RareData : Type 0 where
  pub labelled_by : List NodeId
  pub controls : List NodeId
  -- an entry for each text that is set
  pub texts : List (RareText × List ℕ)

abbrev pub no_rare : RareData
no_rare = record { labelled_by = []; controls = []; texts = [] }

abbrev pub rare_data : Rare → RareData
rare_data r = record { labelled_by = r.labelled_by.items; controls = r.controls.items; texts = r.texts }
