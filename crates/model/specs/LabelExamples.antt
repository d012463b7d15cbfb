-- Small interfaces, and the labels of their nodes.
use Rattle.std.specs.Prelude.{◌≡◌, ℕ, List, [], ◌∷◌, map, codes, Option, Some, None}
use Rattle.schema.specs.NodeData.{NodeData}
use Rattle.schema.specs.declared.NodeId.{NodeId}
use Rattle.schema.specs.declared.Role.{Role}
use Rattle.schema.specs.declared.Role.TheVariants.{Window, GenericContainer, Label, Image, Paragraph, Button, CheckBox, DefaultButton, Link, MenuItem, MenuItemCheckBox, MenuItemRadio, RadioButton, TextInput}
use Rattle.model.specs.declared.FullNodeId.{FullNodeId}
use Rattle.model.specs.ListExamples.{parent}
use Rattle.model.specs.Examples.{at}
use Rattle.model.specs.ViewExamples.{one_tree}
use Rattle.model.specs.ValueExamples.{with_value}
use Rattle.model.specs.Labels.{label_of}

abbrev pub ids : List ℕ → List NodeId
ids ns = map (λ n. record { 0 = n }) ns

abbrev pub with_label : List ℕ → NodeData → NodeData
with_label t d = record d { label = Some t }

-- a check box and a text input, labelled by labels
abbrev pub mail : List (FullNodeId × NodeData)
mail =
    (at 0 0, parent Window (1 ∷ 2 ∷ 3 ∷ 4 ∷ [])) ∷ (at 0 1, record (parent CheckBox []) { labelled_by = ids (2 ∷ 4 ∷ []) })
    ∷ (at 0 2, with_value (codes "Check email every") (parent Label []))
    ∷ (at 0 3, record (parent TextInput []) { labelled_by = ids (4 ∷ []) }) ∷ (at 0 4, with_value (codes "minutes") (parent Label [])) ∷ []

-- a check box labelled by an empty label, one without a value, one with a value, and a node that doesn't exist
abbrev pub gaps : List (FullNodeId × NodeData)
gaps =
    (at 0 0, record (parent CheckBox (1 ∷ 2 ∷ 3 ∷ [])) { labelled_by = ids (1 ∷ 2 ∷ 9 ∷ 3 ∷ []) })
    ∷ (at 0 1, with_value [] (parent Label [])) ∷ (at 0 2, parent Label []) ∷ (at 0 3, with_value (codes "x") (parent Label [])) ∷ []

abbrev pub picture : List (FullNodeId × NodeData)
picture = (at 0 0, parent DefaultButton (1 ∷ [])) ∷ (at 0 1, with_label (codes "Play") (parent Image [])) ∷ []

-- a node of this role, in it this container, in it a label
abbrev pub labelled_within : Role → Role → List (FullNodeId × NodeData)
labelled_within role inner =
    (at 0 0, parent role (1 ∷ [])) ∷ (at 0 1, parent inner (2 ∷ [])) ∷ (at 0 2, with_value (codes "x") (parent Label [])) ∷ []

abbrev pub labelled : Role → List (FullNodeId × NodeData)
labelled role = (at 0 0, parent role (1 ∷ [])) ∷ (at 0 1, with_value (codes "x") (parent Label [])) ∷ []

abbrev pub label_in : List (FullNodeId × NodeData) → ℕ → Option (List ℕ)
label_in es n = label_of (one_tree None es) (at 0 n)

pub record LabelsOf : Type 0 where
  pub by_two : label_in mail 1 ≡ Some (codes "Check email every minutes")
  pub by_one : label_in mail 3 ≡ Some (codes "minutes")
  pub of_label : label_in mail 4 ≡ None
  pub with_gaps : label_in gaps 0 ≡ Some (codes " x")
  pub by_picture : label_in picture 0 ≡ Some (codes "Play")
  pub in_container : label_in (labelled_within Link GenericContainer) 0 ≡ Some (codes "x")
  pub in_paragraph : label_in (labelled_within Link Paragraph) 0 ≡ None
  pub of_roles : (label_in (labelled Button) 0 ≡ Some (codes "x")) × (label_in (labelled CheckBox) 0 ≡ Some (codes "x"))
      × (label_in (labelled RadioButton) 0 ≡ Some (codes "x"))
      × (label_in (labelled MenuItem) 0 ≡ Some (codes "x")) × (label_in (labelled MenuItemCheckBox) 0 ≡ Some (codes "x"))
      × (label_in (labelled MenuItemRadio) 0 ≡ Some (codes "x"))
  pub of_window : label_in (labelled Window) 0 ≡ None
