-- What the runs of a range have in common.
use Rattle.std.specs.Prelude.{◌≡◌, Bool, All, Contains, Option, Some, None, ⊤}
use Rattle.schema.specs.NodeData.{NodeData}
use Rattle.model.specs.declared.FullNodeId.{FullNodeId}
use Rattle.model.specs.Upward.{inherited_field}
use Rattle.model.specs.Views.{is_italic}
use Rattle.model.specs.Ranges.{Property, passed_runs, IsPropertyOf}
use Rattle.model.specs.Ranges.Property.{Single as single, Mixed as mixed}
use Rattle.views.specs.declared.node.node_ref.NodeRef.{NodeRef}
use Rattle.texts.specs.declared.range.TextRange.{TextRange}
use Rattle.texts.specs.declared.looks.Look.{Look}
use Rattle.texts.specs.declared.range_properties.TextRangePropertyValue.{TextRangePropertyValue}
use Rattle.texts.specs.declared.range_properties.TextRangePropertyValue.TheVariants.{Single, Mixed}
use Rattle.views.specs.Nodes.{world_at, id_at}
use Rattle.texts.specs.Looks.{AreSame}
use Rattle.texts.specs.TextRanges.{world_in, text_in, range_at}

-- two runs of the range have different values of it
abbrev pub SomeDiffer : Look → TextRange → Type 0
SomeDiffer what r =
    (run other : FullNodeId) × Contains (passed_runs (text_in r) (range_at r)) run × Contains (passed_runs (text_in r) (range_at r)) other
    × ¬ (AreSame what (world_in r) run other)

-- all runs of the range have the same value of it as this node
pub record IsSample (what : Look) (r : TextRange) (node : NodeRef) : Type 0 where
  pub world : world_at node ≡ world_in r
  pub alike : All (λ run. AreSame what (world_in r) run (id_at node)) (passed_runs (text_in r) (range_at r))

-- the value as the model has it
abbrev pub as_property : {T A : Type 0} → (T → A) → TextRangePropertyValue T → Property A
as_property of (Single v) = single (of v)
as_property of Mixed = mixed

-- it is the range's property, which its runs inherit
abbrev pub IsInherited : {T A : Type 0} → (NodeData → Option A) → (T → Option A) → TextRange → TextRangePropertyValue T → Type 0
IsInherited field of r p = IsPropertyOf (inherited_field field (world_in r)) (text_in r) (range_at r) (as_property of p)

abbrev pub IsItalic : TextRange → TextRangePropertyValue Bool → Type 0
IsItalic r p = IsPropertyOf (is_italic (world_in r)) (text_in r) (range_at r) (as_property (λ b. b) p)

-- a call may be made with the value, if all runs have the same
abbrev pub TakesValue : {T : Type 0} → (T → Type 0) → TextRangePropertyValue (Option T) → Type 0
TakesValue takes (Single (Some x)) = takes x
TakesValue takes (Single None) = ⊤
TakesValue takes Mixed = ⊤

-- the other value is a possible result of a call with the value, if all runs have the same
abbrev pub MapsValue : {T U : Type 0} → (T → U → Type 0) → TextRangePropertyValue (Option T) → TextRangePropertyValue (Option U) → Type 0
MapsValue gives (Single (Some x)) q = (y : _) × gives x y × (q ≡ Single (Some y))
MapsValue gives (Single None) q = q ≡ Single None
MapsValue gives Mixed q = q ≡ Mixed
