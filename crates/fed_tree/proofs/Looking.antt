-- Whether the runs of a range differ.
use Rattle.std.proofs.Common.{◌≡◌, Bool, Option, Some, None, option_and_then, refl, sym, ◌∙◌, ap, subst}
use Rattle.std.specs.Prelude.{MatchOption, IsSomeAnd}
use Rattle.schema.specs.NodeData.{NodeData}
use Rattle.model.specs.declared.FullNodeId.{FullNodeId}
use Rattle.model.specs.World.{World, data_of}
use Rattle.model.specs.FlatText.{FlatText, flat_text}
use Rattle.model.specs.Ranges.{Range}
use Rattle.model.specs.Upward.{inherited_field}
use Rattle.model.specs.Views.{is_italic}
use Rattle.views.specs.Nodes.{world_at, id_at}
use Rattle.views.specs.declared.node.node_ref.NodeRef.{NodeRef}
use Rattle.texts.specs.FoundRanges.{IsRangeFound}
use Rattle.texts.specs.RangeProperties.{IsInherited, IsItalic, as_property}
use Rattle.texts.specs.TextRanges.{range_at, text_in, world_in}
use Rattle.texts.specs.declared.range.TextRange.{TextRange}
use Rattle.texts.specs.declared.range_properties.TextRangePropertyValue.{TextRangePropertyValue}
use Rattle.texts.specs.declared.range_properties.TextRangePropertyValue.TheVariants.{Single, Mixed}
use Rattle.fed_tree.specs.Looks.{Differs, DiffersBetween, DiffersIn, DiffersOver, is_mixed, is_mixed_value}
use Rattle.fed_tree.specs.Reads.{IsFound, data_in}
use Rattle.fed_tree.specs.Spans.{part_between}
use Rattle.fed_tree.specs.declared.spots.Spot.{Spot}
use Rattle.fed_tree.specs.declared.styles.Style.{Style}

mixed_is : {T A : Type 0} (of : T → A) (p : TextRangePropertyValue T) → is_mixed_value p ≡ is_mixed (as_property of p)
mixed_is of (Single v) = refl
mixed_is of Mixed = refl

-- by what a range says of a property that its runs inherit, and of italics
pub differs_in : {T A : Type 0} (field : NodeData → Option A) (of : T → Option A) (r : TextRange) (p : TextRangePropertyValue T) (differs : Bool)
    → IsInherited field of r p → differs ≡ is_mixed_value p → Differs (inherited_field field (world_in r)) (text_in r) (range_at r) differs
differs_in field of r p differs is said = (as_property of p, is, said ∙ mixed_is of p)

pub differs_in_italics : (r : TextRange) (p : TextRangePropertyValue Bool) (differs : Bool)
    → IsItalic r p → differs ≡ is_mixed_value p → Differs (is_italic (world_in r)) (text_in r) (range_at r) differs
differs_in_italics r p differs is said = (as_property (λ b. b) p, is, said ∙ mixed_is (λ b. b) p)

-- of a range that is found, and of none
pub differs_found : (w : World) (id : FullNodeId) (from to : Spot) (style : Style) (r : TextRange) (differs : Bool) → IsRangeFound w id (part_between from to w id) (Some r)
    → DiffersOver style (world_in r) (text_in r) (range_at r) differs → DiffersIn w id from to style (Some differs)
differs_found w id from to style r differs found is =
    subst (λ (o : Option Range). MatchOption o (Some differs ≡ None) (λ q. IsSomeAnd (Some differs) (λ d. DiffersOver style w (flat_text w id) q d))) found.at
    (subst (λ (v : World). DiffersOver style v (flat_text w id) (range_at r) differs) found.world
    (subst (λ (t : FlatText). DiffersOver style (world_in r) t (range_at r) differs) (λ i. flat_text (found.world i) (found.root i)) is))

-- (where nothing is found, nothing is answered)
missing_from : {A : Type 0} (result : Option Bool) (o : Option A) (P : A → Type 0) → None ≡ o → result ≡ None → MatchOption o (result ≡ None) P
missing_from {A} result o P is none = subst (λ (r : Option A). MatchOption r (result ≡ None) P) is none

pub differs_missing : (w : World) (id : FullNodeId) (from to : Spot) (style : Style) → IsRangeFound w id (part_between from to w id) None → DiffersIn w id from to style None
differs_missing w id from to style found =
    missing_from None (part_between from to w id) (λ (q : Range). IsSomeAnd None (λ (d : Bool). DiffersOver style w (flat_text w id) q d)) found.at refl

-- of a node that is found, and of one that isn't
pub differs_there : (world : Option World) (id : FullNodeId) (node : NodeRef) (from to : Spot) (style : Style) (result : Option Bool) → IsFound world id (Some node)
    → DiffersIn (world_at node) (id_at node) from to style result → DiffersBetween world id from to style result
differs_there world id node from to style result found is =
    subst (λ (o : Option World). DiffersBetween o id from to style result) (sym found.0)
    (subst (λ (o : Option NodeData). MatchOption o (result ≡ None) (λ (d : NodeData). DiffersIn (world_at node) id from to style result)) (sym found.2)
    (subst (λ (i : FullNodeId). DiffersIn (world_at node) i from to style result) found.1 is))

pub differs_nowhere : (world : Option World) (id : FullNodeId) (from to : Spot) (style : Style) → IsFound world id None → DiffersBetween world id from to style None
differs_nowhere None id from to style missing = refl
differs_nowhere (Some w) id from to style missing =
    missing_from None (data_of w id) (λ (d : NodeData). DiffersIn w id from to style None) (sym missing) refl
