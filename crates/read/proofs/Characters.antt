-- The characters of ranges and before positions, and which texts are passwords'.
use Rattle.std.proofs.Common.{◌≡◌, Bool, true, false, length, sym, ap, ◌∙◌}
use Rattle.std.specs.Prelude.{if◌then◌else◌}
use Rattle.std.proofs.lemmas.List.{length-map}
use Rattle.model.specs.declared.FullNodeId.{FullNodeId}
use Rattle.model.specs.World.{World}
use Rattle.model.specs.FlatText.{Position, flat_text}
use Rattle.model.specs.Moves.{to_global_utf16_index}
use Rattle.model.specs.Ranges.{Range, document_range, text_of, with_end}
use Rattle.model.specs.RoleClasses.{is_password_input}
use Rattle.model.specs.TextRuns.{is_password}
use Rattle.model.specs.Values.{bullets}
use Rattle.texts.specs.declared.range.TextRange.{TextRange}
use Rattle.texts.specs.Cuts.{character_ranges}
use Rattle.texts.specs.Positions.{node_text}
use Rattle.texts.specs.RangeCuts.{located, located_in, parts_of}
use Rattle.texts.specs.TextRanges.{IsRangeOf, world_in, root_in, text_in, range_at}
use Rattle.views.specs.declared.node.node_ref.NodeRef.{NodeRef}
use Rattle.views.specs.Nodes.{world_at, id_at, data_at}
use Rattle.views.proofs.Climbing.{says_shown}
use Rattle.read.specs.Shown.{count_before, further, shown_index, shown_text}

-- as many parts as ranges
pub parts_counted : (r : TextRange) → length (parts_of character_ranges r) ≡ length (character_ranges (text_in r) (range_at r))
parts_counted r = length-map (character_ranges (text_in r) (range_at r)) (located_in (world_in r) (root_in r))

characters_of : (w : World) (id : FullNodeId) (q : Range) (r : TextRange) → IsRangeOf w id q r → length (parts_of character_ranges r) ≡ length (character_ranges (flat_text w id) q)
characters_of w id q r is = parts_counted r ∙ (λ i. length (character_ranges (flat_text (is.world i) (is.root i)) (is.at i)))

-- the range of a whole text, that ends at a position
pub counted_to : (root : NodeRef) (p : Position) (all cut : TextRange) → IsRangeOf (world_at root) (id_at root) (document_range (node_text root)) all
    → IsRangeOf (world_in all) (root_in all) (with_end (text_in all) (range_at all) p) cut → length (parts_of character_ranges cut) ≡ count_before (node_text root) p
counted_to root p all cut whole part =
    characters_of (world_in all) (root_in all) (with_end (text_in all) (range_at all) p) cut part
    ∙ (λ i. length (character_ranges (flat_text (whole.world i) (whole.root i)) (with_end (flat_text (whole.world i) (whole.root i)) (whole.at i) p)))

-- whether the root is a password, by what is read of its view
pub secret_at : (w : World) (id : FullNodeId) (n : NodeRef) (b : Bool) → world_at n ≡ w → id_at n ≡ id → b ≡ is_password_input (data_at n).role → is_password w id ≡ b
secret_at w id n b world root is = ap (is_password w) (sym root) ∙ says_shown (λ d. is_password_input d.role) w n world ∙ sym is

-- what is shown of a range
module _ (r : TextRange) where
  pub shown_as_bullets : is_password (world_in r) (root_in r) ≡ true → bullets (length (character_ranges (text_in r) (range_at r))) ≡ shown_text (located r)
  shown_as_bullets e = sym (ap (λ b. if b then bullets (length (character_ranges (text_in r) (range_at r))) else text_of (text_in r) (range_at r)) e)

  pub shown_as_text : is_password (world_in r) (root_in r) ≡ false → text_of (text_in r) (range_at r) ≡ shown_text (located r)
  shown_as_text e = sym (ap (λ b. if b then bullets (length (character_ranges (text_in r) (range_at r))) else text_of (text_in r) (range_at r)) e)

-- the index of a position
module _ (root : NodeRef) (p : Position) where
  pub index_by_count : is_password (world_at root) (id_at root) ≡ true → further 0 (count_before (node_text root) p) ≡ shown_index (world_at root) (id_at root) p
  index_by_count e = sym (ap (λ b. if b then further 0 (count_before (node_text root) p) else to_global_utf16_index (node_text root) p) e)

  pub index_by_units : is_password (world_at root) (id_at root) ≡ false → to_global_utf16_index (node_text root) p ≡ shown_index (world_at root) (id_at root) p
  index_by_units e = sym (ap (λ b. if b then further 0 (count_before (node_text root) p) else to_global_utf16_index (node_text root) p) e)
