-- Positions by the names that are wanted, and parts of a text by their ends.
use Rattle.std.proofs.Common.{◌≡◌, ℕ, List, Option, Some, None, option_map, option_and_then, refl, ap, subst, sym, ◌∙◌}
use Rattle.schema.specs.declared.geometry.WideRect.{WideRect}
use Rattle.schema.specs.declared.values.TextPosition.{TextPosition as Raw}
use Rattle.model.specs.declared.FullNodeId.{FullNodeId}
use Rattle.model.specs.declared.queries.Side.{Side}
use Rattle.model.specs.World.{World}
use Rattle.model.specs.FlatText.{FlatText, Position, flat_text}
use Rattle.model.specs.Moves.{to_global_usv_index, to_global_utf16_index, to_line_index}
use Rattle.model.specs.Ranges.{IsRaw, Range, bounding_boxes}
use Rattle.model.proofs.Asking.Raws.{raw_is_name}
use Rattle.texts.specs.declared.range.TextRange.{TextRange}
use Rattle.texts.specs.TextRanges.{text_in, range_at}
use Rattle.texts.specs.FoundRanges.{IsRangeFound}
use Rattle.fed_tree.specs.Spots.{if_wanted, place_of}
use Rattle.fed_tree.specs.Spans.{ends_of, range_span}
use Rattle.fed_tree.specs.Texts.{side_of}
use Rattle.fed_tree.specs.declared.spans.TextSpan.{TextSpan}
use Rattle.fed_tree.specs.declared.spots.Wanted.{Wanted}
use Rattle.fed_tree.specs.declared.text_places.TextPlace.{TextPlace}

abbrev place_with : ℕ → ℕ → ℕ → Side → Raw → TextPlace
place_with index utf16_index line side name = record { name = name; index = index; utf16_index = utf16_index; line = line; side = side }

-- a position by the names that the calls return
pub place_wanted : (wanted : Wanted) (t : FlatText) (p : Position) (name : Raw) (index utf16_index line : ℕ) (side : Side) → IsRaw t p name
    → index ≡ if_wanted wanted.index (to_global_usv_index t p) → utf16_index ≡ if_wanted wanted.utf16_index (to_global_utf16_index t p)
    → line ≡ if_wanted wanted.line (to_line_index t p) → side ≡ side_of t p
    → place_of wanted t p ≡ Some (record { name = name; index = index; utf16_index = utf16_index; line = line; side = side })
place_wanted wanted t p name index utf16_index line side raw is_index is_utf16 is_line is_side =
    ap (λ (o : Option Raw). option_map (place_with (if_wanted wanted.index (to_global_usv_index t p)) (if_wanted wanted.utf16_index (to_global_utf16_index t p)) (if_wanted wanted.line (to_line_index t p)) (side_of t p)) o) ((raw_is_name t p name).0 raw)
    ∙ (λ i. Some (place_with (sym is_index i) (sym is_utf16 i) (sym is_line i) (sym is_side i) name))

-- two positions of one text
pub span_placed : (wanted : Wanted) (t u : FlatText) (p q : Position) (start end : TextPlace) → u ≡ t → place_of wanted t p ≡ Some start → place_of wanted u q ≡ Some end
    → ends_of wanted t p q ≡ Some (record { start = start; end = end })
span_placed wanted t u p q start end same starts ends =
    ap (λ (o : Option TextPlace). option_and_then (λ (s : TextPlace). option_map (λ (e : TextPlace). record { start = s; end = e }) (place_of wanted t q)) o) starts
    ∙ ap (λ (o : Option TextPlace). option_map (λ (e : TextPlace). record { start = start; end = e }) o) (ap (λ v. place_of wanted v q) (sym same) ∙ ends)

-- a range that is found is one of the text of its node
text_found : (w : World) (id : FullNodeId) (q : Option Range) (r : TextRange) → IsRangeFound w id q (Some r) → text_in r ≡ flat_text w id
text_found w id q r found = λ i. flat_text (found.world i) (found.root i)

-- a line that is found, and one that isn't
pub line_found : (w : World) (id : FullNodeId) (q : Option Range) (r : TextRange) (wanted : Wanted) (span : TextSpan) → IsRangeFound w id q (Some r)
    → ends_of wanted (text_in r) (range_at r).start (range_at r).end ≡ Some span → option_and_then (range_span wanted (flat_text w id)) q ≡ Some span
line_found w id q r wanted span found is =
    ap (λ (o : Option Range). option_and_then (range_span wanted (flat_text w id)) o) (sym found.at)
    ∙ ap (λ t. range_span wanted t (range_at r)) (sym (text_found w id q r found)) ∙ is

pub line_missing : (w : World) (id : FullNodeId) (q : Option Range) (wanted : Wanted) → IsRangeFound w id q None → option_and_then (range_span wanted (flat_text w id)) q ≡ None
line_missing w id q wanted found = ap (λ (o : Option Range). option_and_then (range_span wanted (flat_text w id)) o) (sym found.at)

-- the boxes of a range that is found, and of none
pub boxes_found : (w : World) (id : FullNodeId) (q : Option Range) (r : TextRange) (boxes : List WideRect) → IsRangeFound w id q (Some r)
    → boxes ≡ bounding_boxes (text_in r) (range_at r) → Some boxes ≡ option_map (bounding_boxes (flat_text w id)) q
boxes_found w id q r boxes found is =
    ap Some (is ∙ ap (λ t. bounding_boxes t (range_at r)) (text_found w id q r found))
    ∙ ap (λ (o : Option Range). option_map (bounding_boxes (flat_text w id)) o) found.at

pub boxes_missing : (w : World) (id : FullNodeId) (q : Option Range) → IsRangeFound w id q None → None ≡ option_map (bounding_boxes (flat_text w id)) q
boxes_missing w id q found = ap (λ (o : Option Range). option_map (bounding_boxes (flat_text w id)) o) found.at
