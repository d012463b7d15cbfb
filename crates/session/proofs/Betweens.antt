-- The text from one position to another.
use Rattle.std.proofs.Common.{◌≡◌, ap, ◌∙◌}
use Rattle.model.specs.FlatText.{flat_text}
use Rattle.model.specs.Ranges.{text_of, with_end}
use Rattle.model.specs.Queries.{text_between}
use Rattle.texts.specs.declared.position.TextPosition.{TextPosition}
use Rattle.texts.specs.declared.range.TextRange.{TextRange}
use Rattle.views.specs.Nodes.{world_at, id_at}
use Rattle.texts.specs.Positions.{root_at, position_text, flat_position}
use Rattle.texts.specs.TextRanges.{world_in, root_in, text_in, range_at, IsRangeOf}

-- a range at one position whose end is moved to the other has the text between the two
pub between_two : (from to : TextPosition) (r s : TextRange) →
    IsRangeOf (world_at (root_at from)) (id_at (root_at from)) (record { start = flat_position from; end = flat_position from }) r →
    IsRangeOf (world_in r) (root_in r) (with_end (text_in r) (range_at r) (flat_position to)) s →
    text_of (text_in s) (range_at s) ≡ text_between (position_text from) (flat_position from) (flat_position to)
between_two from to r s caret moved =
    let whole : text_in r ≡ position_text from = λ i. flat_text (caret.world i) (caret.root i) in
    let same : text_in s ≡ text_in r = λ i. flat_text (moved.world i) (moved.root i) in
    let at : range_at s ≡ with_end (position_text from) (record { start = flat_position from; end = flat_position from }) (flat_position to) = moved.at ∙ (λ i. with_end (whole i) (caret.at i) (flat_position to)) in
    ap (λ t. text_of t (range_at s)) (same ∙ whole) ∙ ap (text_of (position_text from)) at
