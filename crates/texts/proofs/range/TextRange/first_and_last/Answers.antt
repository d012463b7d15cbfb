use Rattle.std.proofs.Common.{◌∙◌, sym}
use Rattle.texts.proofs.range.TextRange.first_and_last.Goals as goal

pub caret-requires : goal.caret-requires
caret-requires c = sym c.is_degenerate.ensures ∙ c.if-is_degenerate.true

pub first_piece-requires : goal.first_piece-requires
first_piece-requires c = sym c.is_degenerate.ensures ∙ c.if-is_degenerate.false

pub last_id-requires : goal.last_id-requires
last_id-requires c = sym c.is_degenerate.ensures ∙ c.if-is_degenerate.false
