use Rattle.texts.proofs.LineSteps.{no_caret, caret_found}
use Rattle.texts.proofs.line_ranges.caret_past.Goals as goal

pub returns-then-character_count-eq0 : goal.returns-then-character_count-eq0
returns-then-character_count-eq0 c = no_caret c.args.run c.requires.text c.character_count.result c.character_count.ensures c.if-character_count-eq0.true

pub returns : goal.returns
returns c =
    caret_found c.args.run c.requires.text c.character_count.result c.root.result c.document_end.result c.to_degenerate_range.result
    c.character_count.ensures c.if-character_count-eq0.false c.root.ensures c.document_end.ensures c.to_degenerate_range.ensures
