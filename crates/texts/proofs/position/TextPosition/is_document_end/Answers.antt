use Rattle.std.proofs.Common.{◌∙◌}
use Rattle.texts.proofs.PositionTests.{differs, off_run_end, at_run_end}
use Rattle.texts.proofs.position.TextPosition.is_document_end.Goals as goal

pub returns-else-position-character_count : goal.returns-else-position-character_count
returns-else-position-character_count c =
    differs c.args.self.now.index c.character_count.result c.if-position-character_count.false
    ∙ off_run_end c.args.self.now c.character_count.result c.character_count.ensures c.if-position-character_count.false

pub returns-then-position-character_count : goal.returns-then-position-character_count
returns-then-position-character_count c = at_run_end c.args.self.now c.character_count.result c.character_count.ensures c.is_last.result c.is_last.ensures c.if-position-character_count.true
