use Rattle.texts.proofs.RangeRuns.{caret_of, caret_ends}
use Rattle.texts.proofs.range.TextRange.caret.Goals as goal

pub returns : goal.returns
returns c = record { first = caret_of c.args.self c.start-start.result c.start-start.ensures c.requires; last = caret_ends c.args.self c.start-start.result c.start-start.ensures c.requires c.id.result c.id.ensures }
