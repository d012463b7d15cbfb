use Rattle.texts.proofs.RangeRuns.{side_ends}
use Rattle.texts.proofs.range.TextRange.last_id.Goals as goal

pub returns : goal.returns
returns c = side_ends c.args.self c.end-end.result c.biased_to_end.result c.end-end.ensures c.biased_to_end.ensures c.requires c.id.result c.id.ensures
