use Rattle.texts.proofs.RangeRuns.{first_part}
use Rattle.texts.proofs.range.TextRange.first_piece.Goals as goal

pub returns : goal.returns
returns c = first_part c.args.self c.start-start.result c.biased_to_start.result c.piece_in.result c.start-start.ensures c.biased_to_start.ensures c.requires c.piece_in.ensures.run c.piece_in.ensures.is
