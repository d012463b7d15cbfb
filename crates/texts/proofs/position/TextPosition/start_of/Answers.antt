use Rattle.std.proofs.Common.{◌+◌}
use Rattle.text_boundaries.specs.RunNumbers.{number_in}
use Rattle.texts.specs.Positions.{position_text}
use Rattle.text_boundaries.specs.Marks.{begins_at}
use Rattle.texts.proofs.TextEnds.{at_start_before}
use Rattle.texts.proofs.position.TextPosition.start_of.Goals as goal

pub returns : goal.returns
returns c =
    let p = c.args.self in
    record {
      same = c.first_of-first.ensures.same;
      at = at_start_before (position_text p) (number_in c.first_of-first.result) (number_in p.run + 1) (begins_at c.args.mark (position_text p)) c.first_of-first.ensures.found;
    }
