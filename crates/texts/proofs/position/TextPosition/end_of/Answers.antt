use Rattle.text_boundaries.specs.RunNumbers.{number_in}
use Rattle.texts.specs.Positions.{root_at, position_text}
use Rattle.text_boundaries.specs.Marks.{ends_at}
use Rattle.texts.proofs.TextEnds.{at_end_from}
use Rattle.texts.proofs.position.TextPosition.end_of.Goals as goal

pub returns : goal.returns
returns c =
    let p = c.args.self in
    record {
      same = c.last_of-last.ensures.same;
      at = at_end_from (root_at p) c.last_of-last.result (number_in p.run) c.character_count.result (ends_at c.args.mark (position_text p)) c.last_of-last.ensures.same c.last_of-last.ensures.found c.character_count.ensures;
    }
