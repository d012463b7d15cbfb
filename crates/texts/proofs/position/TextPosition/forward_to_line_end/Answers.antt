use Rattle.model.specs.FlatText.{FlatText, Position, biased_to_start, ends_line}
use Rattle.model.specs.Moves.{end_from, forward_to_line_end}
use Rattle.texts.proofs.TextEnds.{then_moved}
use Rattle.texts.proofs.Secrecy.{moved_in_each}
use Rattle.texts.proofs.position.TextPosition.forward_to_line_end.Goals as goal

pub returns : goal.returns
returns c =
    let moved = then_moved biased_to_start (λ (t : FlatText) (q : Position). end_from t q.run (ends_line t)) c.args.self.now c.biased_to_start.result c.end_of.result c.biased_to_start.ensures c.end_of.ensures in
    record { moved = moved; secret = moved_in_each forward_to_line_end c.args.self.now c.end_of.result moved }
