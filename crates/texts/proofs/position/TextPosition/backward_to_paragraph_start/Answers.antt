use Rattle.std.proofs.Common.{◌+◌}
use Rattle.model.specs.FlatText.{FlatText, Position, biased_to_end, begins_paragraph}
use Rattle.model.specs.Moves.{start_before, backward_to_paragraph_start}
use Rattle.texts.proofs.TextEnds.{then_moved}
use Rattle.texts.proofs.Secrecy.{moved_in_each}
use Rattle.texts.proofs.position.TextPosition.backward_to_paragraph_start.Goals as goal

pub returns : goal.returns
returns c =
    let moved = then_moved biased_to_end (λ (t : FlatText) (q : Position). start_before t (q.run + 1) (begins_paragraph t)) c.args.self.now c.biased_to_end.result c.start_of.result c.biased_to_end.ensures c.start_of.ensures in
    record { moved = moved; secret = moved_in_each backward_to_paragraph_start c.args.self.now c.start_of.result moved }
