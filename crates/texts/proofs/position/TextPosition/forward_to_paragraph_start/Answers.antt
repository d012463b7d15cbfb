use Rattle.model.specs.FlatText.{FlatText, Position, biased_to_start, ends_paragraph}
use Rattle.model.specs.Moves.{end_from, forward_to_paragraph_start}
use Rattle.texts.proofs.TextEnds.{then_moved}
use Rattle.texts.proofs.Secrecy.{moved_in_each}
use Rattle.texts.proofs.position.TextPosition.forward_to_paragraph_start.Goals as goal

pub returns : goal.returns
returns c =
    let moved = then_moved (λ (t : FlatText) (q : Position). end_from t q.run (ends_paragraph t)) biased_to_start c.args.self.now c.end_of.result c.biased_to_start.result c.end_of.ensures c.biased_to_start.ensures in
    record { moved = moved; secret = moved_in_each forward_to_paragraph_start c.args.self.now c.biased_to_start.result moved }
