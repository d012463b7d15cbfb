use Rattle.model.specs.FlatText.{biased_to_end}
use Rattle.model.specs.Moves.{forward_to_format_start, forward_to_format_end}
use Rattle.texts.proofs.TextEnds.{then_moved}
use Rattle.texts.proofs.Secrecy.{moved_in_each}
use Rattle.texts.proofs.position.TextPosition.forward_to_format_end.Goals as goal

pub returns : goal.returns
returns c =
    let moved = then_moved forward_to_format_start biased_to_end c.args.self.now c.forward_to_format_start.result c.biased_to_end.result c.forward_to_format_start.ensures.moved c.biased_to_end.ensures in
    record { moved = moved; secret = moved_in_each forward_to_format_end c.args.self.now c.biased_to_end.result moved }
