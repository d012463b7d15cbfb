use Rattle.std.proofs.Common.{◌+◌, ◌∙◌}
use Rattle.model.specs.FlatText.{FlatText, Position, biased_to_end, begins_format}
use Rattle.model.specs.Moves.{start_before}
use Rattle.texts.specs.Positions.{root_at, position_text, flat_position}
use Rattle.texts.proofs.TextEnds.{then_at}
use Rattle.texts.proofs.FlatPositions.{text_is_whole}
use Rattle.texts.proofs.FormatStarts.{from_end_side}
use Rattle.texts.proofs.Secrecy.{moved_in_each}
use Rattle.model.specs.Moves.{backward_to_format_start}
use Rattle.texts.proofs.position.TextPosition.backward_to_format_start.Goals as goal

pub returns-clause-moved : goal.returns-clause-moved
returns-clause-moved c =
    let p = c.args.self.now in
    let led = then_at (λ (t : FlatText) (q : Position). start_before t (q.run + 1) (begins_format t)) (root_at p) (biased_to_end (position_text p) (flat_position p)) c.biased_to_end.result c.start_of_format.result c.biased_to_end.ensures c.start_of_format.ensures in
    record { same = led.same; at = led.at ∙ from_end_side (position_text p) (flat_position p) (text_is_whole p).some }

pub returns-clause-secret : goal.returns-clause-secret
returns-clause-secret c = moved_in_each backward_to_format_start c.args.self.now _ (returns-clause-moved c)
