use Rattle.std.proofs.Common.{◌-◌, sym, ap, ◌∙◌, arith}
use Rattle.texts.specs.Positions.{position_text, flat_position}
use Rattle.texts.proofs.FlatPositions.{text_is_whole, is_position}
use Rattle.texts.proofs.PositionSteps.{room_before}
use Rattle.texts.proofs.CharacterMoves.{same_place, character_before}
use Rattle.texts.proofs.Secrecy.{moved_in_each}
use Rattle.model.specs.Moves.{backward_to_character_start}
use Rattle.texts.proofs.position.TextPosition.backward_to_character_start.Goals as goal

pub overflow_sub-result : goal.overflow_sub-result
overflow_sub-result c =
    let room = room_before c.args.self.now c.biased_to_end-end.result c.biased_to_end-end.ensures c.requires in
    omega (arith, room)

pub returns-clause-moved : goal.returns-clause-moved
returns-clause-moved c =
    let p = c.args.self.now in
    let q = c.biased_to_end-end.ensures.at in
    record { same = c.biased_to_end-end.ensures.same; at = same_place _ _ _ (ap (λ s. s.run) q) (ap (λ s. s.index - 1) q) ∙ sym (character_before (position_text p) (text_is_whole p) (flat_position p) (is_position p) c.requires) }

pub returns-clause-secret : goal.returns-clause-secret
returns-clause-secret c = moved_in_each backward_to_character_start c.args.self.now _ (returns-clause-moved c)
