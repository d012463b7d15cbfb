use Rattle.std.proofs.Common.{◌+◌, sym, ap, ◌∙◌, arith}
use Rattle.texts.specs.Positions.{position_text, flat_position}
use Rattle.texts.proofs.FlatPositions.{text_is_whole, is_position}
use Rattle.texts.proofs.PositionSteps.{room_after}
use Rattle.texts.proofs.CharacterMoves.{same_place, character_end}
use Rattle.texts.proofs.Secrecy.{moved_in_each}
use Rattle.model.specs.Moves.{forward_to_character_end}
use Rattle.texts.proofs.position.TextPosition.forward_to_character_end.Goals as goal

pub overflow_add-result : goal.overflow_add-result
overflow_add-result c =
    let room = room_after c.args.self.now c.biased_to_start-start.result c.biased_to_start-start.ensures c.requires in
    omega (arith, room, c.character_count-count.ensures, c.character_count-count.type_inv)

pub invariant_of-result : goal.invariant_of-result
invariant_of-result c =
    let room = room_after c.args.self.now c.biased_to_start-start.result c.biased_to_start-start.ensures c.requires in
    record { text = c.biased_to_start-start.result.text; within = omega (arith, room) }

pub returns-clause-moved : goal.returns-clause-moved
returns-clause-moved c =
    let p = c.args.self.now in
    let q = c.biased_to_start-start.ensures.at in
    record { same = c.biased_to_start-start.ensures.same; at = same_place _ _ _ (ap (λ s. s.run) q) (ap (λ s. s.index + 1) q) ∙ sym (character_end (position_text p) (text_is_whole p) (flat_position p) (is_position p) c.requires) }

pub returns-clause-secret : goal.returns-clause-secret
returns-clause-secret c = moved_in_each forward_to_character_end c.args.self.now _ (returns-clause-moved c)
