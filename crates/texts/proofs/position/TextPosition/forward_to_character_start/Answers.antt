use Rattle.std.proofs.Common.{sym, ap, ◌∙◌}
use Rattle.model.specs.FlatText.{biased_to_start}
use Rattle.texts.specs.Positions.{node_text, position_text, flat_position}
use Rattle.texts.proofs.FlatPositions.{text_is_whole, is_position}
use Rattle.texts.proofs.CharacterMoves.{character_start}
use Rattle.texts.proofs.Secrecy.{moved_in_each}
use Rattle.model.specs.Moves.{forward_to_character_start}
use Rattle.texts.proofs.position.TextPosition.forward_to_character_start.Goals as goal

pub returns-clause-moved : goal.returns-clause-moved
returns-clause-moved c =
    let p = c.args.self.now in
    let e = c.forward_to_character_end.result in
    record {
      same = c.biased_to_start.ensures.same ∙ c.forward_to_character_end.ensures.moved.same;
      at = c.biased_to_start.ensures.at ∙ ap (λ n. biased_to_start (node_text n) (flat_position e)) c.forward_to_character_end.ensures.moved.same ∙ ap (biased_to_start (position_text p)) c.forward_to_character_end.ensures.moved.at
          ∙ sym (character_start (position_text p) (text_is_whole p) (flat_position p) (is_position p) c.requires);
    }

pub returns-clause-secret : goal.returns-clause-secret
returns-clause-secret c = moved_in_each forward_to_character_start c.args.self.now _ (returns-clause-moved c)
