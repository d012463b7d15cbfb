use Rattle.texts.proofs.CharacterTests.{tells_after}
use Rattle.texts.proofs.position.TextPosition.has_character_after.Goals as goal

pub returns : goal.returns
returns c = tells_after c.args.self.now c.biased_to_start-start.result c.biased_to_start-start.ensures c.character_count.result c.character_count.ensures
