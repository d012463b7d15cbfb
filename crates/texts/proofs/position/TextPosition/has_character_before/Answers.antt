use Rattle.texts.proofs.CharacterTests.{tells_before}
use Rattle.texts.proofs.position.TextPosition.has_character_before.Goals as goal

pub returns : goal.returns
returns c = tells_before c.args.self.now c.biased_to_end.result c.biased_to_end.ensures
