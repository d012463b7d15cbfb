use Rattle.model.proofs.Text.Characters as proof
use Rattle.model.proofs.laws.texts.characters_have_length.Goals as goal

pub returns : goal.returns
returns c = proof.have_length
