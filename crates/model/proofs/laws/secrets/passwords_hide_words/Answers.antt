use Rattle.model.proofs.Alike.Words.{no_words}
use Rattle.model.proofs.laws.secrets.passwords_hide_words.Goals as goal

pub returns : goal.returns
returns c = no_words
