use Rattle.model.proofs.Alike.Commands as proved
use Rattle.model.proofs.laws.secrets.commands_keep_secret.Goals as goal

pub returns : goal.returns
returns c = proved.commands_keep_secret
