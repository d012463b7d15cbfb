use Rattle.model.proofs.Alike.Runs as proved
use Rattle.model.proofs.laws.secrets.runs_keep_secret.Goals as goal

pub returns : goal.returns
returns c = proved.runs_keep_secret
