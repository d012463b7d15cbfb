use Rattle.model.proofs.Update.RebuildIsThere.{rebuild_exists}
use Rattle.model.proofs.laws.worlds.rebuild_is_there.Goals as goal

pub returns : goal.returns
returns c = rebuild_exists
