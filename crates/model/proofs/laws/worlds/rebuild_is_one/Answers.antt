use Rattle.model.proofs.Update.RebuildIsOne.{rebuild_unique}
use Rattle.model.proofs.laws.worlds.rebuild_is_one.Goals as goal

pub returns : goal.returns
returns c = rebuild_unique
