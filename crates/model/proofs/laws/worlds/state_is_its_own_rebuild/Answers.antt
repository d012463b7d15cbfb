use Rattle.model.proofs.Update.StateIsItsOwnRebuild.{idle_merged, idle_accepted}
use Rattle.model.proofs.laws.worlds.state_is_its_own_rebuild.Goals as goal

pub returns : goal.returns
returns c = λ w t s is. (idle_merged w t s is, idle_accepted w t s is)
