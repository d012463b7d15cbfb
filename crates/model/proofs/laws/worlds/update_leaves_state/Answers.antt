use Rattle.model.proofs.Update.UpdateLeavesState.{update_leaves_state}
use Rattle.model.proofs.laws.worlds.update_leaves_state.Goals as goal

pub returns : goal.returns
returns c = update_leaves_state
