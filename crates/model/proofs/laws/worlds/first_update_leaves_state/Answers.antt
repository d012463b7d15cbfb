use Rattle.model.proofs.Update.UpdateLeavesState.{first_leaves_state}
use Rattle.model.proofs.laws.worlds.first_update_leaves_state.Goals as goal

pub returns : goal.returns
returns c = first_leaves_state
