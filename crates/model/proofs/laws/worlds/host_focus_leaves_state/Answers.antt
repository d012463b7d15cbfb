use Rattle.model.proofs.State.HostFocus.{host_leaves_state}
use Rattle.model.proofs.laws.worlds.host_focus_leaves_state.Goals as goal

pub returns : goal.returns
returns c = host_leaves_state
