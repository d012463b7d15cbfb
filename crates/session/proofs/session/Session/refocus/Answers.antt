use Rattle.std.proofs.Common.{subst, sym}
use Rattle.model.specs.State.{IsState}
use Rattle.model.proofs.State.HostFocus.{host_leaves_state}
use Rattle.session.proofs.session.Session.refocus.Goals as goal

pub invariant_of-self : goal.invariant_of-self
invariant_of-self g c = subst IsState (sym c.update_host_focus_state_and_process_changes.ensures.1.0) (host_leaves_state _ _ c.self.invariant)

pub returns : goal.returns
returns g c = rw (sym c.self.view_is) c.update_host_focus_state_and_process_changes.ensures
