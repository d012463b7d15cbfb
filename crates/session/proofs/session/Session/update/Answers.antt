use Rattle.std.proofs.Common.{sym}
use Rattle.schema.specs.UpdateData.{update_data}
use Rattle.session.proofs.Running.{after_update}
use Rattle.session.proofs.session.Session.update.Goals as goal

pub invariant_of-self : goal.invariant_of-self
invariant_of-self g c = after_update _ _ (update_data c.args.update) c.update_and_process_changes.ensures.0 c.update_and_process_changes.result c.update_and_process_changes.ensures.1 c.self.invariant

pub returns : goal.returns
returns g c = rw (sym c.self.view_is, c.said.ensures) c.update_and_process_changes.ensures
