use Rattle.std.proofs.Common.{refl}
use Rattle.model.specs.Differences.{events}
use Rattle.model.specs.Run.{ToHostFocus, Accepted}
use Rattle.trees.proofs.Deciding.{done_moved}
use Rattle.trees.proofs.tree_handle.Tree.update_host_focus_state_and_process_changes.Goals as goal

pub returns : goal.returns
returns g c =
    let told = c.refocus.ensures.told in
    done_moved g.H.TreeChangeHandler.steps c.args.handler.now c.refocus.new.handler c.self.inside.state c.args.self.now c.refocus.new.self (ToHostFocus c.args.is_host_focused) Accepted c.self.view_is
    (events c.self.inside.state c.refocus.new.self told.0, (c.refocus.ensures.state, told.0, told.1, refl), told.2)
