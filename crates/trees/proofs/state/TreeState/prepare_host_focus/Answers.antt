use Rattle.trees.proofs.Preparing.{prepared_for_host}
use Rattle.trees.proofs.state.TreeState.prepare_host_focus.Goals as goal

pub returns-clause-ok : goal.returns-clause-ok
returns-clause-ok c =
    prepared_for_host c.self.inside.store.world c.args.self c.args.is_host_focused c.in-Ok.events.items c.for_host_focus.result c.self.view_is
    c.in-Ok.ensures c.for_host_focus.ensures
