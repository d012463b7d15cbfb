use Rattle.fed_tree.proofs.Focusing.{focus_found}
use Rattle.fed_tree.proofs.whole.declared_focus.Goals as goal

pub returns : goal.returns
returns c = focus_found _ c.state.result.now _ _ c.state.ensures c.view-state.ensures c.know.ensures.state c.focus_id_in_tree.ensures
