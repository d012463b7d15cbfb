use Rattle.std.proofs.Common.{sym, subst, ◌∙◌}
use Rattle.model.specs.Focus.{IsFocus}
use Rattle.model.specs.declared.FullNodeId.{FullNodeId}
use Rattle.std.specs.Option.{option_map}
use Rattle.views.specs.Nodes.{id_at}
use Rattle.tree_store.specs.Copied.{IsCopyOf, copy_at}
use Rattle.trees.proofs.Mirroring.{records_copied}
use Rattle.trees.proofs.mirror.Mirror.new.Goals as goal

pub returns : goal.returns
returns c =
    let shown = c.state.view_is ∙ c.state-state.ensures in
    records_copied c.args.tree.now c.in_ok-nodes.nodes.entries c.id_of-focus.result (subst (λ w. (id : FullNodeId) → IsCopyOf w id (copy_at c.in_ok-nodes.nodes.entries id)) shown c.in_ok-nodes.ensures)
    (subst (IsFocus c.args.tree.now) (sym c.id_of-focus.ensures) (subst (λ w. IsFocus w (option_map id_at c.focus.result)) c.state-state.ensures c.focus.ensures.node))
