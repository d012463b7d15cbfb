use Rattle.std.proofs.Common.{rules, ◌∙◌, sym}
use Rattle.model.specs.Forest.{is_same}
use Rattle.views.specs.Nodes.{world_at, id_at}
use Rattle.views.proofs.Climbing.{tested_same, within_itself, within_where_found}
use Rattle.views.proofs.node.node_ref.NodeRef.is_descendant_of.Goals as goal

pub returns-then-is_same : goal.returns-then-is_same
returns-then-is_same c = c.if-is_same.true ∙ within_itself (world_at c.args.self.now) (id_at c.args.ancestor.now) (id_at c.args.self.now) (c.is_same.ensures.0 c.if-is_same.true)

pub returns-else-is_same : goal.returns-else-is_same
returns-else-is_same c =
    let top = id_at c.args.ancestor.now in
    let id = id_at c.args.self.now in
    c.is_some.ensures
    ∙ within_where_found (world_at c.args.self.now) top id c.nearest_ancestor.result (sym (tested_same top id c.is_same.result c.is_same.ensures) ∙ c.if-is_same.false)
    (c.nearest_ancestor.ensures.node (is_same top) (record { at = λ n r same says. search (rules, tested_same) }))
