use Rattle.std.proofs.Common.{rules, ◌∙◌}
use Rattle.views.specs.Nodes.{world_at, id_at}
use Rattle.views.proofs.Inheriting.{said_where_found}
use Rattle.views.proofs.node.node_ref.NodeRef.is_italic.Goals as goal

pub returns : goal.returns
returns c =
    c.is_some.ensures
    ∙ said_where_found (λ d. d.italic) (world_at c.args.self.now) (id_at c.args.self.now) c.nearest.result (c.nearest.ensures.node (λ d. d.italic) (search rules))
