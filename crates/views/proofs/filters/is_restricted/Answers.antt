use Rattle.std.proofs.Common.{rules, ◌∙◌, ◌||◌}
use Rattle.views.specs.Nodes.{world_at, id_at}
use Rattle.views.proofs.Inheriting.{said_where_found}
use Rattle.views.proofs.filters.is_restricted.Goals as goal

pub returns : goal.returns
returns c =
    c.is_some.ensures
    ∙ said_where_found (λ d. d.hidden || d.clips_children) (world_at c.args.node.now) (id_at c.args.node.now) c.nearest.result (c.nearest.ensures.node (λ d. d.hidden || d.clips_children) (search rules))
