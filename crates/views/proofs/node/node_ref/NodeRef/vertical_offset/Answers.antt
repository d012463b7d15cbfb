use Rattle.std.proofs.Common.{rules, ◌∙◌}
use Rattle.std.specs.Prelude.{is_some}
use Rattle.views.specs.Nodes.{world_at, id_at}
use Rattle.views.proofs.Inheriting.{inherited_from, nothing_inherited}
use Rattle.views.proofs.node.node_ref.NodeRef.vertical_offset.Goals as goal

pub returns-in_err-nearest : goal.returns-in_err-nearest
returns-in_err-nearest c =
    c.from_residual.ensures
    ∙ nothing_inherited (λ d. d.vertical_offset) (world_at c.args.self.now) (id_at c.args.self.now) (c.in_err-nearest.ensures.node (λ d. is_some d.vertical_offset) (search rules))

pub returns : goal.returns
returns c =
    c.vertical_offset.ensures
    ∙ inherited_from (λ d. d.vertical_offset) (world_at c.args.self.now) (id_at c.args.self.now) c.in_ok-nearest.field-0 c.in_ok-nearest.ensures.world
    (c.in_ok-nearest.ensures.node (λ d. is_some d.vertical_offset) (search rules))
