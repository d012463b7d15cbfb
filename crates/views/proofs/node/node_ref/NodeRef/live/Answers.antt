use Rattle.std.proofs.Common.{rules, ◌∙◌, ap}
use Rattle.std.specs.Prelude.{is_some, unwrap_or}
use Rattle.schema.specs.declared.values.Live.TheVariants.{Off}
use Rattle.views.specs.Nodes.{world_at, id_at}
use Rattle.views.proofs.Inheriting.{inherited_from, nothing_inherited}
use Rattle.views.proofs.node.node_ref.NodeRef.live.Goals as goal

pub returns-in_default : goal.returns-in_default
returns-in_default c =
    ap (λ o. unwrap_or o Off) (nothing_inherited (λ d. d.live) (world_at c.args.self.now) (id_at c.args.self.now) (c.in_default.ensures.node (λ d. is_some d.live) (search rules)))

pub returns : goal.returns
returns c =
    c.unwrap_or.ensures
    ∙ ap (λ o. unwrap_or o Off)
    (c.live.ensures
    ∙ inherited_from (λ d. d.live) (world_at c.args.self.now) (id_at c.args.self.now) c.in-Some.found c.in-Some.ensures.world (c.in-Some.ensures.node (λ d. is_some d.live) (search rules)))
