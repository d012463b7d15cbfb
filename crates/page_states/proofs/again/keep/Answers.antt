use Rattle.std.proofs.Common.{Some, subst}
use Rattle.std.specs.BTreeMap.{Updates}
use Rattle.model.specs.declared.FullNodeId.{FullNodeId}
use Rattle.model.specs.FullIds.{full_cmp}
use Rattle.views.specs.Nodes.{id_at}
use Rattle.page_states.specs.declared.again.Last.{Last}
use Rattle.page_states.proofs.again.keep.Goals as goal

pub returns : goal.returns
returns c =
    let before = c.args.kept.now in let after = c.insert.new.self in
    let node = id_at c.args.row.shown.place.node in
    subst (λ (last : Last). Updates full_cmp before after node (Some last)) c.last_of.ensures
    (subst (λ (id : FullNodeId). Updates full_cmp before after id (Some c.last_of.result)) c.id-id.ensures c.in_ok-insert.ensures.updates)
