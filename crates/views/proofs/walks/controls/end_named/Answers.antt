use Rattle.std.proofs.Common.{◌∙◌, arith}
use Rattle.views.specs.ShownWorlds.{world_of}
use Rattle.views.proofs.Named.{end_there, end_gone, fewer_beyond}
use Rattle.views.proofs.walks.controls.end_named.Goals as goal

pub returns-in-Some-node_by_id-clause-fewer : goal.returns-in-Some-node_by_id-clause-fewer
returns-in-Some-node_by_id-clause-fewer c = omega (arith, fewer_beyond c.args.from_back c.in-Some.node c.in-Some.rest.now c.loop-node.ids.now c.in-Some.ensures, c.loop-node.invariant.fewer)

pub returns-in-Some-node_by_id-clause-steps : goal.returns-in-Some-node_by_id-clause-steps
returns-in-Some-node_by_id-clause-steps c =
    c.loop-node.invariant.left
    ∙ end_there (world_of c.args.state) c.args.tree c.in-Some.node c.loop-node.ids.now c.in-Some.rest.now c.in-Some-node_by_id.found c.in-Some-node_by_id.ensures c.args.from_back c.in-Some.ensures

pub loop-node-smaller : goal.loop-node-smaller
loop-node-smaller c = fewer_beyond c.args.from_back c.in-Some.node c.in-Some.rest.now c.loop-node.ids.now c.in-Some.ensures

pub loop-node-preserved : goal.loop-node-preserved
loop-node-preserved c = record {
  fewer = omega (arith, fewer_beyond c.args.from_back c.in-Some.node c.in-Some.rest.now c.loop-node.ids.now c.in-Some.ensures, c.loop-node.invariant.fewer);
  left = c.loop-node.invariant.left
      ∙ end_gone (world_of c.args.state) c.args.tree c.in-Some.node c.loop-node.ids.now c.in-Some.rest.now c.in_default-node_by_id.ensures c.args.from_back c.in-Some.ensures;
}
