use Rattle.std.proofs.Common.{◌∙◌}
use Rattle.tree_plan.proofs.Moving.{listed_more, fresh_more}
use Rattle.tree_plan.proofs.planning.push_nodes.Goals as goal

pub loop-id-preserved : goal.loop-id-preserved
loop-id-preserved c = record {
  listed = c.in_ok-push.ensures.items
      ∙ listed_more c.args.nodes.now c.loop-id.id-index _ c.loop-id-test.true c.args.slots.now.items c.loop-id.slots.items c.loop-id.invariant.fresh
      c.loop-id.changes.items c.args.changes.now.items c.node_change.result c.node_change.ensures.moved c.loop-id.invariant.listed;
  fresh = fresh_more c.args.nodes.now c.loop-id.id-index _ c.loop-id-test.true c.args.slots.now.items c.loop-id.slots.items c.loop-id.invariant.fresh
      c.requires c.node_change.new.slots.items c.node_change.ensures.others;
}
