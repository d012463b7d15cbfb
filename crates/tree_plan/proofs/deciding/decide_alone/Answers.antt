use Rattle.tree_plan.proofs.FocusWays.{end_effective}
use Rattle.tree_plan.proofs.deciding.decide_alone.Goals as goal

pub returns-clause-ok : goal.returns-clause-ok
returns-clause-ok g c = record {
  nodes = c.into_entries-nodes.ensures.all;
  trees = c.new.ensures.items;
  events = c.in_ok-events.ensures.ok;
  focus = end_effective (g.L.LookUps.world c.args.look_ups.now) c.end_opened-end.result c.end_opened-end.ensures.end;
}
