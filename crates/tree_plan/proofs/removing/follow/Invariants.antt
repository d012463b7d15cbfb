use Rattle.std.proofs.Common.{◌*◌}
use Rattle.tree_plan.specs.Looks.{LooksUpTo}
use Rattle.tree_plan.specs.Cases.{sent}
use Rattle.tree_plan.proofs.RemovingSteps.{IsFollowing}
use Rattle.tree_plan.proofs.removing.follow.Given as goal

abbrev pub ghost-expand : goal.ghost-expand
ghost-expand g a = g.before

abbrev pub invariant-loop-position : goal.invariant-loop-position
invariant-loop-position g l = record {
  looks : LooksUpTo g.L.LookUps.world g.L.LookUps.asked l.fn.look_ups (2 * l.position) l.look_ups;
  following : IsFollowing g.before (sent l.case) l.position l.fn.removing l.removing;
}
