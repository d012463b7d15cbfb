use Rattle.std.proofs.Common.{◌*◌, ◌≡◌, Some, slice_get, refl, ◌∙◌, arith}
use Rattle.tree_plan.specs.Cases.{sent}
use Rattle.tree_plan.proofs.IdMaps.{contains_at, read_at}
use Rattle.tree_plan.proofs.Passing.{looks_more}
use Rattle.tree_plan.proofs.RemovingSteps.{following_fresh, following_more, following_end}
use Rattle.tree_plan.proofs.removing.follow.Given as given
use Rattle.tree_plan.proofs.removing.follow.Goals as goal
use Rattle.tree_plan.proofs.removing.follow.Goals.{After-index-id}

-- the node of a turn
read : (g : given.Over) (c : After-index-id g) → slice_get c.loop-position.removing.queue.items c.loop-position.position ≡ Some c.index-id.result.now
read g c = read_at c.loop-position.removing.queue.items _ refl c.loop-position.position c.index-id.result.now (omega (arith, c.len.ensures, c.if-position-len.false)) c.index-id.ensures

pub expand-requires : goal.expand-requires
expand-requires g c κs short =
    let is = read g (goal.at.expand-requires g c).After-index-id in
    let case = c.requires.1.1.0.case in
    let i = c.loop-position.invariant in
    let fresh = following_fresh g.before (sent c.args.case.now) case.old c.loop-position.position _ c.args.removing.now c.loop-position.removing is i.following in
    (short, (i.looks.0 ∙ c.requires.1.0, (record { case = case; found = i.following.found }, (contains_at _ c.loop-position.position _ is, fresh))))

pub loop-position-preserved : goal.loop-position-preserved
loop-position-preserved g c =
    record {
      looks = looks_more g.L.LookUps.world g.L.LookUps.asked c.args.look_ups.now c.loop-position.look_ups c.expand.new.look_ups (2 * c.loop-position.position) 2 _ (omega arith) c.loop-position.invariant.looks c.expand.ensures.looks;
      following = following_more _ _ c.loop-position.position c.index-id.result.now c.args.removing.now c.loop-position.removing c.expand.new.removing (read g (goal.at.loop-position-preserved g c).After-index-id) c.loop-position.invariant.following c.in_ok-expand.ensures.ok;
    }

pub returns-then-position-len-clause-ok : goal.returns-then-position-len-clause-ok
returns-then-position-len-clause-ok g c =
    following_end g.before (sent c.args.case.now) c.loop-position.position c.args.removing.now c.loop-position.removing (omega (arith, c.len.ensures, c.if-position-len.true)) c.loop-position.invariant.following
