use Rattle.std.proofs.Common.{◌≡◌, ◌<◌, Some, length, slice_get, refl, subst, ◌∙◌, arith}
use Rattle.std.proofs.lemmas.Option.{slice_get_read}
use Rattle.model.specs.World.{listed_ids}
use Rattle.model.specs.Update.{merged_world}
use Rattle.tree_plan.specs.Refusing.{Enqueues}
use Rattle.tree_plan.specs.Cases.{sent}
use Rattle.tree_plan.proofs.RefusingSteps.{searching_start, searching_more, searching_end}
use Rattle.tree_plan.proofs.refusing.work_off.Goals as goal

pub loop-position-init : goal.loop-position-init
loop-position-init g c = record {
  world = refl;
  searching = searching_start (g.L.LookUps.world c.args.look_ups.now) (sent c.args.case.now) c.args.search.now c.requires.search;
}

pub loop-position-preserved : goal.loop-position-preserved
loop-position-preserved g c =
    let w = g.L.LookUps.world c.args.look_ups.now in let u = sent c.args.case.now in
    let b = c.loop-position.search in
    let k = c.loop-position.position in
    let id = c.index-id.result.now in
    let lt : k < length b.queue.items = omega (arith, c.len.ensures, c.if-position-len.false) in
    let is : slice_get b.queue.items k ≡ Some id = slice_get_read b.queue.items (length b.queue.items) k id refl lt c.index-id.ensures in
    let adds : Enqueues (listed_ids (merged_world w u) id) b c.visit.new.search = subst (λ v. Enqueues (listed_ids (merged_world v u) id) b c.visit.new.search) c.loop-position.invariant.world c.in_ok-visit.ensures.ok in
    record {
      world = c.visit.ensures.world ∙ c.loop-position.invariant.world;
      searching = searching_more w u k id c.args.search.now b c.visit.new.search is c.loop-position.invariant.searching adds;
    }

pub returns-then-position-len-clause-ok : goal.returns-then-position-len-clause-ok
returns-then-position-len-clause-ok g c =
    searching_end (g.L.LookUps.world c.args.look_ups.now) (sent c.args.case.now) c.loop-position.position c.args.search.now c.loop-position.search (omega (arith, c.len.ensures, c.if-position-len.true)) c.loop-position.invariant.searching

pub returns-clause-ok : goal.returns-clause-ok
returns-clause-ok g c =
    searching_end (g.L.LookUps.world c.args.look_ups.now) (sent c.args.case.now) c.loop-position.position c.args.search.now c.loop-position.search (omega (arith, c.loop-position.search.queue.ok.0, c.loop-position-test.false)) c.loop-position.invariant.searching
