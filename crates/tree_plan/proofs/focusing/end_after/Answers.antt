use Rattle.std.proofs.Common.{◌≡◌, ◌<◌, ◌≤◌, ◌+◌, Option, Some, IsSome, length, sym, ap, subst, ◌∙◌, arith}
use Rattle.schema.specs.UpdateData.{UpdateData}
use Rattle.schema.specs.declared.TreeId.{TreeId}
use Rattle.model.specs.declared.FullNodeId.{FullNodeId}
use Rattle.model.specs.World.{World, focus_named, graft_name}
use Rattle.model.specs.Update.{FocusOnEmptyGraft, Stands, merged_world}
use Rattle.model.proofs.State.StatePlaces.{IsSome_is}
use Rattle.model.proofs.Update.Merges.{length_fits}
use Rattle.model.proofs.Surgery.FocusWalk.{lost_focus_stands}
use Rattle.tree_plan.specs.declared.passes.Compared.{Compared}
use Rattle.tree_plan.specs.declared.passes.Removed.{Removed}
use Rattle.tree_plan.specs.Aims.{IsAimIn, IsLost, IsStaying}
use Rattle.tree_plan.specs.Cases.{sent}
use Rattle.tree_plan.proofs.FocusWays.{new_top, new_begins, new_goes, new_short, new_reached, empty_stands, aim_graft}
use Rattle.tree_plan.proofs.focusing.end_after.Given as given
use Rattle.tree_plan.proofs.focusing.end_after.Goals as goal
use Rattle.tree_plan.proofs.focusing.end_after.Goals.{After-declared_after-in-loop-depth}

-- the node stays, it grafts a tree, and this is the focus that the tree declares
record IsGrafting (w : World) (u : UpdateData) (d : Compared) (r : Removed) (id : FullNodeId) (inner : TreeId) (focus : Option FullNodeId) : Type 0 where
  stays : IsStaying w d r id
  grafts : graft_name (merged_world w u) id ≡ Some inner
  declared : focus_named (merged_world w u) inner ≡ focus

grafting : (g : given.Over) (c : After-declared_after-in-loop-depth g) → IsGrafting (g.L.LookUps.world c.args.look_ups.now) (sent c.args.case.now) c.args.case.now.compared.now c.args.removed.now c.loop-depth.id c.in-Some-graft.inner c.declared_after-in-loop-depth.result
grafting g c =
    let u : UpdateData = sent c.args.case.now in
    let m : World = merged_world (g.L.LookUps.world c.args.look_ups.now) u in
    let id = c.loop-depth.id in
    let same = c.loop-depth.invariant.world in
    let aim : IsAimIn m id c.in-Some.aim = subst (λ v. IsAimIn (merged_world v u) id c.in-Some.aim) same c.in-Some.ensures.aim.1 in
    record {
      stays = subst (λ v. IsStaying v c.args.case.now.compared.now c.args.removed.now id) same c.in-Some.ensures.aim.0;
      grafts = aim_graft m id c.in-Some.aim aim ∙ c.in-Some-graft.is;
      declared = sym (c.declared_after-in-loop-depth.ensures.focus ∙ ap (focus_named (merged_world (g.L.LookUps.world c.aim_after.new.look_ups) u)) c.in-Some-graft.inner-is ∙ ap (λ v. focus_named (merged_world v u) c.in-Some-graft.inner) (c.aim_after.ensures.looks.0 ∙ same));
    }

pub unwrap-id-requires : goal.unwrap-id-requires
unwrap-id-requires g c =
    let w : World = g.L.LookUps.world c.args.look_ups.now in
    let u : UpdateData = sent c.args.case.now in
    let e = new_top w u c.requires.case.old c.requires.case.opening.opened in
    subst IsSome (sym (c.declared_after.ensures.focus ∙ ap (focus_named (merged_world w u)) c.root.ensures)) (IsSome_is e.0 e.1)

pub loop-depth-init : goal.loop-depth-init
loop-depth-init g c =
    let w : World = g.L.LookUps.world c.args.look_ups.now in
    let u : UpdateData = sent c.args.case.now in
    record {
      world = c.declared_after.ensures.looks.0;
      asked = (omega (arith, c.declared_after.ensures.looks.1.0), omega (arith, c.declared_after.ensures.looks.1.1));
      way = new_begins w u c.requires.case.old c.requires.case.opening.opened c.unwrap-id.result (sym (c.declared_after.ensures.focus ∙ ap (focus_named (merged_world w u)) c.root.ensures) ∙ c.unwrap-id.ensures);
    }

pub returns-in_default-clause-err : goal.returns-in_default-clause-err
returns-in_default-clause-err g c =
    let w : World = g.L.LookUps.world c.args.look_ups.now in
    let u : UpdateData = sent c.args.case.now in
    let id = c.loop-depth.id in
    let before = c.loop-depth.invariant in
    let lost : IsLost w u id = subst (λ v. IsLost v u id) before.world c.in_default.ensures.aim in
    lost_focus_stands w u c.requires.case.old c.requires.passed id before.way.0 lost.0 lost.1

pub returns-in_default-graft-clause-reached : goal.returns-in_default-graft-clause-reached
returns-in_default-graft-clause-reached g c =
    let w : World = g.L.LookUps.world c.args.look_ups.now in
    let u : UpdateData = sent c.args.case.now in
    let id = c.loop-depth.id in
    let stays : IsStaying w c.args.case.now.compared.now c.args.removed.now id = subst (λ v. IsStaying v c.args.case.now.compared.now c.args.removed.now id) c.loop-depth.invariant.world c.in-Some.ensures.aim.0 in
    rw c.end_at.ensures.id (new_reached w u c.requires.case.old c.args.case.now.compared.now c.args.removed.now c.requires.case.comparison c.requires.removal c.requires.passed id stays)

pub returns-in_default-graft-clause-counts : goal.returns-in_default-graft-clause-counts
returns-in_default-graft-clause-counts g c =
    let w : World = g.L.LookUps.world c.args.look_ups.now in
    let u : UpdateData = sent c.args.case.now in
    let before = c.loop-depth.invariant in
    let short : c.loop-depth._depth < length (merged_world w u).known = new_short w u c.requires.case.old c.args.case.now.compared.now c.args.removed.now c.requires.case.comparison c.requires.removal c.requires.passed c.loop-depth.id c.loop-depth._depth before.way in
    (omega (arith, short, c.aim_after.ensures.looks.1.0, before.asked.0), omega (arith, c.aim_after.ensures.looks.1.1, before.asked.1))

pub returns-in_default-declared_after-clause-err : goal.returns-in_default-declared_after-clause-err
returns-in_default-declared_after-clause-err g c =
    let w : World = g.L.LookUps.world c.args.look_ups.now in
    let u : UpdateData = sent c.args.case.now in
    let here = grafting g (goal.at.returns-in_default-declared_after-clause-err g c).After-declared_after-in-loop-depth in
    subst (λ n. Stands w u (FocusOnEmptyGraft n)) (sym c.in-Some-graft.inner-is)
    (empty_stands w u c.requires.case.old c.args.case.now.compared.now c.args.removed.now c.requires.case.comparison c.requires.removal c.requires.passed c.loop-depth.id c.in-Some-graft.inner c.loop-depth.invariant.way.0 here.stays here.grafts (here.declared ∙ c.in_default-declared_after.is))

pub loop-depth-preserved : goal.loop-depth-preserved
loop-depth-preserved g c =
    let here = grafting g (goal.at.loop-depth-preserved g c).After-declared_after-in-loop-depth in
    let before = c.loop-depth.invariant in
    let next = c.declared_after-in-loop-depth.ensures.looks in
    let looked = c.aim_after.ensures.looks in
    record {
      world = next.0 ∙ looked.0 ∙ before.world;
      asked = (omega (arith, next.1.0, looked.1.0, before.asked.0), omega (arith, next.1.1, looked.1.1, before.asked.1));
      way = new_goes _ _ c.requires.case.old c.args.case.now.compared.now c.args.removed.now c.requires.case.comparison c.requires.removal c.requires.passed c.loop-depth.id c.in-Some-declared_after.declared c.in-Some-graft.inner c.loop-depth._depth before.way here.stays here.grafts (here.declared ∙ c.in-Some-declared_after.is);
    }

pub unreachable-requires : goal.unreachable-requires
unreachable-requires g c =
    let w : World = g.L.LookUps.world c.args.look_ups.now in
    let u : UpdateData = sent c.args.case.now in
    let short : c.loop-depth._depth < length (merged_world w u).known = new_short w u c.requires.case.old c.args.case.now.compared.now c.args.removed.now c.requires.case.comparison c.requires.removal c.requires.passed c.loop-depth.id c.loop-depth._depth c.loop-depth.invariant.way in
    let most : length (merged_world w u).known ≤ length w.known + 1 = length_fits w u (length w.known + 1) (omega arith) (λ new. omega arith) in
    omega (arith, c.known_trees.ensures.count, c.from-limit.ensures, c.loop-depth-test.false)
