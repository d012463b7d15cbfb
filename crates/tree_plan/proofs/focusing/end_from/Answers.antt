use Rattle.std.proofs.Common.{◌≡◌, ◌<◌, ◌≤◌, Some, IsSome, length, refl, sym, ap, subst, ◌∙◌, arith}
use Rattle.model.specs.World.{World, focus_named, graft_name}
use Rattle.tree_plan.specs.Aims.{IsAimIn}
use Rattle.tree_plan.proofs.FocusWays.{old_begins, old_goes, old_next_there, old_short, aim_graft}
use Rattle.tree_plan.proofs.focusing.end_from.Given as given
use Rattle.tree_plan.proofs.focusing.end_from.Goals as goal
use Rattle.tree_plan.proofs.focusing.end_from.Goals.{After-declared}

pub loop-depth-init : goal.loop-depth-init
loop-depth-init g c =
    let w : World = g.L.LookUps.world c.args.look_ups.now in
    record {
      world = refl;
      asked = (omega arith, omega arith);
      way = old_begins w c.requires.old c.requires.present c.args.first c.requires.first;
    }

-- the node grafts a tree, and this is the focus that the tree declares
grafting : (g : given.Over) (c : After-declared g) →
    let w = g.L.LookUps.world c.args.look_ups.now in
    (graft_name w c.loop-depth.id ≡ Some c.in-Some.inner) × (c.declared.result ≡ focus_named w c.in-Some.inner)
grafting g c =
    let same = c.loop-depth.invariant.world in
    let id = c.loop-depth.id in
    let v : World = g.L.LookUps.world c.loop-depth.look_ups in
    let aim : IsAimIn v id c.unwrap-aim.result = rw c.unwrap-aim.ensures at c.old_aim.ensures.aim in (
      ap (λ v. graft_name v id) (sym same) ∙ aim_graft v id c.unwrap-aim.result aim ∙ c.in-Some.is,
      c.declared.ensures.focus ∙ ap (focus_named (g.L.LookUps.world c.old_aim.new.look_ups)) c.in-Some.inner-is ∙ ap (λ v. focus_named v c.in-Some.inner) (c.old_aim.ensures.looks.0 ∙ same),
    )

pub unwrap-id-requires : goal.unwrap-id-requires
unwrap-id-requires g c =
    let here = grafting g (goal.at.unwrap-id-requires g c).After-declared in
    subst IsSome (sym here.1) (old_next_there _ c.requires.old c.loop-depth.id c.in-Some.inner c.loop-depth.invariant.way.0 here.0)

pub loop-depth-preserved : goal.loop-depth-preserved
loop-depth-preserved g c =
    let here = grafting g (goal.at.loop-depth-preserved g c).After-declared in
    let before = c.loop-depth.invariant in
    let next = c.declared.ensures.looks in
    let looked = c.old_aim.ensures.looks in
    record {
      world = next.0 ∙ looked.0 ∙ before.world;
      asked = (omega (arith, next.1.0, looked.1.0, before.asked.0), omega (arith, next.1.1, looked.1.1, before.asked.1));
      way = old_goes _ c.requires.old c.loop-depth.id c.unwrap-id.result c.in-Some.inner c.loop-depth._depth before.way here.0 (sym here.1 ∙ c.unwrap-id.ensures);
    }

pub unreachable-requires : goal.unreachable-requires
unreachable-requires g c =
    let w : World = g.L.LookUps.world c.args.look_ups.now in
    let short : c.loop-depth._depth < length w.known = old_short w c.requires.old c.requires.present c.loop-depth.id c.loop-depth._depth c.loop-depth.invariant.way in
    let known : c.known_trees-depth-end.result ≡ length w.known = c.known_trees-depth-end.ensures.count in
    let all : c.known_trees-depth-end.result ≤ c.loop-depth._depth = c.loop-depth-test.false in
    omega arith
