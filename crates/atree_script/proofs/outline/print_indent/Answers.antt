use Rattle.std.proofs.Common.{[], ◌++◌, refl, ap, subst, ◌∙◌}
use Rattle.std.specs.Prelude.{codes}
use Rattle.std.specs.Io.KnownBytes.{Appends}
use Rattle.std.proofs.KnownBytes.{Appends-nil, Appends-trans}
use Rattle.model.specs.Lists.{ancestors}
use Rattle.model.specs.Forest.{IsFormed}
use Rattle.views.specs.Nodes.{world_at, id_at}
use Rattle.views.proofs.Climbing.{parent_of, climb_is_shorter}
use Rattle.atree_script.specs.Outline.{spaces_for}
use Rattle.atree_script.proofs.TreeLines.{spaces_more, spaces_all}
use Rattle.atree_script.proofs.outline.print_indent.Goals as goal

pub loop-parent-init : goal.loop-parent-init
loop-parent-init g c = record { world = refl; written = ([], Appends-nil (g.O.Write.contents c.args.out.now), refl) }

pub loop-parent-smaller : goal.loop-parent-smaller
loop-parent-smaller g c =
    let w = world_at c.args.node in
    let n = c.loop-parent.current in
    climb_is_shorter w (subst IsFormed c.tree_state.ensures c.know.ensures.formed) (id_at n) (id_at c.in-Some.parent) (c.in-Some.ensures.node ∙ ap (λ v. parent_of v (id_at n)) c.loop-parent.invariant.world)

pub loop-parent-preserved : goal.loop-parent-preserved
loop-parent-preserved g c =
    let w = world_at c.args.node in
    let n = c.loop-parent.current in
    let so_far = c.loop-parent.invariant.written in
    let before = g.O.Write.contents c.args.out.now in
    record {
      world = c.in-Some.ensures.world ∙ c.loop-parent.invariant.world;
      written = (
        so_far.0 ++ codes "  ",
        Appends-trans before (g.O.Write.contents c.loop-parent.out) (g.O.Write.contents c.write_all.new.self) so_far.0 (codes "  ") so_far.1 c.in_ok-write_all.ensures.bytes,
        spaces_more w (subst IsFormed c.tree_state.ensures c.know.ensures.formed) (id_at n) so_far.0 (spaces_for (ancestors w (id_at c.args.node))) so_far.2 (id_at c.in-Some.parent)
            (c.in-Some.ensures.node ∙ ap (λ v. parent_of v (id_at n)) c.loop-parent.invariant.world),
      );
    }

pub returns : goal.returns
returns g c =
    let w = world_at c.args.node in
    let n = c.loop-parent.current in
    let so_far = c.loop-parent.invariant.written in
    let all = spaces_all w (subst IsFormed c.tree_state.ensures c.know.ensures.formed) (id_at n) so_far.0 (spaces_for (ancestors w (id_at c.args.node))) so_far.2 (c.in_default.ensures.node ∙ ap (λ v. parent_of v (id_at n)) c.loop-parent.invariant.world) in
    subst (Appends (g.O.Write.contents c.args.out.now) (g.O.Write.contents c.loop-parent.out)) all so_far.1
