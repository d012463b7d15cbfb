use Rattle.std.proofs.Common.{refl, ap, subst, ◌∙◌}
use Rattle.std.specs.Io.KnownBytes.{Appends}
use Rattle.model.specs.Forest.{IsFormed}
use Rattle.views.specs.Nodes.{world_at, id_at}
use Rattle.views.proofs.Climbing.{parent_of, climb_is_shorter}
use Rattle.compare.specs.Rows.{indent}
use Rattle.compare.proofs.ShownRows.{none_indented, more_indented, all_indented}
use Rattle.compare.proofs.row.write_indent.Goals as goal

pub loop-parent-init : goal.loop-parent-init
loop-parent-init g c = record { world = refl; written = none_indented (world_at c.args.node) (g.O.Write.contents c.args.out.now) (id_at c.args.node) }

pub loop-parent-smaller : goal.loop-parent-smaller
loop-parent-smaller g c =
    let w = world_at c.args.node in
    let n = c.loop-parent.current in
    climb_is_shorter w (subst IsFormed c.tree_state.ensures c.know.ensures.formed) (id_at n) (id_at c.in-Some.parent) (c.in-Some.ensures.node ∙ ap (λ v. parent_of v (id_at n)) c.loop-parent.invariant.world)

pub loop-parent-preserved : goal.loop-parent-preserved
loop-parent-preserved g c =
    let w = world_at c.args.node in
    let n = c.loop-parent.current in
    let q = c.in-Some.parent in
    let formed = subst IsFormed c.tree_state.ensures c.know.ensures.formed in
    let same = c.in-Some.ensures.world ∙ c.loop-parent.invariant.world in
    let parent = c.in-Some.ensures.node ∙ ap (λ v. parent_of v (id_at n)) c.loop-parent.invariant.world in
    record {
      world = same;
      written = more_indented w formed (g.O.Write.contents c.args.out.now) (g.O.Write.contents c.loop-parent.out) (g.O.Write.contents c.write_step.new.out) (id_at c.args.node) (id_at n) (id_at q) parent c.loop-parent.invariant.written
          (subst (λ v. Appends (g.O.Write.contents c.loop-parent.out) (g.O.Write.contents c.write_step.new.out) (indent v (id_at q))) same c.in_ok-write_step.ensures);
    }

pub returns : goal.returns
returns g c =
    let w = world_at c.args.node in
    let n = c.loop-parent.current in
    all_indented w (subst IsFormed c.tree_state.ensures c.know.ensures.formed) (g.O.Write.contents c.args.out.now) (g.O.Write.contents c.loop-parent.out) (id_at c.args.node) (id_at n)
    (c.in_default.ensures.node ∙ ap (λ v. parent_of v (id_at n)) c.loop-parent.invariant.world) c.loop-parent.invariant.written
