use Rattle.std.proofs.Common.{arith, sym, ◌∙◌, ap, subst, length}
use Rattle.std.specs.Prelude.{is_some}
use Rattle.views.specs.Nodes.{world_at, id_at}
use Rattle.views.specs.Follows.{Follows}
use Rattle.views.proofs.Weights.{shown_fit}
use Rattle.views.proofs.walks.counts.count_below.Goals as goal

pub loop-count-preserved : goal.loop-count-preserved
loop-count-preserved g c =
    let steps = c.in-Some.ensures.steps in
    let same = c.loop-count.invariant.world in
    record {
      world = steps.goes.world ∙ same;
      counted = λ f follows.
          let so_far = c.loop-count.invariant.counted f follows in
          let next = steps.list f (subst (λ v. Follows (g.F.Filter.answers c.args.filter.now) v f) (sym same) follows) so_far.0 in
          let fits = shown_fit c.know.ensures.state c.root_id-root.result c.root_id-root.ensures f (id_at c.args.top) (ap is_some c.args.top.known) in (
            next.0,
            omega (arith, ap length next.1, so_far.1, fits, c.know_count.ensures, c.saturating_add-count.ensures),
          );
    }
