use Rattle.std.proofs.Common.{◌≡◌, ◌+◌, arith, sym, ◌∙◌, ap, subst, length}
use Rattle.std.specs.Prelude.{is_some}
use Rattle.std.specs.List.{position_from}
use Rattle.std.proofs.lemmas.Iterator.Adapters.{position_from-zero}
use Rattle.model.specs.Forest.{is_same}
use Rattle.model.specs.Frontier.{filtered_children}
use Rattle.views.specs.Nodes.{world_at, id_at}
use Rattle.views.specs.Follows.{Follows}
use Rattle.views.specs.Walks.{ids_left}
use Rattle.views.proofs.Indexed.{passed_over}
use Rattle.views.proofs.Weights.{shown_fit}
use Rattle.views.proofs.walks.counts.index_below.Goals as goal

pub loop-node-init : goal.loop-node-init
loop-node-init g c =
    let below = c.below-course.ensures in
    record {
      world = below.world;
      passed = λ f follows.
          let left = below.list f follows in (
            left.0,
            omega (arith, ap length left.1),
            ap (position_from (is_same c.args.id) 0) left.1 ∙ sym (position_from-zero (is_same c.args.id) (filtered_children f (world_at c.args.top) (id_at c.args.top))),
          );
    }

pub loop-node-preserved : goal.loop-node-preserved
loop-node-preserved g c =
    let steps = c.in-Some.ensures.steps in
    let same = c.loop-node.invariant.world in
    record {
      world = steps.goes.world ∙ same;
      passed = λ f follows.
          let so_far = c.loop-node.invariant.passed f follows in
          let next = steps.list f (subst (λ v. Follows (g.F.Filter.answers c.args.filter.now) v f) (sym same) follows) so_far.0 in
          let fits = shown_fit c.know.ensures.state c.root_id-root.result c.root_id-root.ensures f (id_at c.args.top) (ap is_some c.args.top.known) in
          let more : c.saturating_add-index.result ≡ c.loop-node.index + 1 = omega (arith, ap length next.1, so_far.1, fits, c.know_count.ensures, c.saturating_add-index.ensures) in (
            next.0,
            omega (arith, more, ap length next.1, so_far.1),
            passed_over c.is_same.result c.args.id (id_at c.in-Some.node) (ids_left f c.take_front.new.self) (ids_left f c.loop-node.course) c.loop-node.index c.saturating_add-index.result _ c.is_same.ensures c.if-is_same.false next.1 more so_far.2,
          );
    }
