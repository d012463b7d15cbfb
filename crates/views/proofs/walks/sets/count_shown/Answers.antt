use Rattle.std.proofs.Common.{true, arith, sym, ◌∙◌, ap, subst}
use Rattle.std.specs.Prelude.{is_some}
use Rattle.schema.specs.Roles.{same_role}
use Rattle.model.specs.Upward.{says}
use Rattle.model.specs.Frontier.{filtered_children}
use Rattle.views.specs.Nodes.{world_at, id_at}
use Rattle.views.specs.Follows.{Follows}
use Rattle.views.specs.Walks.{ids_left}
use Rattle.views.proofs.Counting.{role_seen, one_counted}
use Rattle.views.proofs.Weights.{shown_fit, filter_fits}
use Rattle.views.proofs.walks.sets.count_shown.Goals as goal

pub loop-node-preserved-then-has_role : goal.loop-node-preserved-then-has_role
loop-node-preserved-then-has_role g c =
    let w = world_at c.args.top in
    let steps = c.in-Some.ensures.steps in
    let same = c.loop-node.invariant.world in
    record {
      world = steps.goes.world ∙ same;
      counted = λ f follows.
          let so_far = c.loop-node.invariant.counted f follows in
          let next = steps.list f (subst (λ v. Follows (g.F.Filter.answers c.args.filter.now) v f) (sym same) follows) so_far.0 in
          let seen = role_seen w c.args.role c.in-Some.node true (steps.goes.item ∙ same) (sym c.if-has_role.true ∙ c.has_role.ensures) in
          let more = one_counted w c.args.role (ids_left f c.loop-node.course) (ids_left f c.take_front.new.self) (id_at c.in-Some.node) c.loop-node.count _ next.1 seen so_far.1 in
          let fits = shown_fit c.know.ensures.state c.root_id-root.result c.root_id-root.ensures f (id_at c.args.top) (ap is_some c.args.top.known) in (
            next.0,
            omega (arith, more, fits, filter_fits (says (λ d. same_role d.role c.args.role) w) (filtered_children f w (id_at c.args.top)), c.know_count.ensures, c.saturating_add-count.ensures),
          );
    }
