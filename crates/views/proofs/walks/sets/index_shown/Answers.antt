use Rattle.std.proofs.Common.{◌≡◌, true, List, drop, suc, arith, sym, ◌∙◌, ap, subst, inl, inr}
use Rattle.std.specs.Prelude.{is_some, Some, Contains}
use Rattle.std.proofs.lemmas.Option.{slice_get_within}
use Rattle.schema.specs.Roles.{same_role}
use Rattle.model.specs.declared.FullNodeId.{FullNodeId}
use Rattle.model.specs.Upward.{says}
use Rattle.model.specs.Frontier.{filtered_children}
use Rattle.model.proofs.Members.{contains_cases}
use Rattle.views.specs.Nodes.{world_at, id_at}
use Rattle.views.specs.Follows.{Follows}
use Rattle.views.specs.Walks.{ids_left}
use Rattle.views.specs.RoleSets.{of_role}
use Rattle.views.proofs.Counting.{role_seen, role_taken, drop_head}
use Rattle.views.proofs.Walked.{apart}
use Rattle.views.proofs.Weights.{shown_fit, filter_fits}
use Rattle.views.proofs.walks.sets.index_shown.Goals as goal

pub returns-then-is_same : goal.returns-then-is_same
returns-then-is_same g c = λ f follows inside.
    let w = world_at c.args.top in
    let steps = c.in-Some.ensures.steps in
    let same = c.loop-node.invariant.world in
    let so_far = c.loop-node.invariant.passed f follows inside in
    let next = steps.list f (subst (λ v. Follows (g.F.Filter.answers c.args.filter.now) v f) (sym same) follows) so_far.0 in
    let seen = role_seen w c.args.role c.in-Some.node true (steps.goes.item ∙ same) (sym c.if-not-has_role.false ∙ c.has_role.ensures) in
    let taken = role_taken w c.args.role (ids_left f c.loop-node.course) (ids_left f c.take_front.new.self) (id_at c.in-Some.node) true next.1 seen in
    (drop_head (of_role w c.args.role (filtered_children f w (id_at c.args.top))) c.loop-node.index (id_at c.in-Some.node) (of_role w c.args.role (ids_left f c.take_front.new.self)) (so_far.1 ∙ taken)).0
    ∙ ap Some (c.is_same.ensures.0 c.if-is_same.true)

pub loop-node-preserved : goal.loop-node-preserved
loop-node-preserved g c =
    let w = world_at c.args.top in
    let steps = c.in-Some.ensures.steps in
    let same = c.loop-node.invariant.world in
    record {
      world = steps.goes.world ∙ same;
      passed = λ f follows inside.
          let all : List FullNodeId = of_role w c.args.role (filtered_children f w (id_at c.args.top)) in
          let rest : List FullNodeId = of_role w c.args.role (ids_left f c.take_front.new.self) in
          let so_far = c.loop-node.invariant.passed f follows inside in
          let next = steps.list f (subst (λ v. Follows (g.F.Filter.answers c.args.filter.now) v f) (sym same) follows) so_far.0 in
          let seen = role_seen w c.args.role c.in-Some.node true (steps.goes.item ∙ same) (sym c.if-not-has_role.false ∙ c.has_role.ensures) in
          let taken = role_taken w c.args.role (ids_left f c.loop-node.course) (ids_left f c.take_front.new.self) (id_at c.in-Some.node) true next.1 seen in
          let here = drop_head all c.loop-node.index (id_at c.in-Some.node) rest (so_far.1 ∙ taken) in
          let fits = shown_fit c.know.ensures.state c.root_id-root.result c.root_id-root.ensures f (id_at c.args.top) (ap is_some c.args.top.known) in
          let more : c.saturating_add-index.result ≡ suc c.loop-node.index = omega (
            arith,
            slice_get_within all c.loop-node.index (id_at c.in-Some.node) here.0,
            filter_fits (says (λ d. same_role d.role c.args.role) w) (filtered_children f w (id_at c.args.top)),
            fits,
            c.know_count.ensures,
            c.saturating_add-index.ensures,
          ) in (
            next.0,
            ap (λ n. drop n all) more ∙ here.1,
            elim (contains_cases (id_at c.in-Some.node) c.args.id rest (subst (λ xs. Contains xs c.args.id) taken so_far.2)) [
              | inl found ↦ absurd (apart c.is_same.result c.in-Some.node.id c.args.id c.is_same.ensures c.if-is_same.false found)
              | inr later ↦ later
            ],
          );
    }
