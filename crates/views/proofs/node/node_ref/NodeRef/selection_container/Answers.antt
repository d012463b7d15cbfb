use Rattle.std.proofs.Common.{◌∙◌, sym, ap}
use Rattle.std.specs.Prelude.{find}
use Rattle.model.specs.RoleClasses.{is_container_with_selectable_children}
use Rattle.model.specs.Upward.{says}
use Rattle.views.specs.Nodes.{world_at}
use Rattle.views.proofs.Climbing.{climbs_on, found_is_higher}
use Rattle.views.proofs.Containers.{container_found, container_passed, none_included}
use Rattle.views.proofs.node.node_ref.NodeRef.selection_container.Goals as goal

pub loop-container-smaller : goal.loop-container-smaller
loop-container-smaller g c = found_is_higher (world_at c.args.self.now) c.know.ensures.formed c.loop-container.current c.in-Some.container c.loop-container.invariant.world c.in-Some.ensures.above

pub returns-then-is_container_with_selectable_children-clause-node : goal.returns-then-is_container_with_selectable_children-clause-node
returns-then-is_container_with_selectable_children-clause-node g c = λ f follows.
    sym (container_found (world_at c.args.self.now) c.know.ensures.formed c.loop-container.current c.loop-container.invariant.world f follows c.in-Some.container c.in-Some.ensures.world c.in-Some.ensures.node
    (λ d. is_container_with_selectable_children d.role) (sym c.is_container_with_selectable_children.ensures ∙ c.if-is_container_with_selectable_children.true))
    ∙ c.loop-container.invariant.sought f follows

pub loop-container-preserved : goal.loop-container-preserved
loop-container-preserved g c =
    climbs_on c.loop-container.invariant c.in-Some.container c.in-Some.ensures.world (λ f follows.
    container_passed (world_at c.args.self.now) c.know.ensures.formed c.loop-container.current c.loop-container.invariant.world f follows c.in-Some.container c.in-Some.ensures.world c.in-Some.ensures.node
    (λ d. is_container_with_selectable_children d.role) (sym c.is_container_with_selectable_children.ensures ∙ c.if-is_container_with_selectable_children.false))

pub returns-clause-node : goal.returns-clause-node
returns-clause-node g c = λ f follows.
    let w = world_at c.args.self.now in
    sym (ap (find (says (λ d. is_container_with_selectable_children d.role) w)) (none_included w c.know.ensures.formed c.loop-container.current c.loop-container.invariant.world f follows c.in_default.ensures.node))
    ∙ c.loop-container.invariant.sought f follows
