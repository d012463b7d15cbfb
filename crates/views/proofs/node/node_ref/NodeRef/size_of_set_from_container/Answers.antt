use Rattle.std.proofs.Common.{◌∙◌, sym, ap}
use Rattle.model.specs.Upward.{nearest_given}
use Rattle.views.specs.Nodes.{world_at}
use Rattle.views.proofs.Climbing.{climbs_on, found_is_higher}
use Rattle.views.proofs.Containers.{field_found, field_passed, none_included}
use Rattle.views.proofs.node.node_ref.NodeRef.size_of_set_from_container.Goals as goal

pub loop-container-smaller : goal.loop-container-smaller
loop-container-smaller g c = found_is_higher (world_at c.args.self.now) c.know.ensures.formed c.loop-container.current c.in-Some.container c.loop-container.invariant.world c.in-Some.ensures.above

pub returns-in-Some-size_of_set : goal.returns-in-Some-size_of_set
returns-in-Some-size_of_set g c = λ f follows.
    sym (field_found (world_at c.args.self.now) c.know.ensures.formed c.loop-container.current c.loop-container.invariant.world f follows c.in-Some.container c.in-Some.ensures.world c.in-Some.ensures.node
    (λ d. d.size_of_set) c.in-Some-size_of_set.size (sym c.in-Some-size_of_set.ensures))
    ∙ c.loop-container.invariant.sought f follows

pub loop-container-preserved : goal.loop-container-preserved
loop-container-preserved g c =
    climbs_on c.loop-container.invariant c.in-Some.container c.in-Some.ensures.world (λ f follows.
    field_passed (world_at c.args.self.now) c.know.ensures.formed c.loop-container.current c.loop-container.invariant.world f follows c.in-Some.container c.in-Some.ensures.world c.in-Some.ensures.node
    (λ d. d.size_of_set) (sym c.in_default-size_of_set.ensures))

pub returns : goal.returns
returns g c = λ f follows.
    let w = world_at c.args.self.now in
    sym (ap (nearest_given (λ d. d.size_of_set) w) (none_included w c.know.ensures.formed c.loop-container.current c.loop-container.invariant.world f follows c.in_default.ensures.node))
    ∙ c.loop-container.invariant.sought f follows
