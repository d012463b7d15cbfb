use Rattle.std.proofs.Common.{sym, subst, arith, refl, ◌∙◌}
use Rattle.std.proofs.lemmas.Option.{slice_get_within}
use Rattle.model.specs.World.{StandsAt, children}
use Rattle.model.proofs.Forest.PlaceOf.{stands_at_place, parent_is_node}
use Rattle.views.specs.ShownWorlds.{world_of}
use Rattle.views.proofs.state_ref.StateRef.spot.Goals as goal

pub member-parent-requires : goal.member-parent-requires
member-parent-requires c =
    let w = world_of c.args.self in
    parent_is_node w (c.in_ok-parent.parent, c.in_ok-parent.index) c.args.member.id (stands_at_place w c.args.member.id (c.in_ok-parent.parent, c.in_ok-parent.index) (sym c.requires.placed ∙ c.in_ok-parent.was))

stands : (c : goal.After-child_count-count) → StandsAt (world_of c.args.self) (c.member-parent.result.id, c.in_ok-parent.index) c.args.member.id
stands c =
    let w = world_of c.args.self in
    subst (λ p. StandsAt w (p, c.in_ok-parent.index) c.args.member.id) (sym c.member-parent.ensures.is)
    (stands_at_place w c.args.member.id (c.in_ok-parent.parent, c.in_ok-parent.index) (sym c.requires.placed ∙ c.in_ok-parent.was))

pub returns-clause-there : goal.returns-clause-there
returns-clause-there c = (record { parent = c.member-parent.ensures.known; member = c.requires; stands = stands c }, refl)

pub returns-clause-fits : goal.returns-clause-fits
returns-clause-fits c =
    omega (arith, c.child_count-count.ensures, c.child_count-count.type_inv, slice_get_within (children (world_of c.args.self) c.member-parent.result.id) c.in_ok-parent.index c.args.member.id (stands c))
