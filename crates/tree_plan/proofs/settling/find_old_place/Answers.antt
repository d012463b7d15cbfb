use Rattle.std.proofs.Common.{false, ◌≡◌, Some, None, sym, ◌∙◌}
use Rattle.std.specs.Prelude.{is_some}
use Rattle.model.specs.World.{data_of}
use Rattle.model.specs.Surgery.{Seat, Left}
use Rattle.model.proofs.Surgery.Spots.{at_is_node, node_stays}
use Rattle.tree_plan.specs.Passes.{at}
use Rattle.tree_plan.specs.Cases.{sent}
use Rattle.tree_plan.proofs.Arrived.{hasnt_left}
use Rattle.tree_plan.proofs.IdMaps.{some_is}
use Rattle.tree_plan.proofs.SettlingSteps.{stood_stays, stood_named, stood_and_left, stood_and_stays, named_there, missing_stands}
use Rattle.tree_plan.proofs.settling.find_old_place.Goals as goal

pub returns-in-Some-clause-ok : goal.returns-in-Some-clause-ok
returns-in-Some-clause-ok g c =
    let w = g.L.LookUps.world c.args.look_ups.now in
    let is : at c.args.case.now.compared.now.left c.args.id ≡ Some c.in-Some.spot = sym c.get_near.ensures ∙ c.in-Some.is in
    stood_and_left w (sent c.args.case.now) c.requires.case.old c.in-Some.spot c.args.id (c.requires.case.comparison.left c.args.id c.in-Some.spot is)

pub returns-in-Some-clause-there : goal.returns-in-Some-clause-there
returns-in-Some-clause-there g c =
    let w = g.L.LookUps.world c.args.look_ups.now in
    let is : at c.args.case.now.compared.now.left c.args.id ≡ Some c.in-Some.spot = sym c.get_near.ensures ∙ c.in-Some.is in
    let u = sent c.args.case.now in
    node_stays w u c.args.id (at_is_node w u c.requires.case.old c.in-Some.spot c.args.id (c.requires.case.comparison.left c.args.id c.in-Some.spot is).0)

pub returns-in-Some-get_near-clause-ok : goal.returns-in-Some-get_near-clause-ok
returns-in-Some-get_near-clause-ok g c =
    let w = g.L.LookUps.world c.args.look_ups.now in
    let u = sent c.args.case.now in
    let n = c.in-Some-get_near.named in
    let none : at c.args.case.now.compared.now.left c.args.id ≡ None = sym c.get_near.ensures ∙ c.in_default.is in
    let is : at c.args.case.now.compared.now.named c.args.id ≡ Some n = sym c.get_near-2.ensures ∙ c.in-Some-get_near.is in
    let stays : (s : Seat) → ¬ (Left w u s c.args.id) = hasnt_left w u c.args.case.now.compared.now c.requires.case.comparison c.args.id none c.requires.unshifted in
    stood_and_stays w u c.requires.case.old c.args.id n.was (stood_named w u c.requires.case.old c.args.case.now.compared.now c.requires.case.comparison c.args.id n c.requires.comes stays is) stays

pub returns-in-Some-get_near-clause-there : goal.returns-in-Some-get_near-clause-there
returns-in-Some-get_near-clause-there g c =
    let n = c.in-Some-get_near.named in
    let is : at c.args.case.now.compared.now.named c.args.id ≡ Some n = sym c.get_near-2.ensures ∙ c.in-Some-get_near.is in
    named_there (g.L.LookUps.world c.args.look_ups.now) (sent c.args.case.now) c.requires.case.old c.args.case.now.compared.now c.requires.case.comparison c.args.id n is

pub returns-in_default-node-clause-err : goal.returns-in_default-node-clause-err
returns-in_default-node-clause-err g c =
    let none : at c.args.case.now.compared.now.named c.args.id ≡ None = sym c.get_near-2.ensures ∙ c.in_default-get_near.is in
    missing_stands (g.L.LookUps.world c.args.look_ups.now) (sent c.args.case.now) c.requires.case.old c.args.case.now.compared.now c.requires.case.comparison c.args.id c.requires.comes.entered none
    (λ there. let absent : false ≡ is_some (data_of (g.L.LookUps.world c.args.look_ups.now) c.args.id) = c.in_default-node.ensures.found in cc)

pub returns-clause-ok : goal.returns-clause-ok
returns-clause-ok g c =
    let w = g.L.LookUps.world c.args.look_ups.now in
    let u = sent c.args.case.now in
    let none : at c.args.case.now.compared.now.left c.args.id ≡ None = sym c.get_near.ensures ∙ c.in_default.is in
    let stays : (s : Seat) → ¬ (Left w u s c.args.id) = hasnt_left w u c.args.case.now.compared.now c.requires.case.comparison c.args.id none c.requires.unshifted in
    stood_and_stays w u c.requires.case.old c.args.id (Some c.in-Some-node.record.place)
    (stood_stays w u c.requires.case.old c.args.id c.in-Some-node.record.place c.requires.comes stays (some_is _ _ c.in-Some-node.ensures.given.node) c.in-Some-node.ensures.given.place) stays

pub returns-clause-there : goal.returns-clause-there
returns-clause-there g c =
    node_stays (g.L.LookUps.world c.args.look_ups.now) (sent c.args.case.now) c.args.id (some_is _ _ c.in-Some-node.ensures.given.node)
