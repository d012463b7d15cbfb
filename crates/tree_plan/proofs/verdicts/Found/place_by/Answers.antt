use Rattle.std.proofs.Common.{◌≡◌, Some, option_map, ⊎_elim, sym, ap, subst, ◌∙◌}
use Rattle.model.proofs.Update.RulesOrFault.{no_some}
use Rattle.tree_plan.specs.declared.passes.Arrival.{Arrival}
use Rattle.tree_plan.specs.Passes.{at}
use Rattle.tree_plan.specs.Verdicts.{Moves}
use Rattle.tree_plan.proofs.Becoming.{by_spot, by_root, by_graft, by_none}
use Rattle.tree_plan.proofs.verdicts.Found.place_by.Goals as goal

pub returns-in_default-spot : goal.returns-in_default-spot
returns-in_default-spot g c =
    let is : at c.args.self.now.compared.entered c.args.id ≡ Some c.in-Some.arrival = sym c.requires.1 ∙ c.in-Some.is in
    λ _. by_root g.step c.args.self.now c.requires.0 c.args.id c.root_place.result c.root_place.ensures (ap (option_map (λ (x : Arrival). x.spot)) is ∙ ap Some c.in_default-spot.is)

pub returns-in-Some : goal.returns-in-Some
returns-in-Some g c =
    let is : at c.args.self.now.compared.entered c.args.id ≡ Some c.in-Some.arrival = sym c.requires.1 ∙ c.in-Some.is in
    λ _. by_spot g.step c.args.self.now c.requires.0 c.args.id c.in-Some-spot.place (ap (option_map (λ (x : Arrival). x.spot)) is ∙ ap Some c.in-Some-spot.is)

pub returns-in_err-graft : goal.returns-in_err-graft
returns-in_err-graft g c h =
    subst (Moves g.step c.args.id) (sym c.from_residual.ensures)
    (by_none g.step c.args.self.now c.requires.0 c.args.id (⊎_elim (λ stays. stays) (λ some. absurd (no_some c.from_residual.result c.from_residual.ensures some)) h) (sym c.requires.1 ∙ c.in_default.is) (sym c.in_err-graft.ensures.value))

pub returns : goal.returns
returns g c = λ _. by_graft g.step c.args.self.now c.requires.0 c.args.id c.in_ok-graft.graft.now (sym c.in_ok-graft.ensures.value)
