use Rattle.std.proofs.Common.{◌≡◌, Some, None, option_map, option_copied, inr, ⊎_elim, sym, ap, ◌∙◌}
use Rattle.model.specs.World.{World}
use Rattle.model.proofs.State.StatePlaces.{IsSome_is}
use Rattle.tree_plan.specs.declared.passes.Arrival.{Arrival}
use Rattle.tree_plan.specs.Passes.{at}
use Rattle.tree_plan.proofs.Ascents.{stands_node}
use Rattle.tree_plan.proofs.climbing.parent_after.Goals as goal

pub old_place-requires-clause-there : goal.old_place-requires-clause-there
old_place-requires-clause-there g c =
    let w : World = g.L.LookUps.world c.args.look_ups.now in
    let none : at c.args.compared.now.entered c.args.id ≡ None = sym c.get.ensures.value ∙ ap option_copied c.in_default.is in
    let f = c.requires.next in
    ⊎_elim (λ e. let no : None ≡ Some (Some (f.0, f.1.0)) = sym (ap (option_map (λ (x : Arrival). x.spot)) none) ∙ e in cc) (λ h. stands_node w c.requires.old (f.0, f.1.0) c.args.id h.1) f.1.1

pub unwrap-requires-2 : goal.unwrap-requires-2
unwrap-requires-2 g c =
    let none : at c.args.compared.now.entered c.args.id ≡ None = sym c.get.ensures.value ∙ ap option_copied c.in_default.is in
    let f = c.requires.next in
    ⊎_elim (λ e. let no : None ≡ Some (Some (f.0, f.1.0)) = sym (ap (option_map (λ (x : Arrival). x.spot)) none) ∙ e in cc) (λ h. IsSome_is (f.0, f.1.0) ((c.old_place.ensures.place (f.0, f.1.0)).1 h.1)) f.1.1

pub returns-clause-next : goal.returns-clause-next
returns-clause-next g c =
    let none : at c.args.compared.now.entered c.args.id ≡ None = sym c.get.ensures.value ∙ ap option_copied c.in_default.is in
    (c.unwrap-2.result.1, inr (none, (c.old_place.ensures.place c.unwrap-2.result).0 c.unwrap-2.ensures))
