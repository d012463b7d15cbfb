use Rattle.std.proofs.Common.{◌≡◌, Some, option_copied, sym, ap, subst, ◌∙◌}
use Rattle.std.proofs.lemmas.Option.{same_Some}
use Rattle.model.specs.World.{World}
use Rattle.model.proofs.State.StatePlaces.{IsSome_is}
use Rattle.tree_changes.specs.LookUps.{IsPlaceOf}
use Rattle.tree_plan.specs.Passes.{at}
use Rattle.tree_plan.proofs.Ascents.{old_was}
use Rattle.tree_plan.proofs.climbing.old_place.Goals as goal

pub unwrap-requires : goal.unwrap-requires
unwrap-requires g c =
    let w : World = g.L.LookUps.world c.args.look_ups.now in
    let n = c.in-Some.named.now in
    let found : at c.args.compared.now.named c.args.id ≡ Some n = sym c.get.ensures.value ∙ ap option_copied c.in-Some.is in
    let f = old_was w c.args.id n c.requires.there (c.requires.named n found) in
    IsSome_is f.0 f.1

pub returns-in-Some-clause-place : goal.returns-in-Some-clause-place
returns-in-Some-clause-place g c =
    let w : World = g.L.LookUps.world c.args.look_ups.now in
    let n = c.in-Some.named.now in
    let found : at c.args.compared.now.named c.args.id ≡ Some n = sym c.get.ensures.value ∙ ap option_copied c.in-Some.is in
    let f = old_was w c.args.id n c.requires.there (c.requires.named n found) in
    subst (IsPlaceOf w c.args.id) (same_Some f.0 c.unwrap.result (sym f.1 ∙ c.unwrap.ensures)) f.2
