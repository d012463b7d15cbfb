use Rattle.std.proofs.Common.{◌≡◌, ◌<◌, Some, None, map, length, option_copied, inl, sym, ap, ◌∙◌, arith}
use Rattle.std.proofs.lemmas.List.{length-map}
use Rattle.std.proofs.lemmas.Option.{slice_get_within}
use Rattle.schema.specs.NodeData.{NodeData}
use Rattle.schema.specs.declared.NodeId.{NodeId}
use Rattle.schema.specs.UpdateData.{UpdateData}
use Rattle.model.specs.World.{World}
use Rattle.model.proofs.State.StatePlaces.{IsSome_is}
use Rattle.tree_plan.specs.Passes.{at, has}
use Rattle.tree_plan.specs.Cases.{sent}
use Rattle.tree_plan.proofs.Entries.{entry_named}
use Rattle.tree_plan.proofs.FocusWays.{unnamed_aim}
use Rattle.tree_plan.proofs.focusing.aim_after.Goals as goal

pub entry_aim-requires : goal.entry_aim-requires
entry_aim-requires g c =
    let found : at c.args.case.now.compared.now.named c.args.id ≡ Some c.in-Some.named.now = sym c.get.ensures.value ∙ ap option_copied c.in-Some.is in
    let named = c.requires.case.comparison.is_named c.args.id c.in-Some.named.now found in
    let nodes = c.args.case.now.update.now.nodes.items in
    let fits : c.in-Some.named.now.entry < length (map (λ (e : NodeId × NodeData). e.0) nodes) = slice_get_within (map (λ (e : NodeId × NodeData). e.0) nodes) c.in-Some.named.now.entry c.args.id.node named.entry in
    let same = length-map nodes (λ (e : NodeId × NodeData). e.0) in
    omega arith

pub returns-in-Some-clause-aim : goal.returns-in-Some-clause-aim
returns-in-Some-clause-aim g c =
    let w : World = g.L.LookUps.world c.args.look_ups.now in
    let u : UpdateData = sent c.args.case.now in
    let found : at c.args.case.now.compared.now.named c.args.id ≡ Some c.in-Some.named.now = sym c.get.ensures.value ∙ ap option_copied c.in-Some.is in
    let named = c.requires.case.comparison.is_named c.args.id c.in-Some.named.now found in
    let e = c.entry_aim.ensures in
    (inl (IsSome_is c.in-Some.named.now found), (e.0, entry_named w u c.args.id c.in-Some.named.now.entry c.requires.case.comparison.compared.named_once named.named.0 named.entry ∙ e.1, e.2))

pub returns-then-contains-clause-aim : goal.returns-then-contains-clause-aim
returns-then-contains-clause-aim g c =
    let absent : at c.args.case.now.compared.now.named c.args.id ≡ None = sym c.get.ensures.value ∙ ap option_copied c.in_default.is in
    ((λ named. let there = c.requires.case.comparison.has_named c.args.id named in let no = rw absent at there in cc), inl ((c.requires.removal.gone c.args.id).0 (sym c.if-contains.ensures)))

pub returns-clause-aim : goal.returns-clause-aim
returns-clause-aim g c =
    let w : World = g.L.LookUps.world c.args.look_ups.now in
    let u : UpdateData = sent c.args.case.now in
    let absent : at c.args.case.now.compared.now.named c.args.id ≡ None = sym c.get.ensures.value ∙ ap option_copied c.in_default.is in
    let stays : ¬ (has c.args.removed.now.gone c.args.id) = λ gone. let no = c.if-contains.ensures ∙ gone in cc in
    unnamed_aim w u c.requires.case.old c.args.case.now.compared.now c.args.removed.now c.requires.case.comparison c.requires.removal c.args.id absent stays c.old_aim.result c.old_aim.ensures.aim
