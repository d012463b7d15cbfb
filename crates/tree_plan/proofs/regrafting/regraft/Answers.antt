use Rattle.std.proofs.Common.{◌≡◌, ◌∷◌, ◌++◌, [], ◌<◌, take, get_or, length, sym, ap, subst, ⊎_elim, ◌∙◌, arith}
use Rattle.std.specs.List.{Contains}
use Rattle.std.proofs.lemmas.List.{take_more}
use Rattle.tree_changes.specs.Refusals.{IsRefusal}
use Rattle.schema.specs.UpdateData.{UpdateData}
use Rattle.model.specs.World.{World}
use Rattle.model.proofs.State.StatePlaces.{IsSome_is}
use Rattle.tree_plan.specs.Regrafts.{HasRival, HasNoRival, MovesIn, AreRegrafted, grafted_record}
use Rattle.tree_plan.specs.Cases.{sent}
use Rattle.tree_plan.proofs.Passing.{passed_on}
use Rattle.tree_plan.proofs.Gaining.{grafted_there, regrafts_more, not_before, regrafted_in_the_end, rival_refused}
use Rattle.tree_plan.proofs.regrafting.regraft.Goals as goal

pub add-requires : goal.add-requires
add-requires g c =
    let w : World = g.L.LookUps.world c.args.look_ups.now in
    let name = c.name-item.result in
    let items = c.deref-name-items.ensures.value in
    let is : name ≡ get_or c.args.case.now.compared.now.gained.items c.loop-name.name-index name = c.name-item.is ∙ ap (λ xs. get_or xs c.loop-name.name-index name) items in
    let «in» : Contains c.args.case.now.compared.now.gained.items name = (c.loop-name.name-index, omega (arith, c.loop-name-test.true, ap length items), sym is) in
    let f = grafted_there w (sent c.args.case.now) c.args.case.now.compared.now c.args.removed.now c.requires.case.comparison name «in» in
    IsSome_is f.0 f.1

pub returns-in_err-add-clause-err : goal.returns-in_err-add-clause-err
returns-in_err-add-clause-err g c =
    let w : World = g.L.LookUps.world c.args.look_ups.now in
    let u : UpdateData = sent c.args.case.now in
    let d = c.args.case.now.compared.now in
    let r = c.args.removed.now in
    let name = c.name-item.result in
    let before = c.loop-name.invariant in
    let items = c.deref-name-items.ensures.value in
    let is : name ≡ get_or d.gained.items c.loop-name.name-index name = c.name-item.is ∙ ap (λ xs. get_or xs c.loop-name.name-index name) items in
    let «in» : Contains d.gained.items name = (c.loop-name.name-index, omega (arith, c.loop-name-test.true, ap length items), sym is) in
    passed_on (λ e. IsRefusal w u e) c.from_residual.result _ c.from_residual.ensures.1 (⊎_elim (λ memory. subst (IsRefusal w u) (sym memory) tt)
    (λ h. subst (IsRefusal w u) (sym h.0) (rival_refused w u d r c.requires.case.comparison c.requires.case.old c.requires.removal c.requires.climbed name «in» (subst (λ v. HasRival v d r name) before.world h.1)))
    c.in_err-add.ensures.err)

pub loop-name-preserved : goal.loop-name-preserved
loop-name-preserved g c =
    let w : World = g.L.LookUps.world c.args.look_ups.now in
    let u : UpdateData = sent c.args.case.now in
    let d = c.args.case.now.compared.now in
    let r = c.args.removed.now in
    let xs = d.gained.items in
    let k = c.loop-name.name-index in
    let name = c.name-item.result in
    let before = c.loop-name.invariant in
    let e = c.in_ok-add.ensures in
    let items = c.deref-name-items.ensures.value in
    let is : name ≡ get_or xs k name = c.name-item.is ∙ ap (λ zs. get_or zs k name) items in
    let fits : k < length xs = omega (arith, c.loop-name-test.true, ap length items) in
    let «in» : Contains xs name = (k, fits, sym is) in
    let more = regrafts_more w u d r c.requires.case.comparison (take k xs) name c.loop-name.regrafted c.add.new.self «in»
    (subst (λ x. ¬ (Contains (take k xs) x)) (sym is) (not_before w u d r c.requires.case.comparison k name fits)) before.found
    (subst (λ v. HasNoRival v d r name) before.world e.free)
    (subst (λ v. c.add.new.self.trees.items ≡ c.loop-name.regrafted.trees.items ++ grafted_record v d name ∷ []) before.world e.trees)
    (subst (λ v. MovesIn v d name c.loop-name.regrafted.moved_in c.add.new.self.moved_in) before.world e.moved_in) in
    record {
      world = c.add.ensures.world ∙ before.world;
      asked = (omega (arith, c.add.ensures.counts, before.asked.0), omega (arith, c.add.ensures.counts, before.asked.1));
      found = subst (λ names. AreRegrafted w u d r names c.add.new.self) (sym (take_more xs k name fits ∙ ap (λ x. take k xs ++ x ∷ []) (sym is))) more;
    }

pub returns-clause-ok : goal.returns-clause-ok
returns-clause-ok g c =
    regrafted_in_the_end _ _ _ _ c.requires.case.comparison c.loop-name.name-index (omega (arith, c.loop-name-test.false, ap length c.deref-name-items.ensures.value)) c.requires.removal c.requires.climbed c.loop-name.regrafted c.loop-name.invariant.found
