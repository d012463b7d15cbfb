use Rattle.std.proofs.Common.{◌≡◌, ◌∙◌, ℕ, ◌+◌, ◌≤◌, length, IsSome, sym, ap, subst, arith}
use Rattle.std.specs.Prelude.{IfOk, IfSome}
use Rattle.std.specs.FinMap.{get}
use Rattle.std.proofs.lemmas.Result.{IfOk-weaker}
use Rattle.schema.specs.UpdateData.{UpdateData, update_data}
use Rattle.model.specs.World.{World}
use Rattle.tree_changes.specs.Changes.{NodeChanges}
use Rattle.tree_changes.specs.Decisions.{IsDecision, IsWithinWork}
use Rattle.tree_plan.specs.declared.passes.Opened.{Opened}
use Rattle.tree_plan.specs.Deciding.{HasBegun}
use Rattle.tree_plan.specs.News.{KeepsTree, AreAllChanges, IsOfChanges}
use Rattle.tree_plan.specs.Passes.{HoldsOpened, IsOfName, opened_as}
use Rattle.tree_plan.proofs.SameTrees.{later}
use Rattle.tree_plan.proofs.Within.{root_tree_there, decided_within}
use Rattle.tree_plan.proofs.deciding.decide_with.Goals as goal

pub decide_by_passes-requires-clause-begun : goal.decide_by_passes-requires-clause-begun
decide_by_passes-requires-clause-begun g c =
    let w : World = g.L.LookUps.world c.args.look_ups.now in
    let u = update_data c.args.update.now in
    let known : length (g.L.LookUps.world c.old_record-looked_up.new.look_ups).known ≡ length w.known = ap (λ (x : World). length x.known) c.old_record-looked_up.ensures.looks.0 in
    let begun : HasBegun w u c.count-before.result (g.L.LookUps.asked c.find_shortly.new.look_ups) = omega (arith, known, c.count-before.ensures, c.old_record-looked_up.ensures.looks.1.0, c.in_ok-changes.ensures.count.0) in
    subst (λ (x : World). HasBegun x u c.count-before.result (g.L.LookUps.asked c.find_shortly.new.look_ups)) (sym (c.find_shortly.ensures.world ∙ c.old_record-looked_up.ensures.looks.0)) begun

pub returns-clause-work : goal.returns-clause-work
returns-clause-work g c =
    let u = update_data c.args.update.now in
    let v : World = g.L.LookUps.world c.find_shortly.new.look_ups in
    let after = g.L.LookUps.asked c.decide_by_passes.new.look_ups in
    subst (λ (x : World). IfOk c.decide_by_passes.result (λ d. IsWithinWork x u d (g.L.LookUps.asked c.args.look_ups.now) after)) (c.find_shortly.ensures.world ∙ c.old_record-looked_up.ensures.looks.0)
    (subst (λ (n : ℕ). IfOk c.decide_by_passes.result (λ d. IsWithinWork v u d n after)) c.count-before.ensures c.decide_by_passes.ensures.work)

pub decide_alone-requires-clause-present : goal.decide_alone-requires-clause-present
decide_alone-requires-clause-present g c =
    let w : World = g.L.LookUps.world c.old_record-looked_up.new.look_ups in
    let u : UpdateData = update_data c.args.update.now in
    let op : Opened = opened_as c.old_record-looked_up.result c.in_ok-opening.opening in
    let tree : KeepsTree u op = subst (λ x. IfSome x (λ _. KeepsTree u op)) c.in-Some.is c.in_ok-changes.ensures.tree in
    subst (λ (v : World). IsSome (get v.trees 0)) (sym c.find_shortly.ensures.world) (root_tree_there w c.open_tree.ensures.old (later w u op c.in_ok-opening.ensures.ok tree.same))

pub decide_alone-requires-clause-record : goal.decide_alone-requires-clause-record
decide_alone-requires-clause-record g c =
    let w : World = g.L.LookUps.world c.old_record-looked_up.new.look_ups in
    let u : UpdateData = update_data c.args.update.now in
    let op : Opened = opened_as c.old_record-looked_up.result c.in_ok-opening.opening in
    let opening : HoldsOpened w u op = c.in_ok-opening.ensures.ok in
    let here : IsOfName w op.record.id op.record = subst (λ n. IsOfName w n op.record) (sym opening.record_of.id) opening.record_of in
    subst (λ (v : World). IsOfName v op.record.id op.record) (sym c.find_shortly.ensures.world) here

pub returns-in-Some-clause-ok : goal.returns-in-Some-clause-ok
returns-in-Some-clause-ok g c =
    let w : World = g.L.LookUps.world c.args.look_ups.now in
    let v : World = g.L.LookUps.world c.old_record-looked_up.new.look_ups in
    let u : UpdateData = update_data c.args.update.now in
    let all : AreAllChanges v u c.in-Some.changes = subst (λ x. IfSome x (AreAllChanges v u)) c.in-Some.is c.in_ok-changes.ensures.ok in
    let of = subst (λ (x : World). IfOk c.decide_alone.result (IsOfChanges x c.in-Some.changes)) c.find_shortly.ensures.world c.decide_alone.ensures.ok in
    subst (λ (x : World). IfOk c.decide_alone.result (IsDecision x u)) c.old_record-looked_up.ensures.looks.0 (IfOk-weaker c.decide_alone.result _ _ (λ d is. all d is) of)

pub returns-in-Some-clause-work : goal.returns-in-Some-clause-work
returns-in-Some-clause-work g c =
    let w : World = g.L.LookUps.world c.args.look_ups.now in
    let v : World = g.L.LookUps.world c.find_shortly.new.look_ups in
    let u : UpdateData = update_data c.args.update.now in
    let before : ℕ = g.L.LookUps.asked c.args.look_ups.now in
    let start : ℕ = g.L.LookUps.asked c.find_shortly.new.look_ups in
    let same : length v.known ≡ length w.known = ap (λ (x : World). length x.known) (c.find_shortly.ensures.world ∙ c.old_record-looked_up.ensures.looks.0) in
    let few : length c.in-Some.changes ≤ length u.nodes + 6 = subst (λ x. IfSome x (λ (rows : NodeChanges). length rows ≤ length u.nodes + 6)) c.in-Some.is c.in_ok-changes.ensures.few in
    let started : start ≤ before + (1 + (length u.nodes + 21)) = omega (arith, c.old_record-looked_up.ensures.looks.1.0, c.in_ok-changes.ensures.count.0) in
    decided_within w u before start (g.L.LookUps.asked c.decide_alone.new.look_ups) v c.in-Some.changes same few started c.decide_alone.result c.decide_alone.ensures.ok c.decide_alone.ensures.count
