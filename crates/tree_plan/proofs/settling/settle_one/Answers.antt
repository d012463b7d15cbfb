use Rattle.std.proofs.Common.{Option, subst}
use Rattle.std.proofs.lemmas.Result.{on_ok_weaker}
use Rattle.model.specs.World.{Place}
use Rattle.model.specs.Surgery.{Seat, Entered}
use Rattle.tree_plan.specs.Settling.{KeepsDouble}
use Rattle.tree_plan.specs.Cases.{sent}
use Rattle.tree_plan.proofs.Arrived.{arrived}
use Rattle.tree_plan.proofs.SettlingSteps.{comes_root, comes_below, root_below_stands, free_below, shifted_settled, rooted, placed}
use Rattle.tree_plan.proofs.settling.settle_one.Goals as goal

pub returns-then-arrival-clause-ok : goal.returns-then-arrival-clause-ok
returns-then-arrival-clause-ok g c =
    let w = g.L.LookUps.world c.args.look_ups.now in
    shifted_settled w (sent c.args.case.now) c.requires.case.old c.args.case.now.compared.now c.requires.case.comparison c.args.item.0 c.args.item.1 c.requires.arrived c.if-arrival.true c.args.settled.now c.requires.so_far

pub find_old_place-requires-clause-comes : goal.find_old_place-requires-clause-comes
find_old_place-requires-clause-comes g c =
    let w = g.L.LookUps.world c.args.look_ups.now in
    let u = sent c.args.case.now in
    let e : Entered w u c.args.item.1.spot c.args.item.0 = arrived w u c.args.case.now.compared.now c.requires.case.comparison c.args.item.0 c.args.item.1 c.requires.arrived in
    comes_root w u c.requires.case.old c.args.case.now.compared.now c.requires.case.comparison c.args.case.now.opened.now c.requires.case.opening c.args.item.0 (subst (λ (s : Seat). Entered w u s c.args.item.0) c.in_default.is e)

pub find_old_place-requires-2-clause-comes : goal.find_old_place-requires-2-clause-comes
find_old_place-requires-2-clause-comes g c =
    let w = g.L.LookUps.world c.args.look_ups.now in
    let u = sent c.args.case.now in
    let e : Entered w u c.args.item.1.spot c.args.item.0 = arrived w u c.args.case.now.compared.now c.requires.case.comparison c.args.item.0 c.args.item.1 c.requires.arrived in
    comes_below w u c.requires.case.old c.args.case.now.compared.now c.requires.case.comparison c.args.case.now.opened.now c.requires.case.opening c.args.item.0 c.args.item.1.spot e (λ same. let t = c.is_root.ensures.1 same in let f = c.if-is_root.false in cc)

pub returns-then-is_root-clause-err : goal.returns-then-is_root-clause-err
returns-then-is_root-clause-err g c =
    let w = g.L.LookUps.world c.args.look_ups.now in
    let u = sent c.args.case.now in
    let e : Entered w u c.args.item.1.spot c.args.item.0 = arrived w u c.args.case.now.compared.now c.requires.case.comparison c.args.item.0 c.args.item.1 c.requires.arrived in
    root_below_stands w u c.requires.case.old c.args.case.now.compared.now c.requires.case.comparison c.args.case.now.opened.now c.requires.case.opening c.args.item.0 (c.in-Some.parent, c.in-Some.field-0-1)
    (subst (λ (s : Seat). Entered w u s c.args.item.0) c.in-Some.is e) (c.is_root.ensures.0 c.if-is_root.true)

pub returns-in_default-clause-ok : goal.returns-in_default-clause-ok
returns-in_default-clause-ok g c =
    let w = g.L.LookUps.world c.args.look_ups.now in
    let u = sent c.args.case.now in
    let e : Entered w u c.args.item.1.spot c.args.item.0 = arrived w u c.args.case.now.compared.now c.requires.case.comparison c.args.item.0 c.args.item.1 c.requires.arrived in
    let f = c.in_ok-before.ensures in
    let a = c.args.settled.now in
    let b = c.keep_double.new.settled in
    on_ok_weaker c.keep_double.result (λ kept. rooted w u c.requires.case.old c.args.item.0 c.args.item.1.spot c.in_ok-before.before e f.ok f.there a b c.requires.so_far
    (subst (λ (p : Option Place). KeepsDouble c.args.item.0 p a b) c.kept_place.ensures kept) c.in_default.is) c.keep_double.ensures.ok

pub returns-clause-ok : goal.returns-clause-ok
returns-clause-ok g c =
    let w = g.L.LookUps.world c.args.look_ups.now in
    let u = sent c.args.case.now in
    let e : Entered w u c.args.item.1.spot c.args.item.0 = arrived w u c.args.case.now.compared.now c.requires.case.comparison c.args.item.0 c.args.item.1 c.requires.arrived in
    let f = c.in_ok-before-2.ensures in
    let a = c.args.settled.now in
    let b = c.keep_double-2.new.settled in
    let free = free_below w u c.requires.case.old c.args.case.now.compared.now c.requires.case.comparison c.args.case.now.opened.now c.requires.case.opening c.args.item.0 (λ same. let t = c.is_root.ensures.1 same in let f = c.if-is_root.false in cc) in
    on_ok_weaker c.keep_adopter.result (λ k. placed w u c.requires.case.old c.args.item.0 c.args.item.1.spot c.in_ok-before-2.before e f.ok f.there a b c.keep_adopter.new.settled c.requires.so_far
    (subst (λ (p : Option Place). KeepsDouble c.args.item.0 p a b) c.kept_place-2.ensures c.in_ok-keep_double.ensures.ok) (c.in-Some.parent, c.in-Some.field-0-1) c.in-Some.is k free) c.keep_adopter.ensures.ok
