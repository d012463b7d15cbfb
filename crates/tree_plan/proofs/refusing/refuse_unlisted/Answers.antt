use Rattle.std.proofs.Common.{◌≡◌, ap, arith, length, refl}
use Rattle.tree_plan.specs.Refusing.{IsNowhere}
use Rattle.tree_plan.proofs.IdMaps.{read_step, done_step, done_all}
use Rattle.tree_plan.proofs.refusing.refuse_unlisted.Goals as goal

pub loop-item-preserved : goal.loop-item-preserved
loop-item-preserved c =
    let d = c.args.compared.now in
    done_step d.named (λ id n. ¬ (IsNowhere d id n)) c.entries-item-items.result.now c.entries-item-items.ensures.all c.loop-item.item-index _ c.loop-item-test.true c.loop-item.invariant
    (λ h. let t = c.is_nowhere.ensures.1 h in let f = c.if-is_nowhere.false in cc)

pub returns-then-is_nowhere-clause-err : goal.returns-then-is_nowhere-clause-err
returns-then-is_nowhere-clause-err c =
    let d = c.args.compared.now in
    (_, (_, read_step d.named c.entries-item-items.ensures.ascends c.entries-item-items.result.now c.entries-item-items.ensures.all c.loop-item.item-index _ c.loop-item-test.true, c.is_nowhere.ensures.0 c.if-is_nowhere.true), refl)

pub returns-clause-ok : goal.returns-clause-ok
returns-clause-ok c = λ id h.
    let d = c.args.compared.now in
    let same : length c.entries-item-items.result.now ≡ length d.named = ap length c.entries-item-items.ensures.all in
    done_all d.named (λ id n. ¬ (IsNowhere d id n)) c.loop-item.item-index (omega (arith, c.loop-item-test.false)) c.loop-item.invariant id h.0 h.1 h.2
