use Rattle.std.proofs.Common.{◌≡◌, false, true, ap, arith, inl, inr, length, refl, sym, ◌∙◌}
use Rattle.model.proofs.State.StatePlaces.{value_of}
use Rattle.tree_plan.specs.Passes.{has}
use Rattle.tree_plan.proofs.IdMaps.{some_is, read_step, done_step, done_all}
use Rattle.tree_plan.proofs.refusing.fault_of_double.Goals as goal

pub loop-item-preserved : goal.loop-item-preserved
loop-item-preserved c =
    let m = c.args.compared.now.named in
    done_step m (λ id n. has c.args.reached.now id) c.entries-item-items.result.now c.entries-item-items.ensures.all c.loop-item.item-index _ c.loop-item-test.true c.loop-item.invariant
    (sym c.contains.ensures ∙ c.if-not-contains.false)

pub returns-then-not-contains : goal.returns-then-not-contains
returns-then-not-contains c =
    let m = c.args.compared.now.named in
    inl (
      _,
      some_is _ _ (read_step m c.entries-item-items.ensures.ascends c.entries-item-items.result.now c.entries-item-items.ensures.all c.loop-item.item-index _ c.loop-item-test.true),
      (λ h. let absent : c.contains.result ≡ false = c.if-not-contains.true in let there : c.contains.result ≡ true = c.contains.ensures ∙ h in cc),
      refl,
    )

pub returns : goal.returns
returns c =
    let m = c.args.compared.now.named in
    let same : length c.entries-item-items.result.now ≡ length m = ap length c.entries-item-items.ensures.all in
    inr ((λ id there. let n = value_of _ there in done_all m (λ id n. has c.args.reached.now id) c.loop-item.item-index (omega (arith, c.loop-item-test.false)) c.loop-item.invariant id n.0 n.1), refl)
