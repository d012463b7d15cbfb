-- Slots that are made, filled and taken away.
use Rattle.std.proofs.Common.{◌≡◌, Bool, true, false, cond, Option, Some, None, refl, sym, ap, subst, ◌∙◌}
use Rattle.std.specs.Prelude.{is_some}
use Rattle.std.specs.BTreeMap.{is_at}
use Rattle.std.specs.Cmp.{Equal-is, eq_by_cmp_equiv}
use Rattle.std.specs.Ordering.{eq_by_cmp}
use Rattle.model.specs.declared.FullNodeId.{FullNodeId}
use Rattle.model.specs.FullIds.{full_cmp, full_total, exact_full}
use Rattle.tree_store.specs.Cells.{Record}
use Rattle.tree_store.specs.Cells.{SlotsView, slot_at, record_at, record_in}

pub same_id : (k q : FullNodeId) → is_at (full_cmp k) q ≡ true → k ≡ q
same_id k q b = exact_full k q ((Equal-is (full_cmp k q)).0 b)

pub none_from_false : {A : Type 0} (o : Option A) → is_some o ≡ false → o ≡ None
none_from_false None e = refl
none_from_false (Some x) e = cc

blank_by : (b : Bool) (x o : Option (Option Record)) → record_in x ≡ None → (b ≡ true → record_in o ≡ None) → record_in (cond b x o) ≡ record_in o
blank_by true x o e h = e ∙ sym (h refl)
blank_by false x o e h = refl

-- where there is no record, to make or take away an empty slot changes none
pub blank_same : (es fs : SlotsView) (k : FullNodeId) (x : Option (Option Record)) → record_in x ≡ None
    → ((q : FullNodeId) → slot_at fs q ≡ cond (is_at (full_cmp k) q) x (slot_at es q)) → record_at es k ≡ None → (q : FullNodeId) → record_at fs q ≡ record_at es q
blank_same es fs k x blank up none q =
    ap record_in (up q)
    ∙ blank_by (is_at (full_cmp k) q) x (slot_at es q) blank (λ b. subst (λ i. record_at es i ≡ None) (same_id k q b) none)

pub symmetric : (k q : FullNodeId) → eq_by_cmp full_cmp q k ≡ is_at (full_cmp k) q
symmetric k q = (eq_by_cmp_equiv full_total).symm q k
