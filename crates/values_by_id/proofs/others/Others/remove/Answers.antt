use Rattle.std.proofs.Common.{◌≡◌, ◌-◌, ◌<◌, length, cond, None, Some, sym, ap, ◌∙◌, arith}
use Rattle.std.specs.BTreeMap.{is_at}
use Rattle.std.specs.Vec.{vec_len}
use Rattle.model.specs.FullIds.{full_cmp}
use Rattle.values_by_id.specs.Cells.{value_at}
use Rattle.values_by_id.specs.Found.{id_at}
use Rattle.values_by_id.proofs.Ways.{has_cells}
use Rattle.values_by_id.proofs.Led.{IsSwapped, found_at, within_entries, read_value, apart_when_found, apart_swapped, swapped_from, removed, removed_last, removed_moved, found_last}
use Rattle.values_by_id.proofs.others.Others.remove.Given as given
use Rattle.values_by_id.proofs.others.Others.remove.Goals as goal
use Rattle.values_by_id.proofs.others.Others.remove.Goals.{In_ok-number, After-swap_remove-value, then-index-len, else-index-len}

-- the entry under the number is that of the id
own : (g : given.Over) (c : In_ok-number g) → id_at c.self.inside.entries.items c.in_ok-number.number ≡ Some c.args.id
own g c = ap (λ l. id_at l c.in_ok-number.number) c.self.view_is ∙ c.in_ok-number.ensures.there

-- the last entry has come in its place
swap : (g : given.Over) (c : After-swap_remove-value g) → IsSwapped c.self.inside.entries.items c.swap_remove-value.new.self.items c.in_ok-number.number
swap g c =
    let es = c.self.inside.entries.items in
    let new = c.swap_remove-value.new.self in
    let own = ap (λ l. id_at l c.in_ok-number.number) c.self.view_is ∙ c.in_ok-number.ensures.there in
    let within : c.in_ok-number.number < vec_len c.self.inside.entries = omega (arith, within_entries es c.in_ok-number.number c.args.id own, c.self.inside.entries.ok.0) in
    swapped_from es new.items c.in_ok-number.number (vec_len c.self.inside.entries) (vec_len new) c.self.inside.entries.ok.0 new.ok.0 within c.swap_remove-value.ensures.len c.swap_remove-value.ensures.by_index

pub put-requires : goal.put-requires
put-requires g c =
    let es = c.self.inside.entries.items in
    has_cells c.self.inside.trie c.args.id c.in_ok-number.number (found_at c.self.inside.trie es c.self.invariant c.args.id c.in_ok-number.number (own g (goal.at.put-requires g c).In_ok-number))

pub swap_remove-value-requires : goal.swap_remove-value-requires
swap_remove-value-requires g c =
    let es = c.self.inside.entries.items in
    omega (arith, within_entries es c.in_ok-number.number c.args.id (own g (goal.at.swap_remove-value-requires g c).In_ok-number), c.self.inside.entries.ok.0)

pub put-requires-then-index-len : goal.put-requires-then-index-len
put-requires-then-index-len g c =
    let es = c.self.inside.entries.items in
    has_cells c.put.new.self c.index.result.now.0 (length es - 1)
    (found_last c.self.inside.trie c.put.new.self es c.swap_remove-value.new.self.items c.in_ok-number.number c.args.id (swap g (goal.at.put-requires-then-index-len g c).After-swap_remove-value) c.self.invariant (own g (goal.at.put-requires-then-index-len g c).In_ok-number) (λ q k h o. c.put.ensures.others q k h o) c.index.result.now c.index.ensures (omega (arith, c.if-index-len.true, c.len.ensures, c.swap_remove-value.new.self.ok.0)))

pub invariant_of-self : goal.invariant_of-self
invariant_of-self g c =
    let es = c.self.inside.entries.items in
    removed_moved c.self.inside.trie c.put.new.self es c.swap_remove-value.new.self.items c.in_ok-number.number c.args.id (swap g (goal.at.invariant_of-self g c).After-swap_remove-value) c.self.invariant (own g (goal.at.invariant_of-self g c).In_ok-number) (λ q k h o. c.put.ensures.others q k h o) c.index.result.now c.index.ensures (omega (arith, c.if-index-len.true, c.len.ensures, c.swap_remove-value.new.self.ok.0))
    c.put-then-index-len.new.self c.put-then-index-len.ensures.own (λ q k h o. c.put-then-index-len.ensures.others q k h o)

pub invariant_of-self-else-index-len : goal.invariant_of-self-else-index-len
invariant_of-self-else-index-len g c =
    let es = c.self.inside.entries.items in
    removed_last c.self.inside.trie c.put.new.self es c.swap_remove-value.new.self.items c.in_ok-number.number c.args.id (swap g (goal.at.invariant_of-self-else-index-len g c).After-swap_remove-value) c.self.invariant (own g (goal.at.invariant_of-self-else-index-len g c).In_ok-number) (λ q k h o. c.put.ensures.others q k h o) (omega (arith, c.if-index-len.false, c.len.ensures, c.swap_remove-value.new.self.ok.0))

pub returns-clause-old : goal.returns-clause-old
returns-clause-old g c =
    let es = c.self.inside.entries.items in
    sym (ap (λ l. value_at l c.args.id) (sym c.self.view_is) ∙ read_value es c.in_ok-number.number c.swap_remove-value.result c.args.id c.swap_remove-value.ensures.value (own g (goal.at.returns-clause-old g c).In_ok-number) (apart_when_found c.self.inside.trie es c.self.invariant))

pub returns-clause-updates : goal.returns-clause-updates
returns-clause-updates g c q =
    let es = c.self.inside.entries.items in
    let apart = apart_when_found c.self.inside.trie es c.self.invariant in
    let rest = removed es c.swap_remove-value.new.self.items c.in_ok-number.number (swap g (goal.at.returns-clause-updates g c).After-swap_remove-value) apart (apart_swapped es c.swap_remove-value.new.self.items c.in_ok-number.number (swap g (goal.at.returns-clause-updates g c).After-swap_remove-value) apart) c.args.id (own g (goal.at.returns-clause-updates g c).In_ok-number) q ∙ ap (λ l. cond (is_at (full_cmp c.args.id) q) None (value_at l q)) c.self.view_is in
    elim c.if-index-len.branch [
      | then-index-len w ↦ ap (λ l. value_at l q) w.self-is ∙ rest
      | else-index-len w ↦ ap (λ l. value_at l q) w.self-is ∙ rest
    ]
