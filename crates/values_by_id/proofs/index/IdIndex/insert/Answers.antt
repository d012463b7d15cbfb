use Rattle.std.proofs.Common.{◌≡◌, ◌++◌, length, cond, Some, None, sym, ap, ◌∙◌, arith}
use Rattle.std.specs.BTreeMap.{is_at}
use Rattle.model.specs.declared.FullNodeId.{FullNodeId}
use Rattle.model.specs.FullIds.{full_cmp}
use Rattle.values_by_id.specs.Cells.{cell_at, cell_entries, with_cell, value_at, size}
use Rattle.values_by_id.proofs.Entries.{at_none, set_at, counted}
use Rattle.values_by_id.proofs.Kept.{both_after, stays, apart_cells, apart_others, not_in_cells, nothing_there, no_cell, length_by, length_before, length_kept, found_in_cell}
use Rattle.values_by_id.proofs.index.IdIndex.insert.Goals as goal

pub invariant_of-self : goal.invariant_of-self
invariant_of-self g c =
    let rows = c.self-2.inside.rows in
    let others = c.self-2.inside.others in
    let k = c.self-2.invariant in
    let there = sym c.contains_key.ensures ∙ c.if-contains_key.true in
    let none = not_in_cells rows others c.args.id k.apart there in
    record {
      apart = apart_others rows others c.replace.new.self c.args.id (Some c.args.value) c.replace.ensures.updates none k.apart;
      count = length_kept (cell_entries 0 rows) others c.replace.new.self c.self-2.inside.len k.count
          c.replace.ensures.count;
      bound = k.bound;
    }

pub returns-then-contains_key-clause-old : goal.returns-then-contains_key-clause-old
returns-then-contains_key-clause-old g c =
    let rows = c.self-2.inside.rows in
    let others = c.self-2.inside.others in
    let none = not_in_cells rows others c.args.id c.self-2.invariant.apart (sym c.contains_key.ensures ∙ c.if-contains_key.true) in
    c.replace.ensures.old ∙ sym (at_none rows others c.args.id none) ∙ ap (λ es. value_at es c.args.id) (c.self-2.view_is ∙ c.make_place.ensures)

pub returns-then-contains_key-clause-updates : goal.returns-then-contains_key-clause-updates
returns-then-contains_key-clause-updates g c q =
    let rows = c.self-2.inside.rows in
    let others = c.self-2.inside.others in
    let none = not_in_cells rows others c.args.id c.self-2.invariant.apart (sym c.contains_key.ensures ∙ c.if-contains_key.true) in
    both_after rows rows others c.replace.new.self c.args.id None (Some c.args.value) (stays (cell_at rows) c.args.id none) c.replace.ensures.updates q
    ∙ ap (λ es. cond (is_at (full_cmp c.args.id) q) (Some c.args.value) (value_at es q)) (c.self-2.view_is ∙ c.make_place.ensures)

pub invariant_of-self-then-has_cell : goal.invariant_of-self-then-has_cell
invariant_of-self-then-has_cell g c =
    let rows = c.self-2.inside.rows in
    let others = c.self-2.inside.others in
    let k = c.self-2.invariant in
    let none = nothing_there others c.args.id (sym c.contains_key.ensures ∙ c.if-contains_key.false) in
    let cells : (q : FullNodeId) → cell_at c.put-old.new.self q ≡ cond (is_at (full_cmp c.args.id) q) (Some c.args.value) (cell_at rows q) =
    λ q. ap (λ r. cell_at r q) c.put-old.ensures.new ∙ set_at rows c.args.id c.put-old.result (Some c.args.value) c.put-old.ensures.old q in
    let more = counted rows c.args.id c.put-old.result (Some c.args.value) c.put-old.ensures.old in
    let whole = length_before (cell_entries 0 rows) (cell_entries 0 (with_cell rows c.args.id (Some c.args.value))) others (size c.put-old.result) 1 c.self-2.inside.len k.count more in
    let one = c.missing.ensures in
    let lens : c.self-2.inside.len ≡ c.self.inside.len = sym k.count ∙ ap length (c.self-2.view_is ∙ c.make_place.ensures ∙ sym c.self.view_is) ∙ c.self.invariant.count in
    record {
      apart = apart_cells rows c.put-old.new.self others c.args.id (Some c.args.value) cells none k.apart;
      count = ap (λ r. length (cell_entries 0 r ++ others)) c.put-old.ensures.new ∙ omega (arith, whole, one);
      bound = omega (arith, lens, one, c.if-self-ge-MOST.false);
    }

pub returns-then-has_cell-clause-old : goal.returns-then-has_cell-clause-old
returns-then-has_cell-clause-old g c =
    let rows = c.self-2.inside.rows in
    let others = c.self-2.inside.others in
    let none = nothing_there others c.args.id (sym c.contains_key.ensures ∙ c.if-contains_key.false) in
    sym (found_in_cell rows others c.args.id c.put-old.result c.put-old.ensures.old none) ∙ ap (λ es. value_at es c.args.id) (c.self-2.view_is ∙ c.make_place.ensures)

pub returns-then-has_cell-clause-updates : goal.returns-then-has_cell-clause-updates
returns-then-has_cell-clause-updates g c q =
    let rows = c.self-2.inside.rows in
    let others = c.self-2.inside.others in
    let none = nothing_there others c.args.id (sym c.contains_key.ensures ∙ c.if-contains_key.false) in
    let cells : (q : FullNodeId) → cell_at c.put-old.new.self q ≡ cond (is_at (full_cmp c.args.id) q) (Some c.args.value) (cell_at rows q) =
    λ q. ap (λ r. cell_at r q) c.put-old.ensures.new ∙ set_at rows c.args.id c.put-old.result (Some c.args.value) c.put-old.ensures.old q in
    both_after rows c.put-old.new.self others others c.args.id (Some c.args.value) None cells (stays (value_at others) c.args.id none) q
    ∙ ap (λ es. cond (is_at (full_cmp c.args.id) q) (Some c.args.value) (value_at es q)) (c.self-2.view_is ∙ c.make_place.ensures)

pub invariant_of-self-2 : goal.invariant_of-self-2
invariant_of-self-2 g c =
    let rows = c.self-2.inside.rows in
    let others = c.self-2.inside.others in
    let k = c.self-2.invariant in
    let none = no_cell rows c.args.id (sym c.has_cell.ensures ∙ c.if-has_cell.false) in
    let absent = nothing_there others c.args.id (sym c.contains_key.ensures ∙ c.if-contains_key.false) in
    let lens : c.self-2.inside.len ≡ c.self.inside.len = sym k.count ∙ ap length (c.self-2.view_is ∙ c.make_place.ensures ∙ sym c.self.view_is) ∙ c.self.invariant.count in
    record {
      apart = apart_others rows others c.add.new.self c.args.id (Some c.args.value) c.in_ok-add.ensures.updates none k.apart;
      count = length_by (cell_entries 0 rows) others c.add.new.self 1 c.self-2.inside.len k.count
          c.in_ok-add.ensures.count;
      bound = omega (arith, lens, c.if-self-ge-MOST.false);
    }

pub returns-clause-old : goal.returns-clause-old
returns-clause-old g c =
    let rows = c.self-2.inside.rows in
    let others = c.self-2.inside.others in
    let none = no_cell rows c.args.id (sym c.has_cell.ensures ∙ c.if-has_cell.false) in
    let absent = nothing_there others c.args.id (sym c.contains_key.ensures ∙ c.if-contains_key.false) in
    sym (sym (ap (λ es. value_at es c.args.id) (c.self-2.view_is ∙ c.make_place.ensures)) ∙ at_none rows others c.args.id none ∙ absent)

pub returns-clause-updates : goal.returns-clause-updates
returns-clause-updates g c q =
    let rows = c.self-2.inside.rows in
    let others = c.self-2.inside.others in
    let none = no_cell rows c.args.id (sym c.has_cell.ensures ∙ c.if-has_cell.false) in
    both_after rows rows others c.add.new.self c.args.id None (Some c.args.value) (stays (cell_at rows) c.args.id none) c.in_ok-add.ensures.updates q
    ∙ ap (λ es. cond (is_at (full_cmp c.args.id) q) (Some c.args.value) (value_at es q)) (c.self-2.view_is ∙ c.make_place.ensures)
