use Rattle.std.proofs.Common.{Some, refl, sym, ap, ◌∙◌, arith}
use Rattle.std.specs.Prelude.{is_some}
use Rattle.std.specs.Map.{set_value}
use Rattle.std.specs.BTreeMap.{is_at}
use Rattle.model.specs.FullIds.{full_cmp}
use Rattle.values_by_id.specs.Cells.{cell_entries, with_cell, value_at}
use Rattle.values_by_id.proofs.Entries.{at_none, at_some, set_at, counted}
use Rattle.values_by_id.proofs.Kept.{apart_cells, filled, none_after, copied_none, on_some, length_before, written_cell, written_other, length_written}
use Rattle.values_by_id.proofs.index.IdIndex.get_mut.Goals as goal

pub invariant_of-self-lent : goal.invariant_of-self-lent
invariant_of-self-lent g c w =
    let rows = c.self.inside.rows in
    let others = c.self.inside.others in
    let k = c.self.invariant in
    let v = c.value_mut.result.now in
    let there = filled rows c.args.id.now v c.value_mut.ensures.value in
    let none = k.apart c.args.id.now (ap is_some c.value_mut.ensures.value) in
    let whole = length_before (cell_entries 0 rows) (cell_entries 0 (with_cell rows c.args.id.now (Some w))) others 1 1 c.self.inside.len k.count (counted rows c.args.id.now (Some v) (Some w) there) in
    record {
      apart = apart_cells rows (with_cell rows c.args.id.now (Some w)) others c.args.id.now (Some w) (set_at rows c.args.id.now (Some v) (Some w) there) none k.apart;
      count = omega (arith, whole);
      bound = k.bound;
    }

pub returns-then-is_some : goal.returns-then-is_some
returns-then-is_some g c =
    let rows = c.self.inside.rows in
    let others = c.self.inside.others in
    let id = c.args.id.now in
    let v = c.value_mut.result.now in (
      (refl, (λ w. written_cell rows others id w v c.value_mut.ensures.value ∙ ap (λ es. set_value (is_at (full_cmp id)) es w) c.self.view_is), refl),
      record { writes_back = tt; value = sym (at_some rows others id v c.value_mut.ensures.value) ∙ ap (λ es. value_at es id) c.self.view_is },
    )

pub invariant_of-self-lent-2 : goal.invariant_of-self-lent-2
invariant_of-self-lent-2 g c r =
    let rows = c.self.inside.rows in
    let others = c.self.inside.others in
    let id = c.args.id.now in
    let k = c.self.invariant in (
      (λ w. record {
        apart = λ q h. none_after (is_at (full_cmp id)) q w others (k.apart q h);
        count = length_written rows others id w ∙ k.count;
        bound = k.bound;
      }),
      k,
    )

pub returns : goal.returns
returns g c =
    let rows = c.self.inside.rows in
    let others = c.self.inside.others in
    let id = c.args.id.now in
    let none = sym c.get.ensures ∙ copied_none c.get.result (sym c.is_some.ensures ∙ c.if-is_some.false) in (
      (
        refl,
        (λ w. on_some c.get_mut.result _ (written_other rows others id w none ∙ ap (λ es. set_value (is_at (full_cmp id)) es w) c.self.view_is)),
        c.self.view_is,
      ),
      record { writes_back = tt; value = c.get_mut.ensures.value ∙ sym (at_none rows others id none) ∙ ap (λ es. value_at es id) c.self.view_is },
    )
