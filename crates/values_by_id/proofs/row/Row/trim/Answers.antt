use Rattle.std.proofs.Common.{◌≡◌, ◌-◌, ◌<◌, ◌++◌, length, get_or, Some, None, sym, ap, subst, ◌∙◌, arith, vec_len}
use Rattle.std.specs.Prelude.{slice_get, option_copied}
use Rattle.std.specs.Option.{option_to_list}
use Rattle.std.proofs.lemmas.Option.{slice_get_within, get_or_from_slice_get}
use Rattle.values_by_id.proofs.Entries.{row_popped, count_pushed}
use Rattle.values_by_id.proofs.row.Row.trim.Goals as goal

pub loop-self-preserved : goal.loop-self-preserved
loop-self-preserved g c =
    let items = c.loop-self.self-inside.cells.items in
    let new = c.pop.new.self.items in
    let last = subst (λ xs. slice_get xs (length xs - 1) ≡ Some None) c.deref.ensures.value
    (sym c.last.ensures.value ∙ ap option_copied c.in-Some-None.is ∙ ap Some c.in-Some-None.field-0-is) in
    let len : vec_len c.loop-self.self-inside.cells ≡ length items = c.loop-self.self-inside.cells.ok.0 in
    let within : length items - 1 < length items = slice_get_within items (length items - 1) None last in
    let popped = c.pop.ensures.value None (omega arith) ∙ ap Some (ap (λ n. get_or items (n - 1) None) len ∙ get_or_from_slice_get items (length items - 1) None None last) in
    let less = c.pop.ensures.items ∙ ap (λ o. new ++ option_to_list o) popped in
    record { same = row_popped new items c.self.inside.cells.items less c.loop-self.invariant.same; used = c.loop-self.invariant.used ∙ count_pushed items new less }
