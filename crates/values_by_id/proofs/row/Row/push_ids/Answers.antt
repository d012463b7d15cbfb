use Rattle.std.proofs.Common.{◌<◌, length, refl, sym, ap, ◌∙◌, arith}
use Rattle.std.proofs.lemmas.Option.{slice_get_read}
use Rattle.values_by_id.proofs.Entries.{row_ids, id_pushed, id_skipped}
use Rattle.values_by_id.proofs.row.Row.push_ids.Goals as goal
use Rattle.values_by_id.proofs.row.Row.push_ids.Goals.{then-is_some+in_ok-push, else-is_some}

pub loop-index-preserved : goal.loop-index-preserved
loop-index-preserved g c =
    let row = c.deref-cell-items.result.now in
    let k = c.loop-index.index in
    let x = c.cell-item.result in
    let within : k < length row = omega arith in
    let found = slice_get_read row (length row) k x refl within c.cell-item.is in
    elim c.if-is_some.branch [
      | then-is_some+in_ok-push w ↦ row_ids c.args.tree k row x c.args.ids.now.items c.loop-index.ids.items c.if-is_some.ids.items found c.loop-index.invariant
          (id_pushed c.args.tree k x c.loop-index.ids.items c.if-is_some.ids.items (sym c.is_some.ensures ∙ w.if-is_some.true) (ap (λ v. v.items) w.ids-is ∙ w.in_ok-push.ensures.items))
      | else-is_some w ↦ row_ids c.args.tree k row x c.args.ids.now.items c.loop-index.ids.items c.if-is_some.ids.items found c.loop-index.invariant
          (id_skipped c.args.tree k x c.loop-index.ids.items c.if-is_some.ids.items (sym c.is_some.ensures ∙ w.if-is_some.false) (ap (λ v. v.items) w.ids-is))
    ]
