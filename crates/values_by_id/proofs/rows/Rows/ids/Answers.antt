use Rattle.std.proofs.Common.{length, refl, arith}
use Rattle.std.proofs.lemmas.Option.{slice_get_read}
use Rattle.values_by_id.proofs.Entries.{cells_ids}
use Rattle.values_by_id.proofs.rows.Rows.ids.Goals as goal

pub loop-index-preserved : goal.loop-index-preserved
loop-index-preserved g c =
    let rows = c.deref-row-items.result.now in
    cells_ids c.loop-index.index rows c.row-item.result c.loop-index.ids.items c.push_ids.new.ids.items (slice_get_read rows (length rows) c.loop-index.index _ refl (omega arith) c.row-item.is) c.loop-index.invariant c.in_ok-push_ids.ensures
