use Rattle.std.proofs.Common.{◌≡◌, Result, Ok, Err, IfOk, subst}
use Rattle.std.specs.BTreeMap.{BTreeMap}
use Rattle.std.specs.Option.{option_map}
use Rattle.std.specs.declared.alloc.AllocError.{AllocError}
use Rattle.model.specs.declared.FullNodeId.{FullNodeId}
use Rattle.tree_store.specs.declared.copies.MirrorRecord.{MirrorRecord}
use Rattle.tree_store.specs.StoreViews.{StoreView}
use Rattle.tree_store.specs.Copied.{IsCopyOf, copy_at, copy_of}
use Rattle.tree_store.specs.Shown.{world_shown}
use Rattle.tree_store.specs.Cells.{record_at}
use Rattle.tree_store.proofs.CopiedSlots.{copy_is}
use Rattle.tree_store.proofs.store.Store.copy_records.Goals as goal

pub returns : goal.returns
returns c = go c.copy_all.result c.copy_all.ensures
  where
    go : (r : Result (BTreeMap FullNodeId MirrorRecord) AllocError)
        → IfOk r (λ copies. (id : FullNodeId) → copy_at copies.entries id ≡ option_map copy_of (record_at c.self.inside.tables.nodes id))
        → IfOk r (λ copies. (id : FullNodeId) → IsCopyOf c.args.self.now.world id (copy_at copies.entries id))
    go (Ok copies) copied = λ id. subst (λ (k : StoreView). IsCopyOf k.world id (copy_at copies.entries id)) c.self.view_is (copy_is c.self.inside.tables.nodes (world_shown c.self.inside) c.self.invariant.seated id (copy_at copies.entries id) (copied id))
    go (Err e) copied = tt
