use Rattle.std.proofs.Common.{refl, sym, ◌∙◌, None}
use Rattle.tree_store.proofs.KeptSlots.{blank_same, none_from_false}
use Rattle.tree_store.specs.Cells.{record_at}
use Rattle.tree_store.proofs.slots.remove_empty.Goals as goal

pub returns-then-not-has_record-clause-same : goal.returns-then-not-has_record-clause-same
returns-then-not-has_record-clause-same c =
    blank_same c.args.slots.now c.remove.new.self c.args.id None refl c.remove.ensures
    (none_from_false (record_at c.args.slots.now c.args.id) (sym c.has_record.ensures ∙ c.if-not-has_record.true))
