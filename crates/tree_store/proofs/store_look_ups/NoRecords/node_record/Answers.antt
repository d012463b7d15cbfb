use Rattle.std.proofs.Common.{sym, ap}
use Rattle.std.specs.Prelude.{is_some}
use Rattle.std.specs.FinMap.{get-empty}
use Rattle.model.specs.FullIds.{full_cmp}
use Rattle.tree_store.proofs.store_look_ups.NoRecords.node_record.Goals as goal

pub returns-clause-found : goal.returns-clause-found
returns-clause-found c = ap is_some (sym (get-empty full_cmp c.args.id))
