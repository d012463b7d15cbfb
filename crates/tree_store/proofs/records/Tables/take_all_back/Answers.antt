use Rattle.std.proofs.Common.{subst}
use Rattle.std.specs.Prelude.{All}
use Rattle.tree_changes.specs.declared.look_ups.TreeRecord.{TreeRecord}
use Rattle.tree_store.specs.KeptNames.{name_at, IsNoBlank}
use Rattle.tree_store.proofs.records.Tables.take_all_back.Goals as goal

pub returns-clause-taken : goal.returns-clause-taken
returns-clause-taken c =
    subst (All (λ (r : TreeRecord). IsNoBlank (name_at c.take_names_back.new.names r.id))) c.as_slice-2.ensures.value c.take_names_back.ensures.taken
