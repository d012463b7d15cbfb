use Rattle.std.proofs.Common.{refl, sym, ◌∙◌, Some, None}
use Rattle.tree_store.specs.declared.records.NameRecord.{NameRecord}
use Rattle.tree_store.specs.KeptNames.{name_at}
use Rattle.tree_store.proofs.NamesKept.{blank_kept, still_there, unkept, one_more}
use Rattle.tree_store.proofs.names.make_name.Goals as goal

pub returns-clause-same : goal.returns-clause-same
returns-clause-same c =
    let empty : NameRecord = record { index = None; graft = None } in
    blank_kept (name_at c.args.names.now) (name_at c.insert.new.self) c.args.name.now (Some empty) refl c.in_ok-insert.ensures.updates.0 (unkept (name_at c.args.names.now c.args.name.now) (sym c.contains_key.ensures ∙ c.if-contains_key.false))

pub returns-clause-there : goal.returns-clause-there
returns-clause-there c =
    let empty : NameRecord = record { index = None; graft = None } in
    still_there (name_at c.args.names.now) (name_at c.insert.new.self) c.args.name.now empty c.in_ok-insert.ensures.updates.0

pub returns-clause-made : goal.returns-clause-made
returns-clause-made c =
    let empty : NameRecord = record { index = None; graft = None } in
    one_more (name_at c.args.names.now) (name_at c.insert.new.self) c.args.name.now empty c.in_ok-insert.ensures.updates.0
