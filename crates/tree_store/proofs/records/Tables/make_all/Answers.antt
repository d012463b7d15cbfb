use Rattle.std.proofs.Common.{◌≡◌, sym, subst, ◌∙◌}
use Rattle.std.specs.Prelude.{All}
use Rattle.tree_changes.specs.declared.look_ups.TreeRecord.{TreeRecord}
use Rattle.tree_store.specs.KeptNames.{name_at, IsNoBlank}
use Rattle.tree_store.proofs.NamesKept.{taken_back}
use Rattle.tree_store.proofs.records.Tables.make_all.Goals as goal

pub returns-then-is_err-2-clause-fewer : goal.returns-then-is_err-2-clause-fewer
returns-then-is_err-2-clause-fewer c =
    let made = c.make_names.ensures in
    let back = c.take_names_back.ensures in
    let one : c.as_slice-then-is_err-2-2.result.now ≡ c.as_slice-2.result.now = c.as_slice-then-is_err-2-2.ensures.value ∙ sym c.as_slice-2.ensures.value in
    let taken = subst (All (λ (r : TreeRecord). IsNoBlank (name_at c.take_names_back.new.names r.id))) one back.taken in
    taken_back c.as_slice-2.result.now (name_at c.args.self.now.names) (name_at c.make_names.new.names) (name_at c.take_names_back.new.names) made.same made.made back.same back.fewer taken
