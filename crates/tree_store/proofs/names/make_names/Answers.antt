use Rattle.std.proofs.Common.{sym, ◌∙◌}
use Rattle.tree_store.specs.KeptNames.{name_at}
use Rattle.tree_store.proofs.NamesKept.{taken_back, made_more}
use Rattle.tree_store.proofs.names.make_names.Goals as goal

pub returns-then-is_err-clause-err : goal.returns-then-is_err-clause-err
returns-then-is_err-clause-err c =
    let i = c.loop-record.invariant in
    let old = name_at c.args.names.now in
    let made = name_at c.make_name.new.names in
    let back = c.take_names_back.ensures in
    taken_back c.args.records.now old made (name_at c.take_names_back.new.names) (λ q. c.make_name.ensures.same q ∙ i.same q)
    (made_more c.args.records.now old (name_at c.loop-record.names) made c.record-item.result (c.loop-record.record-index, c.loop-record-test.true, sym c.record-item.is) i.made c.make_name.ensures.made)
    back.same back.fewer back.taken
