use Rattle.std.proofs.Common.{arith}
use Rattle.tree_store.proofs.names.take_names_back.Goals as goal

pub returns-clause-taken : goal.returns-clause-taken
returns-clause-taken c = λ k d less. c.loop-record.invariant.taken k d (omega (arith, less, c.loop-record-test.false))
