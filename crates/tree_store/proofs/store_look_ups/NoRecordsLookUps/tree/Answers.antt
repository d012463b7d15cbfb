use Rattle.tree_store.proofs.KeptReads.{empty_record}
use Rattle.tree_store.proofs.store_look_ups.NoRecordsLookUps.tree.Goals as goal

pub returns-clause-given : goal.returns-clause-given
returns-clause-given c = empty_record c.args.self.now.host_focused c.args._name
