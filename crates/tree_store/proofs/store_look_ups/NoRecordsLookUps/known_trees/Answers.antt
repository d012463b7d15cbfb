use Rattle.model.proofs.Surgery.OldWorlds.{empty_old}
use Rattle.tree_store.proofs.store_look_ups.NoRecordsLookUps.known_trees.Goals as goal

pub returns-clause-old : goal.returns-clause-old
returns-clause-old c = empty_old c.args.self.now.host_focused
