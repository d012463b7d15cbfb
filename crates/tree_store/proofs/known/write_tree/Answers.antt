use Rattle.tree_store.proofs.KnownTrees.{shown_put}
use Rattle.tree_store.proofs.known.write_tree.Goals as goal

pub returns-clause-trees : goal.returns-clause-trees
returns-clause-trees c = shown_put c.args.known.now.items c.set_tree.new.known.items c.args.changed.now c.in-Some.index c.present_in.result c.in-Some.is c.present_in.ensures c.set_tree.ensures.trees
