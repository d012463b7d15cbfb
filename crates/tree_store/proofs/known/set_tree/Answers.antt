use Rattle.std.proofs.Common.{ap}
use Rattle.std.proofs.Math.Seq.{map-set_same}
use Rattle.tree_store.specs.declared.records.KnownTree.{KnownTree}
use Rattle.tree_store.proofs.KnownTrees.{shown_set}
use Rattle.tree_store.proofs.known.set_tree.Goals as goal

pub returns-clause-names : goal.returns-clause-names
returns-clause-names c =
    let x : KnownTree = record { name = c.index_mut.result.now.name; tree = c.args.tree } in
    map-set_same (λ (k : KnownTree). k.name) c.args.known.now.items c.args.index x c.index_mut.result.now (ap (λ (k : KnownTree). k.name) c.index_mut.ensures.value)

pub returns-clause-trees : goal.returns-clause-trees
returns-clause-trees c =
    let x : KnownTree = record { name = c.index_mut.result.now.name; tree = c.args.tree } in
    shown_set c.args.known.now.items c.args.index x c.requires
