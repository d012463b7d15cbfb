use Rattle.std.proofs.Common.{rules, None, refl, ap, ◌∙◌}
use Rattle.tree_store.specs.declared.records.KnownTree.{KnownTree}
use Rattle.tree_store.specs.Stored.{trees_shown}
use Rattle.tree_store.proofs.KnownTrees.{shown_push}
use Rattle.tree_store.proofs.known.add_name.Goals as goal

pub returns-clause-trees : goal.returns-clause-trees
returns-clause-trees c =
    let k : KnownTree = record { name = c.args.name; tree = None } in
    let pushed = c.push.ensures.items in
    ap (trees_shown 0) (search rules) ∙ shown_push c.args.known.now.items 0 k refl
