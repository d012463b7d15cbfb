use Rattle.std.proofs.Common.{rules, sym, subst}
use Rattle.schema.specs.UpdateData.{UpdateData, update_data}
use Rattle.model.specs.World.{World}
use Rattle.tree_plan.specs.News.{KeepsTree}
use Rattle.tree_plan.specs.Moves.{IsKeptRoot}
use Rattle.tree_plan.proofs.deciding.find_shortly.Goals as goal

pub find_moves-requires-clause-root : goal.find_moves-requires-clause-root
find_moves-requires-clause-root g c =
    let u : UpdateData = update_data c.args.update.now in
    let tree : KeepsTree u c.args.opened.now = c.keeps_tree.ensures.0 (search rules) in
    subst (λ (x : World). IsKeptRoot x u c.full_id-root.result) (sym c.find_news.ensures.world) (c.args.opened.now, c.requires.opening, tree, c.full_id-root.ensures)
