use Rattle.std.proofs.Common.{rules, ◌≡◌, length, ◌∙◌}
use Rattle.tree_store.proofs.CellLists.{count_is}
use Rattle.tree_store.proofs.cell_list.CellList.len.Goals as goal

pub returns : goal.returns
returns c = let n : c.len.result ≡ length c.self.inside.cells.items = search rules in n ∙ count_is c.self.inside c.args.self.now c.self.view_is
