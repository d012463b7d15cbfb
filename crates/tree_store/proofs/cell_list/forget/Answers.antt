use Rattle.tree_store.proofs.CellLists.{data_written}
use Rattle.tree_store.proofs.cell_list.forget.Goals as goal

pub returns-in-Listed-clause-others : goal.returns-in-Listed-clause-others
returns-in-Listed-clause-others c k apart = data_written c.args.listed.now.items c.args.number (c.index_mut.result.now.0, c.new.result) k apart
