use Rattle.std.proofs.Common.{arith, ap}
use Rattle.std.specs.FinMap as map
use Rattle.std.specs.FinSet as set
use Rattle.tree_store.specs.StoreViews.{StoreView}
use Rattle.tree_store.proofs.SlotCounts.{slots_fit, nodes_fit}
use Rattle.tree_store.proofs.store.Store.know_count.Goals as goal

pub returns-clause-slots : goal.returns-clause-slots
returns-clause-slots c = omega (arith, slots_fit c.self.inside.tables.nodes, ap (λ (k : StoreView). set.len k.slots) c.self.view_is, c.len-count.ensures.bound, c.len-count.ensures.count)

pub returns-clause-nodes : goal.returns-clause-nodes
returns-clause-nodes c = omega (arith, nodes_fit c.self.inside.tables.nodes, ap (λ (k : StoreView). map.len k.world.nodes) c.self.view_is, c.len-count.ensures.bound, c.len-count.ensures.count)
