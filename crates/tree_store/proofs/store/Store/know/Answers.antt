use Rattle.std.proofs.Common.{subst}
use Rattle.model.proofs.Forest.Rooted.{state_formed}
use Rattle.model.specs.Forest.{IsFormed}
use Rattle.tree_store.specs.StoreViews.{StoreView}
use Rattle.tree_store.proofs.store.Store.know.Goals as goal

pub returns-clause-formed : goal.returns-clause-formed
returns-clause-formed c = subst (λ (k : StoreView). IsFormed k.world) c.self.view_is (state_formed c.self.invariant.state)
