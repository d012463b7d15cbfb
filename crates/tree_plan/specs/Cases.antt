-- An update with what the first passes found, as each later pass takes it.
use Rattle.schema.specs.UpdateData.{UpdateData, update_data}
use Rattle.model.specs.World.{World}
use Rattle.model.specs.Surgery.{IsOld}
use Rattle.tree_plan.specs.declared.passes.Case.{Case}
use Rattle.tree_plan.specs.Passes.{HoldsOpened, HoldsCompared}

-- the update that was sent
abbrev pub sent : Case → UpdateData
sent c = update_data c.update.now

-- the update comes to an old world, its tree is looked up, and its nodes are compared
pub record IsCase (w : World) (c : Case) : Type 0 where
  pub old : IsOld w
  pub opening : HoldsOpened w (sent c) c.opened.now
  pub comparison : HoldsCompared w (sent c) c.compared.now
