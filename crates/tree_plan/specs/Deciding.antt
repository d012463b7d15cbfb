-- What the passes find together.
use Rattle.std.specs.Prelude.{◌≡◌, ℕ, ◌+◌, ◌*◌, ◌≤◌, length}
use Rattle.model.specs.World.{World}
use Rattle.model.specs.Update.{UpdateData, index_for}
use Rattle.model.specs.Differences.{told_root}
use Rattle.model.specs.Work.{named_ids}
use Rattle.model.specs.Surgery.{IsOld, AreSteps}
use Rattle.tree_changes.specs.LookUps.{IsRaisedAtLeast, IsRaisedUpTo}
use Rattle.tree_plan.specs.declared.passes.Compared.{Compared}
use Rattle.tree_plan.specs.declared.passes.Removed.{Removed}
use Rattle.tree_plan.specs.declared.verdicts.Found.{Found}
use Rattle.tree_plan.specs.Passes.{HoldsOpened, HoldsCompared, HoldsRemoved, HoldsRegrafted}

-- the passes have found no broken rule, and this is what they found
pub record AreFindings (w : World) (u : UpdateData) (f : Found) : Type 0 where
  pub old : IsOld w
  pub opening : HoldsOpened w u f.opened
  pub comparison : HoldsCompared w u f.compared
  pub removal : HoldsRemoved w u f.removed
  pub regrafting : HoldsRegrafted w u f.regrafted.trees.items f.regrafted.moved_in
  pub told : f.told ≡ told_root (index_for w u.name) u.info

-- before the passes the tree was looked up, at most each named node, twice for each known name where the focus is, and 21 nodes more to
-- see whether only a few have moved
abbrev pub HasBegun : World → UpdateData → ℕ → ℕ → Type 0
HasBegun w u before start = start ≤ before + (1 + (length u.nodes + 2 * length w.known + 21))

-- the look-ups of the passes from the second to the fifth, one after another, and how many trees lose their grafts
pub record IsRemovedCount (w : World) (u : UpdateData) (c : Compared) (r : Removed) (before after : ℕ) : Type 0 where
  pub steps : ℕ
  pub are_steps : AreSteps w u (named_ids w u) steps
  pub cut : length r.trees.items ≤ length r.gone.keys + length c.lost.items
  pub asked : IsRaisedUpTo before (length c.entered + (2 * length r.gone.keys + length c.lost.items) + steps) after

-- the look-ups of these passes after the first, one after another, at least one for each named node, and how many trees they change
pub record IsCount (w : World) (u : UpdateData) (f : Found) (before after : ℕ) : Type 0 where
  pub steps : ℕ
  pub are_steps : AreSteps w u (named_ids w u) steps
  pub cut : length f.removed.trees.items ≤ length f.removed.gone.keys + length f.compared.lost.items
  pub gained : length f.regrafted.trees.items ≤ length f.compared.gained.items
  pub named : IsRaisedAtLeast before (length u.nodes) after
  pub asked : after ≤ before
      + length u.nodes + length f.compared.entered
      + (2 * length f.removed.gone.keys + length f.compared.lost.items) + steps
      + length f.compared.gained.items
