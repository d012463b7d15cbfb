-- What the test of code says of the focus.
use Rattle.std.proofs.Common.{◌≡◌, Bool, true, false, refl, sym, subst}
use Rattle.std.specs.Prelude.{IsTrue, ◌↔◌}
use Rattle.model.specs.declared.FullNodeId.{FullNodeId}
use Rattle.model.specs.World.{World}
use Rattle.model.specs.State.{IsState}
use Rattle.model.specs.Focus.{IsFocusedNode}
use Rattle.model.specs.FocusFound.{is_focused}
use Rattle.model.proofs.Focus.FocusIsFound.{focused_node_is_found}

same_truth : (P : Type 0) (a b : Bool) → IsTrue a ↔ P → IsTrue b ↔ P → a ≡ b
same_truth P true b h g = sym (g.1 (h.0 refl))
same_truth P false true h g = h.1 (g.0 refl)
same_truth P false false h g = refl

pub focus_tested : (w v : World) → v ≡ w → IsState v → (id : FullNodeId) (r : Bool) → IsTrue r ↔ IsFocusedNode w id → r ≡ is_focused w id
focus_tested w v same s id r h = same_truth (IsFocusedNode w id) r (is_focused w id) h (focused_node_is_found w (subst IsState same s) id)
