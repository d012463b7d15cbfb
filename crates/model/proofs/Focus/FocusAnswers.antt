-- What `focus_id` and `focus` answer, and which node says that it is focused.
use Rattle.std.proofs.Common.{◌≡◌, Bool, true, false, Option, Some, None, inl, inr, refl, ap}
use Rattle.model.specs.declared.FullNodeId.{FullNodeId}
use Rattle.model.specs.World.{World}
use Rattle.model.specs.Focus.{IsFocusId, IsFocus, IsFocusedNode}
use Rattle.model.specs.State.{IsState}
use Rattle.model.proofs.Focus.FocusIsOne.{effective_focus_unique}
use Rattle.model.proofs.Focus.FocusIsThere.{effective_focus_exists}

-- a world has at most one answer of `focus_id`
pub focus_id_unique : (w : World) (a b : Option FullNodeId) → IsFocusId w a → IsFocusId w b → a ≡ b
focus_id_unique w None None p q = refl
focus_id_unique w None (Some b) p q = cc (p, q.0)
focus_id_unique w (Some a) None p q = cc (p.0, q)
focus_id_unique w (Some a) (Some b) p q = ap Some (effective_focus_unique w a b p.1 q.1)

-- a state has one
pub focus_id_exists : (w : World) → IsState w → (answer : Option FullNodeId) × IsFocusId w answer
focus_id_exists w s = by_host w.host_focused refl
  where
    by_host : (b : Bool) → w.host_focused ≡ b → (answer : Option FullNodeId) × IsFocusId w answer
    by_host false is = (None, is)
    by_host true is = let e = effective_focus_exists s in (Some e.0, (is, e.1))

-- a node that says that it is focused is the answer of `focus`
pub focused_node_is_focus : (w : World) (id : FullNodeId) → IsFocusedNode w id → IsFocus w (Some id)
focused_node_is_focus w id h = (h.0, h.1, h.2, elim (h.3) [ inl itself ↦ inr itself | inr active ↦ inl active.1 ])
