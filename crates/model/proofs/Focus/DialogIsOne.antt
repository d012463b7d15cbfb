-- A node of a state has at most one nearest dialog.
use Rattle.std.proofs.Common.{◌≡◌, Option, Some, None, refl, sym, ap, subst}
use Rattle.std.proofs.lemmas.Option.{same_Some}
use Rattle.model.specs.declared.FullNodeId.{FullNodeId}
use Rattle.model.specs.World.{World, Place, StandsAt}
use Rattle.model.specs.Focus.{IsDialog, IsNearestDialog, itself, above, IsActiveDialog}
use Rattle.model.specs.State.{IsState}
use Rattle.model.proofs.State.StatePlaces.{place_unique}
use Rattle.model.proofs.Focus.FocusIsOne.{focus_unique}

module _ {w : World} (s : IsState w) where
  pub nearest_dialog_unique : (a b x y : FullNodeId) → x ≡ y → IsNearestDialog w a x → IsNearestDialog w b y → a ≡ b
  nearest_dialog_unique a b x y same (itself d) (itself e) = same
  nearest_dialog_unique a b x y same (itself d) (above id parent index other at n) = absurd (other (subst (IsDialog w) same d))
  nearest_dialog_unique a b x y same (above id parent index other at n) (itself e) = absurd (other (subst (IsDialog w) (sym same) e))
  nearest_dialog_unique a b x y same (above id parent index other at n) (above id' parent' index' other' at' n') =
      let place : ◌≡◌ {A = Place} (parent, index) (parent', index') = place_unique s (parent, index) (parent', index') x at (subst (StandsAt w (parent', index')) (sym same) at') in
      nearest_dialog_unique a b parent parent' (ap (λ p. p.0) place) n n'

-- a state has at most one answer of `active_dialog`
pub active_dialog_unique : (w : World) (a b : Option FullNodeId) → IsState w → IsActiveDialog w a → IsActiveDialog w b → a ≡ b
active_dialog_unique w None None s p q = refl
active_dialog_unique w (Some a) None s p q = absurd (q p.0 a p.1 p.2)
active_dialog_unique w None (Some b) s p q = absurd (p q.0 b q.1 q.2)
active_dialog_unique w (Some a) (Some b) s p q = ap Some (nearest_dialog_unique s a b p.0 q.0 (same_Some p.0 q.0 (focus_unique w (Some p.0) (Some q.0) p.1 q.1)) p.2 q.2)
