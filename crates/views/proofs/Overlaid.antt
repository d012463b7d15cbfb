-- What holds of a state, or of a state with changes over it, holds of the world that a view of it shows.
use Rattle.std.proofs.Common.{◌≡◌, Bool, Option, Some, None, sym, subst}
use Rattle.std.specs.Prelude.{IfSome}
use Rattle.model.specs.declared.FullNodeId.{FullNodeId}
use Rattle.model.specs.World.{World, Place}
use Rattle.model.specs.Focus.{IsEffectiveFocus}
use Rattle.model.specs.Forest.{IsFormed, place_of}
use Rattle.model.specs.State.{IsState, with_host}
use Rattle.model.proofs.State.HostFocus.{host_leaves_state, chain_before}
use Rattle.model.proofs.Forest.Rooted.{state_formed}
use Rattle.tree_changes.specs.LookUps.{IsPlaceOf}
use Rattle.tree_store.specs.declared.overlay.Overlay.{Overlay}
use Rattle.tree_store.specs.declared.records.Kept.{Kept}
use Rattle.views.specs.Sound.{laid_world}
use Rattle.views.proofs.Showing.{place_known}

module _ (w : World) (o p : Option Overlay) (host : Bool) (is : o ≡ p) where
  pub state_shown : IsState (laid_world w p) → IsState (with_host (laid_world w o) host)
  state_shown s = subst (λ x. IsState (with_host (laid_world w x) host)) (sym is) (host_leaves_state (laid_world w p) host s)

  pub formed_shown : IsState (laid_world w p) → IsFormed (with_host (laid_world w o) host)
  formed_shown s = state_formed (state_shown s)

  pub focus_shown : (f : FullNodeId) → IsEffectiveFocus (laid_world w p) f → IsEffectiveFocus (with_host (laid_world w o) host) f
  focus_shown f h =
      subst (λ x. IsEffectiveFocus (with_host (laid_world w x) host) f) (sym is)
      (chain_before {w = with_host (laid_world w p) host} (laid_world w p).host_focused f h.0, h.1, h.2, h.3)

  pub place_shown : (id : FullNodeId) (found : Option Place) → IsPlaceOf (laid_world w p) id found → found ≡ place_of (with_host (laid_world w o) host) id
  place_shown id found h = place_known (with_host (laid_world w o) host) id found (subst (λ x. IsPlaceOf (with_host (laid_world w x) host) id found) (sym is) h)

  pub kept_shown : (id : FullNodeId) (found : Option Kept) → IfSome found (λ r. IsPlaceOf (laid_world w p) id r.place.now) → IfSome found (λ r. r.place.now ≡ place_of (with_host (laid_world w o) host) id)
  kept_shown id None h = h
  kept_shown id (Some r) h = place_shown id r.place.now h

pub kept_placed : (w : World) (id : FullNodeId) (found : Option Kept) → IfSome found (λ r. IsPlaceOf w id r.place.now) → IfSome found (λ r. r.place.now ≡ place_of w id)
kept_placed w id None h = h
kept_placed w id (Some r) h = place_known w id r.place.now h
