-- Which node is focused.
use Rattle.std.proofs.Common.{◌≡◌, Bool, Option, Some, None, refl, sym, subst, ◌∙◌, true, false, not, inl, inr}
use Rattle.std.specs.Prelude.{◌≢◌, ◌↔◌, IsTrue, is_some}
use Rattle.model.specs.declared.FullNodeId.{FullNodeId}
use Rattle.model.specs.World.{World}
use Rattle.model.specs.Focus.{IsEffectiveFocus, IsFocus, IsFocusedNode, Resolves}
use Rattle.model.proofs.Focus.FocusIsOne.{effective_focus_unique, resolves_to_one}
use Rattle.views.specs.declared.node.node_ref.NodeRef.{NodeRef}
use Rattle.views.specs.Nodes.{id_at, ShowsThe}

true_not_false : false ≡ true → ⊥
true_not_false e = cc

pub is_not : (r : Bool) (P : Type 0) → IsTrue r ↔ P → r ≡ false → ¬ P
is_not r P is e p = true_not_false (sym e ∙ is.1 p)

-- f is the effective focus of a world whose host is focused
module _ (w : World) (id f : FullNodeId) (host : w.host_focused ≡ true) (focus : IsEffectiveFocus w f) where
  none_resolves : ShowsThe w (Resolves w f) None → (a : FullNodeId) → ¬ (Resolves w f a)
  none_resolves shows a r = let e : None ≡ Some a = (shows.node a).1 r in cc

  pub itself_shown : ShowsThe w (Resolves w f) None → IsFocus w (Some f)
  itself_shown shows = (host, f, focus, inr (refl, none_resolves shows))

  pub active_shown : (n : NodeRef) → ShowsThe w (Resolves w f) (Some n) → IsFocus w (Some (id_at n))
  active_shown n shows = (host, f, focus, inl ((shows.node (id_at n)).0 refl))

  moved : (e : FullNodeId) → IsEffectiveFocus w e → e ≡ f
  moved e h = effective_focus_unique w e f h focus

  -- at the effective focus itself
  at_focus_some : (n : NodeRef) → id ≡ f → Resolves w f (id_at n) → IsFocusedNode w id → ⊥
  at_focus_some n at r (h, e, eff, inl (is, none)) = none (id_at n) (subst (λ x. Resolves w x (id_at n)) (sym (moved e eff)) r)
  at_focus_some n at r (h, e, eff, inr (other, s)) = other (at ∙ sym (moved e eff))

  pub at_focus : (found : Option NodeRef) (r : Bool) → id ≡ f → ShowsThe w (Resolves w f) found → is_some found ≡ not r → IsTrue r ↔ IsFocusedNode w id
  at_focus None true at shows is = (λ _. (host, f, focus, inl (at, none_resolves shows)), λ _. refl)
  at_focus None false at shows is = cc
  at_focus (Some n) true at shows is = cc
  at_focus (Some n) false at shows is = (λ t. absurd (true_not_false t), λ h. absurd (at_focus_some n at ((shows.node (id_at n)).0 refl) h))

  -- elsewhere
  elsewhere_by : (n : NodeRef) → id ≢ f → Resolves w f (id_at n) → IsFocusedNode w id → id ≡ id_at n
  elsewhere_by n other r (h, e, eff, inl (is, none)) = absurd (other (is ∙ moved e eff))
  elsewhere_by n other r (h, e, eff, inr (ne, s)) = resolves_to_one w f id (id_at n) (subst (λ x. Resolves w x id) (moved e eff) s) r

  pub elsewhere : (n : NodeRef) (r : Bool) → id ≢ f → ShowsThe w (Resolves w f) (Some n) → IsTrue r ↔ (id ≡ id_at n) → IsTrue r ↔ IsFocusedNode w id
  elsewhere n r other shows is =
      let resolves : Resolves w f (id_at n) = (shows.node (id_at n)).0 refl in
      (λ t. (host, f, focus, inr (other, subst (Resolves w f) (sym (is.0 t)) resolves)), λ h. is.1 (elsewhere_by n other resolves h))

  nowhere_by : id ≢ f → ShowsThe w (Resolves w f) None → IsFocusedNode w id → ⊥
  nowhere_by other shows (h, e, eff, inl (is, none)) = other (is ∙ moved e eff)
  nowhere_by other shows (h, e, eff, inr (ne, s)) = none_resolves shows id (subst (λ x. Resolves w x id) (moved e eff) s)

  pub nowhere : id ≢ f → ShowsThe w (Resolves w f) None → IsTrue false ↔ IsFocusedNode w id
  nowhere other shows = (λ t. absurd (true_not_false t), λ h. absurd (nowhere_by other shows h))

-- the effective focus is one
pub is_effective : (w : World) (id f : FullNodeId) (r : Bool) → IsEffectiveFocus w f → IsTrue r ↔ (id ≡ f) → IsTrue r ↔ IsEffectiveFocus w id
is_effective w id f r focus is = (λ t. subst (IsEffectiveFocus w) (sym (is.0 t)) focus, λ h. is.1 (effective_focus_unique w id f h focus))

pub focus_moved : (w : World) (a b : FullNodeId) → IsEffectiveFocus w a → b ≡ a → IsEffectiveFocus w b
focus_moved w a b h e = subst (IsEffectiveFocus w) (sym e) h
