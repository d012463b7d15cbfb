-- The focus that is shown is the focus.
use Rattle.std.proofs.Common.{◌≡◌, Bool, true, false, Option, Some, None, inl, inr, refl, sym, ◌∙◌, subst}
use Rattle.std.specs.Prelude.{◌↔◌, unwrap_or, option_map, if◌then◌else◌}
use Rattle.std.proofs.lemmas.Option.{none-some}
use Rattle.model.specs.declared.FullNodeId.{FullNodeId}
use Rattle.model.specs.World.{World}
use Rattle.model.specs.State.{IsState}
use Rattle.model.specs.Focus.{IsEffectiveFocus, IsFocus}
use Rattle.model.specs.FocusFound.{effective_focus, active_descendant, shown_focus}
use Rattle.model.proofs.Focus.FocusIsOne.{focus_unique}
use Rattle.model.proofs.Focus.FocusIsThere.{effective_focus_found}
use Rattle.model.proofs.Focus.FocusIsFound.{active_resolves, resolves_active}

active_or_it : (w : World) (e : FullNodeId) → w.host_focused ≡ true → IsEffectiveFocus w e → (o : Option FullNodeId) → active_descendant w e ≡ o → IsFocus w (Some (unwrap_or o e))
active_or_it w e on effective None is = (on, e, effective, inr (refl, λ a r. none-some a (sym is ∙ resolves_active w e a r)))
active_or_it w e on effective (Some a) is = (on, e, effective, inl (active_resolves w e a is))

focus_by : (w : World) → IsState w → (b : Bool) → w.host_focused ≡ b → IsFocus w (if b then option_map (λ e. unwrap_or (active_descendant w e) e) (effective_focus w) else None)
focus_by w s false off = off
focus_by w s true on =
    let f = effective_focus_found s in
    subst (λ o. IsFocus w (option_map (λ e. unwrap_or (active_descendant w e) e) o)) (sym f.1) (active_or_it w f.0 on f.2 (active_descendant w f.0) refl)

pub shown_focus_is_focus : (w : World) (focus : Option FullNodeId) → IsState w → IsFocus w focus ↔ (focus ≡ shown_focus w)
shown_focus_is_focus w focus s =
    let shown : IsFocus w (shown_focus w) = focus_by w s w.host_focused refl in
    (λ is. focus_unique w focus (shown_focus w) is shown, λ same. subst (IsFocus w) (sym same) shown)
