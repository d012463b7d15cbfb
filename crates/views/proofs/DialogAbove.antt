-- The nearest dialog, by the nearest node from the focus upwards whose role is a dialog's.
use Rattle.std.proofs.Common.{◌≡◌, Bool, true, false, cond, ◌⊎◌, inl, inr, List, [], ◌∷◌, Option, Some, None, refl, sym, ap, subst, ◌∙◌}
use Rattle.std.specs.Prelude.{find}
use Rattle.std.specs.Option.{option_map, option_map_or}
use Rattle.std.proofs.lemmas.Bool.{false≢true}
use Rattle.std.proofs.lemmas.Option.{none-some, same_Some}
use Rattle.schema.specs.NodeData.{NodeData}
use Rattle.schema.specs.declared.Role.{Role}
use Rattle.schema.specs.declared.Role.TheVariants.{AlertDialog, Dialog}
use Rattle.model.specs.declared.FullNodeId.{FullNodeId}
use Rattle.model.specs.World.{World, Place, StandsAt, data_of}
use Rattle.model.specs.Forest.{place_of, IsFormed}
use Rattle.model.specs.Focus.{IsDialog, IsNearestDialog, itself, above, IsFocus, IsActiveDialog}
use Rattle.model.specs.Lists.{ancestors}
use Rattle.model.specs.Upward.{says, upward}
use Rattle.model.specs.RoleClasses.{is_dialog}
use Rattle.model.proofs.Forest.PlaceOf.{stands_at_place, place_is}
use Rattle.model.proofs.Focus.FocusIsOne.{focus_unique}
use Rattle.views.proofs.Climbing.{parent_above, nothing_above, rest_above}

abbrev is_dialog_of : World → FullNodeId → Bool
is_dialog_of w id = says (λ d. is_dialog d.role) w id

role_is : (r : Role) → is_dialog r ≡ true → (r ≡ AlertDialog) ⊎ (r ≡ Dialog)
role_is AlertDialog e = inl refl
role_is Dialog e = inr refl
role_is _ e = absurd (false≢true e)

dialog_said : (w : World) (id : FullNodeId) → is_dialog_of w id ≡ true → IsDialog w id
dialog_said w id e = go (data_of w id) refl
  where
    go : (o : Option NodeData) → data_of w id ≡ o → IsDialog w id
    go None is = absurd (false≢true (sym (ap (λ o. option_map_or (λ d. is_dialog d.role) o false) is) ∙ e))
    go (Some d) is = (d, is, role_is d.role (sym (ap (λ o. option_map_or (λ d. is_dialog d.role) o false) is) ∙ e))

dialog_says : (w : World) (id : FullNodeId) → IsDialog w id → is_dialog_of w id ≡ true
dialog_says w id (d, is, inl role) = ap (λ o. option_map_or (λ d. is_dialog d.role) o false) is ∙ ap is_dialog role
dialog_says w id (d, is, inr role) = ap (λ o. option_map_or (λ d. is_dialog d.role) o false) is ∙ ap is_dialog role

module _ (w : World) (formed : IsFormed w) where
  -- a nearest dialog is found
  pub nearest_is_found : (dialog id : FullNodeId) → IsNearestDialog w dialog id → find (is_dialog_of w) (upward w id) ≡ Some dialog
  nearest_is_found dialog id (itself d) = ap (λ b. cond b (Some dialog) (find (is_dialog_of w) (ancestors w dialog))) (dialog_says w dialog d)
  nearest_is_found dialog id (above id' parent index other at n) =
      by_test (is_dialog_of w id) refl
      ∙ ap (find (is_dialog_of w)) (parent_above w formed id parent (sym (ap (option_map (λ (p : Place). p.0)) ((place_is w formed id (parent, index)).1 at))))
      ∙ nearest_is_found dialog parent n
    where
      by_test : (b : Bool) → is_dialog_of w id ≡ b → cond (is_dialog_of w id) (Some id) (find (is_dialog_of w) (ancestors w id)) ≡ find (is_dialog_of w) (ancestors w id)
      by_test true e = absurd (other (dialog_said w id e))
      by_test false e = ap (λ b. cond b (Some id) (find (is_dialog_of w) (ancestors w id))) e

  -- what is found is the nearest dialog
  placed_above : (id q : FullNodeId) (up : List FullNodeId) → ancestors w id ≡ q ∷ up → (p : Place) × StandsAt w p id × (p.0 ≡ q)
  placed_above id q up e = go (place_of w id) refl
    where
      go : (o : Option Place) → place_of w id ≡ o → (p : Place) × StandsAt w p id × (p.0 ≡ q)
      go None at = absurd (let none : [] ≡ q ∷ up = sym (nothing_above w formed id (sym (ap (option_map (λ (p : Place). p.0)) at))) ∙ e in cc)
      go (Some p) at =
          let both : p.0 ∷ ancestors w p.0 ≡ q ∷ up = sym (parent_above w formed id p.0 (sym (ap (option_map (λ (p : Place). p.0)) at))) ∙ e in
          (p, stands_at_place w id p at, cc)

  from_parent : (id q dialog : FullNodeId) (up : List FullNodeId) → ancestors w id ≡ q ∷ up → is_dialog_of w id ≡ false → IsNearestDialog w dialog q → IsNearestDialog w dialog id
  from_parent id q dialog up e other n =
      let p = placed_above id q up e in
      above id p.0.0 p.0.1 (λ d. false≢true (sym other ∙ dialog_says w id d)) p.1 (subst (IsNearestDialog w dialog) (sym p.2) n)

  at_itself : (id dialog : FullNodeId) → is_dialog_of w id ≡ true → Some id ≡ Some dialog → IsNearestDialog w dialog id
  at_itself id dialog e is = subst (IsNearestDialog w dialog) (sym (same_Some id dialog is)) (itself (subst (IsDialog w) (same_Some id dialog is) (dialog_said w id e)))

  found_above : (up : List FullNodeId) (id : FullNodeId) → ancestors w id ≡ up → (dialog : FullNodeId) (b : Bool) → is_dialog_of w id ≡ b → cond b (Some id) (find (is_dialog_of w) up) ≡ Some dialog → IsNearestDialog w dialog id
  found_above up id e dialog true is found = at_itself id dialog is found
  found_above [] id e dialog false is found = absurd (none-some dialog found)
  found_above (q ∷ up) id e dialog false is found =
      from_parent id q dialog up e is (found_above up q (rest_above w formed id q up e) dialog (is_dialog_of w q) refl found)

  pub found_is_nearest : (dialog id : FullNodeId) → find (is_dialog_of w) (upward w id) ≡ Some dialog → IsNearestDialog w dialog id
  found_is_nearest dialog id found = found_above (ancestors w id) id refl dialog (is_dialog_of w id) refl found

  -- so the answer is the nearest dialog to the focus
  pub active_dialog_is : (focus : FullNodeId) → IsFocus w (Some focus) → (found : Option FullNodeId) → found ≡ find (is_dialog_of w) (upward w focus) → IsActiveDialog w found
  active_dialog_is focus is (Some dialog) e = (focus, is, found_is_nearest dialog focus (sym e))
  active_dialog_is focus is None e = λ other dialog is' nearest.
      let same : other ≡ focus = same_Some other focus (focus_unique w (Some other) (Some focus) is' is) in
      none-some dialog (e ∙ nearest_is_found dialog focus (subst (IsNearestDialog w dialog) same nearest))

pub no_dialog : (w : World) → IsFocus w None → IsActiveDialog w None
no_dialog w off = λ focus dialog is nearest. none-some focus (focus_unique w None (Some focus) off is)
