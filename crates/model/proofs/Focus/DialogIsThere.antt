-- A state has an answer of `active_dialog`: the way up from the focus ends, and a dialog is met on it or none.
use Rattle.std.proofs.Common.{◌≡◌, Option, Some, None, ◌⊎◌, inl, inr, ⊎_elim, refl, sym, ap, ◌∙◌, subst}
use Rattle.std.proofs.lemmas.Option.{none-some, same_Some}
use Rattle.schema.specs.NodeData.{NodeData}
use Rattle.schema.specs.contracts.Role.{the_row as role_row}
use Rattle.schema.specs.declared.Role.TheVariants.{AlertDialog, Dialog}
use Rattle.model.specs.declared.FullNodeId.{FullNodeId}
use Rattle.model.specs.World.{World, Place, HasData, data_of}
use Rattle.model.specs.Focus.{IsFocus, IsDialog, IsNearestDialog, itself, above, IsActiveDialog}
use Rattle.model.specs.Forest.{place_of}
use Rattle.model.specs.State.{IsState}
use Rattle.model.proofs.Decisions.{same_or_not}
use Rattle.model.proofs.Forest.PlaceOf.{stands_at_place}
use Rattle.model.proofs.Forest.Rooted.{Ends, top, up, ends, state_formed}
use Rattle.model.proofs.Focus.FocusIsOne.{focus_unique}
use Rattle.model.proofs.Focus.FocusIsThere.{focus_exists}

-- a node is a dialog or not
dialog_or_not : (w : World) (id : FullNodeId) → IsDialog w id ⊎ ¬ (IsDialog w id)
dialog_or_not w id = by_data (data_of w id) refl
  where
    role_of : (d : NodeData) → HasData w id d → (h : IsDialog w id) → (d.role ≡ AlertDialog) ⊎ (d.role ≡ Dialog)
    role_of d has h = subst (λ x. (x.role ≡ AlertDialog) ⊎ (x.role ≡ Dialog)) (same_Some h.0 d (sym h.1 ∙ has)) h.2

    by_role : (d : NodeData) → HasData w id d → (d.role ≡ AlertDialog) ⊎ ¬ (d.role ≡ AlertDialog) → (d.role ≡ Dialog) ⊎ ¬ (d.role ≡ Dialog) → IsDialog w id ⊎ ¬ (IsDialog w id)
    by_role d has (inl alert) other = inl (d, has, inl alert)
    by_role d has (inr plain) (inl dialog) = inl (d, has, inr dialog)
    by_role d has (inr plain) (inr other) = inr (λ h. ⊎_elim plain other (role_of d has h))

    by_data : (o : Option NodeData) → data_of w id ≡ o → IsDialog w id ⊎ ¬ (IsDialog w id)
    by_data None is = inr (λ h. none-some h.0 (sym is ∙ h.1))
    by_data (Some d) is = by_role d is (same_or_not role_row.coded d.role AlertDialog) (same_or_not role_row.coded d.role Dialog)

-- there is a nearest dialog to the node, or there is none
abbrev IsDecidedAt : World → FullNodeId → Type 0
IsDecidedAt w id = ((dialog : FullNodeId) × IsNearestDialog w dialog id) ⊎ ((dialog : FullNodeId) → ¬ (IsNearestDialog w dialog id))

module _ {w : World} (s : IsState w) where
  -- the nearest dialog to a node that is none is that to its parent
  of_parent : (id dialog x : FullNodeId) → x ≡ id → ¬ (IsDialog w id) → IsNearestDialog w dialog x → (p : Place) × (place_of w id ≡ Some p) × IsNearestDialog w dialog p.0
  of_parent id dialog x same other (itself d) = absurd (other (subst (IsDialog w) same d))
  of_parent id dialog x same other (above y parent index plain at h) = ((parent, index), ap (place_of w) (sym same) ∙ (state_formed s).placed (parent, index) x at, h)

  nearest_or_none : (id : FullNodeId) → Ends w id → IsDecidedAt w id
  nearest_or_none id (top c at_top) = by_dialog (dialog_or_not w c)
    where
      by_dialog : IsDialog w c ⊎ ¬ (IsDialog w c) → IsDecidedAt w c
      by_dialog (inl d) = inl (c, itself d)
      by_dialog (inr other) = inr (λ dialog h. let p = of_parent c dialog c refl other h in none-some p.0 (sym at_top ∙ p.1))
  nearest_or_none id (up c q is rest) = by_dialog (dialog_or_not w c) (nearest_or_none q.0 rest)
    where
      by_dialog : IsDialog w c ⊎ ¬ (IsDialog w c) → IsDecidedAt w q.0 → IsDecidedAt w c
      by_dialog (inl d) later = inl (c, itself d)
      by_dialog (inr other) (inl found) = inl (found.0, above c q.0 q.1 other (stands_at_place w c q is) found.1)
      by_dialog (inr other) (inr none) = inr (λ dialog h.
          let p = of_parent c dialog c refl other h in
          let same : p.0 ≡ q = same_Some p.0 q (sym p.1 ∙ is) in
          none dialog (subst (λ (r : Place). IsNearestDialog w dialog r.0) same p.2))

  -- a state has an answer of `active_dialog`
  pub active_dialog_exists : (answer : Option FullNodeId) × IsActiveDialog w answer
  active_dialog_exists = let focus = focus_exists s in by_focus focus.0 focus.1
    where
      none_of : (focus : FullNodeId) → IsFocus w (Some focus) → ((dialog : FullNodeId) → ¬ (IsNearestDialog w dialog focus)) → IsActiveDialog w None
      none_of focus is none there dialog is' h = none dialog (subst (IsNearestDialog w dialog) (same_Some there focus (focus_unique w (Some there) (Some focus) is' is)) h)

      by_nearest : (focus : FullNodeId) → IsFocus w (Some focus) → IsDecidedAt w focus → (answer : Option FullNodeId) × IsActiveDialog w answer
      by_nearest focus is (inl found) = (Some found.0, (focus, is, found.1))
      by_nearest focus is (inr none) = (None, none_of focus is none)

      by_focus : (o : Option FullNodeId) → IsFocus w o → (answer : Option FullNodeId) × IsActiveDialog w answer
      by_focus None is = (None, λ other dialog is' h. none-some other (focus_unique w None (Some other) is is'))
      by_focus (Some focus) is = by_nearest focus is (nearest_or_none focus (ends s focus))
