-- The nearest dialog to a focus within a graft.
use Rattle.std.proofs.Common.{◌≡◌, ◌≢◌, ℕ, List, [], ◌∷◌, nat_cmp, Some, option_map, inl, inr, ⊎_elim, refl, sym, ap, ◌∙◌}
use Rattle.std.specs.Cmp.{nat_cmp_total}
use Rattle.std.specs.FinMap.{get, find}
use Rattle.std.proofs.lemmas.Option.{same_Some}
use Rattle.schema.specs.NodeData.{NodeData}
use Rattle.schema.specs.declared.Role.{Role}
use Rattle.schema.specs.declared.Role.TheVariants.{AlertDialog, Dialog, Document}
use Rattle.model.specs.declared.FullNodeId.{FullNodeId}
use Rattle.model.specs.FullIds.{full_cmp, full_total}
use Rattle.model.specs.World.{World, Tree, HasData, in_tree, Reached}
use Rattle.model.specs.World as world
use Rattle.model.specs.Focus.{first, next, GoesOn, IsEffectiveFocus, IsFocus, Resolves, IsDialog, IsNearestDialog, itself, above, IsActiveDialog}
use Rattle.model.specs.Examples.{at, node, name, window, graft, button, holder, dialogs}
use Rattle.model.proofs.State.StatePlaces.{stands_listed, stands_grafted}
use Rattle.model.proofs.Examples.Tools.{entries-from_entries, get_is, lists_at, grafts_at}

not_dialog : (w : World) (id : FullNodeId) (d : NodeData) → HasData w id d → d.role ≢ AlertDialog → d.role ≢ Dialog → ¬ (IsDialog w id)
not_dialog w id d is alert plain h = let same : h.0.role ≡ d.role = ap (λ x. x.role) (same_Some h.0 d (sym h.1 ∙ is)) in ⊎_elim (λ e. alert (sym same ∙ e)) (λ e. plain (sym same ∙ e)) h.2

module _ (outer inner : Role) where
  abbrev w : World
  w = dialogs outer inner

  nodes : List (FullNodeId × NodeData)
  nodes = (at 0 0, window (1 ∷ [])) ∷ (at 0 1, holder outer 2) ∷ (at 0 2, graft (name 1)) ∷ (at 1 0, holder inner 1) ∷ (at 1 1, button) ∷ []

  abbrev tree_of : ℕ → Tree
  tree_of focus = record { root = node 0; focus = node focus }

  abbrev trees : List (ℕ × Tree)
  trees = (0, tree_of 2) ∷ (1, tree_of 1) ∷ []

  tree_at : (index : ℕ) → get w.trees index ≡ find nat_cmp index trees
  tree_at index = get_is w.trees trees (entries-from_entries nat_cmp_total trees) index

  has : (id : FullNodeId) → get w.nodes id ≡ find full_cmp id nodes
  unfolding nodes
  has id = get_is w.nodes nodes (entries-from_entries full_total nodes) id

  effective : IsEffectiveFocus w (at 1 1)
  unfolding nodes
  effective = (next (at 0 2) (at 1 1) (first (tree_of 2) (tree_at 0)) goes, button, has (at 1 1), refl)
    where
      reached_holder : Reached w (at 0 1)
      reached_holder = world.Reached.child (at 0 0) (at 0 1) 0 (world.Reached.root 0 (tree_of 2) (tree_at 0)) (lists_at w (at 0 0) (window (1 ∷ [])) 0 (at 0 1) (has (at 0 0)) refl)

      goes : GoesOn w (at 0 2) (at 1 1)
      goes = record {
        kept = world.Kept.root;
        reached = world.Reached.child (at 0 1) (at 0 2) 0 reached_holder (lists_at w (at 0 1) (holder outer 2) 0 (at 0 2) (has (at 0 1)) refl);
        name = name 1;
        grafts = grafts_at w (at 0 2) (graft (name 1)) (has (at 0 2));
        declared = ap (option_map (λ t. in_tree 1 t.focus)) (tree_at 1);
      }

  on_button : IsFocus w (Some (at 1 1))
  unfolding nodes
  on_button = (refl, at 1 1, effective, inr (refl, plain))
    where
      plain : (a : FullNodeId) → ¬ (Resolves w (at 1 1) a)
      plain a h = let same : h.0 ≡ button = same_Some h.0 button (sym h.1 ∙ has (at 1 1)) in cc (h.2, ap (λ x. x.active_descendant) same)

  -- the root of the inner tree is the nearest one, where it is a dialog
  inner_nearest : IsDialog w (at 1 0) → IsNearestDialog w (at 1 0) (at 1 1)
  unfolding nodes
  inner_nearest dialog =
      above (at 1 1) (at 1 0) 0 (not_dialog w (at 1 1) button (has (at 1 1)) (λ e. cc) (λ e. cc))
      (stands_listed w (at 1 0, 0) (at 1 1) (grafts_at w (at 1 0) (holder inner 1) (has (at 1 0))) (lists_at w (at 1 0) (holder inner 1) 0 (at 1 1) (has (at 1 0)) refl))
      (itself dialog)

  -- and else the node around the graft
  outer_nearest : IsDialog w (at 0 1) → ¬ (IsDialog w (at 1 0)) → IsNearestDialog w (at 0 1) (at 1 1)
  unfolding nodes
  outer_nearest dialog other =
      above (at 1 1) (at 1 0) 0 (not_dialog w (at 1 1) button (has (at 1 1)) (λ e. cc) (λ e. cc))
      (stands_listed w (at 1 0, 0) (at 1 1) (grafts_at w (at 1 0) (holder inner 1) (has (at 1 0))) (lists_at w (at 1 0) (holder inner 1) 0 (at 1 1) (has (at 1 0)) refl))
      (above (at 1 0) (at 0 2) 0 other (stands_grafted w (at 0 2) (at 1 0) (name 1) (grafts_at w (at 0 2) (graft (name 1)) (has (at 0 2))) (ap (option_map (λ t. in_tree 1 t.root)) (tree_at 1)))
      (above (at 0 2) (at 0 1) 0 (not_dialog w (at 0 2) (graft (name 1)) (has (at 0 2)) (λ e. cc) (λ e. cc))
      (stands_listed w (at 0 1, 0) (at 0 2) (grafts_at w (at 0 1) (holder outer 2) (has (at 0 1))) (lists_at w (at 0 1) (holder outer 2) 0 (at 0 2) (has (at 0 1)) refl))
      (itself dialog)))

pub alert_dialog_is_active_across_a_graft : IsActiveDialog (dialogs AlertDialog Document) (Some (at 0 1))
unfolding nodes
alert_dialog_is_active_across_a_graft = (
  at 1 1,
  on_button AlertDialog Document,
  outer_nearest AlertDialog Document (holder AlertDialog 2, has AlertDialog Document (at 0 1), inl refl)
      (not_dialog (dialogs AlertDialog Document) (at 1 0) (holder Document 1) (has AlertDialog Document (at 1 0)) (λ e. cc) (λ e. cc)),
)

pub nearest_dialog_is_active : IsActiveDialog (dialogs AlertDialog Dialog) (Some (at 1 0))
unfolding nodes
nearest_dialog_is_active = (at 1 1, on_button AlertDialog Dialog, inner_nearest AlertDialog Dialog (holder Dialog 1, has AlertDialog Dialog (at 1 0), inr refl))
