-- The updates of trees within trees, worked out.
use Rattle.std.proofs.Common.{◌≡◌, ◌≢◌, ℕ, List, [], ◌∷◌, Option, Some, None, ◌⊎◌, inl, inr, refl, sym, ap, subst, ◌∙◌, map, option_map, arith}
use Rattle.std.specs.Prelude.{Contains, slice_get}
use Rattle.std.specs.FinMap.{find}
use Rattle.std.specs.List.Sorted.{IsStrictlySortedBy}
use Rattle.schema.specs.NodeData.{NodeData}
use Rattle.model.specs.declared.FullNodeId.{FullNodeId}
use Rattle.model.specs.FullIds.{full_cmp}
use Rattle.model.specs.World.{World, Place, data_of, in_tree, listed_ids}
use Rattle.model.specs.Forest.{place_of}
use Rattle.model.specs.Differences.{Added, Updated, Removed, IsAscendingListOf, IsAdded, IsUpdated}
use Rattle.model.specs.Examples.{at, node, window, document, button, labelled_document, nested, graft_moves_out, moved_out, empty_graft, pushed, labelled}
use Rattle.model.specs.ToldExamples.{GraftMovesOut, GraftedTreeComes, GraftedRootIsLabelled, GraftMovesOutWork}
use Rattle.model.specs.State.{Lists}
use Rattle.model.specs.Work.{HasDepthInTree, at_root, at_child, IsChildOfNamed}
use Rattle.std.specs.Option.{option_map_or}
use Rattle.model.proofs.Examples.Tools.{EachAt, each_at, lists_at}
use Rattle.model.proofs.Examples.Tested.{node_in, tree_at, is_there, is_away, among, place_read}
use Rattle.model.proofs.Examples.Worlds.{document_nodes, nested_written, moved_out_written, empty_graft_written, pushed_written, labelled_written}
use Rattle.model.proofs.Examples.MovesOut.{graft_that_moves_out_keeps_its_tree}
use Rattle.model.proofs.Examples.Pushes.{grafted_tree_is_accepted}
use Rattle.model.proofs.Examples.RootsAgain.{root_sent_again_keeps_its_place}
use Rattle.model.proofs.Examples.ToldTools.{listed_so, children_in, label_in, tree_in, other_children, other_label, other_first, other_parent, same_still, nothing_there}
use Rattle.model.proofs.Differences.SameWorlds.{with_same_focus}
use Rattle.model.proofs.Members.{contains_cases, contains_none}

-- ---- a graft moves out

moved_added : IsAscendingListOf (IsAdded nested moved_out) (at 0 2 ∷ [])
unfolding IsStrictlySortedBy
moved_added =
    listed_so _ (at 0 2 ∷ []) (at 0 0 ∷ at 0 2 ∷ at 2 0 ∷ at 2 1 ∷ []) (tt, tt) ((is_there moved_out_written (at 0 2) refl, is_away nested_written (at 0 2) refl), tt)
    (λ y h. among moved_out_written y h.0)
    (inr (λ h. h.1 (is_there nested_written (at 0 0) refl)), (inl (0, omega arith, refl), (inr (λ h. h.1 (is_there nested_written (at 2 0) refl)), (inr (λ h. h.1 (is_there nested_written (at 2 1) refl)), tt))))

moved_removed : IsAscendingListOf (IsAdded moved_out nested) (at 0 1 ∷ at 1 0 ∷ at 1 1 ∷ [])
unfolding IsStrictlySortedBy
moved_removed =
    listed_so _ (at 0 1 ∷ at 1 0 ∷ at 1 1 ∷ []) (at 0 0 ∷ at 0 1 ∷ at 1 0 ∷ at 1 1 ∷ at 2 0 ∷ at 2 1 ∷ []) ((refl, (refl, tt)), ((refl, tt), (tt, tt)))
    ((is_there nested_written (at 0 1) refl, is_away moved_out_written (at 0 1) refl), ((is_there nested_written (at 1 0) refl, is_away moved_out_written (at 1 0) refl), ((is_there nested_written (at 1 1) refl, is_away moved_out_written (at 1 1) refl), tt)))
    (λ y h. among nested_written y h.0)
    (inr (λ h. h.1 (is_there moved_out_written (at 0 0) refl)), (inl (0, omega arith, refl), (inl (1, omega arith, refl), (inl (2, omega arith, refl), (inr (λ h. h.1 (is_there moved_out_written (at 2 0) refl)), (inr (λ h. h.1 (is_there moved_out_written (at 2 1) refl)), tt))))))

window_differs : data_of nested (at 0 0) ≢ data_of moved_out (at 0 0)
window_differs =
    other_children _ _ (node 1 ∷ []) (node 2 ∷ []) (ap children_in (node_in nested_written (at 0 0))) (ap children_in (node_in moved_out_written (at 0 0))) (other_first (node 1 ∷ []) (node 2 ∷ []) (omega arith))

root_moves : place_of nested (at 2 0) ≢ place_of moved_out (at 2 0)
root_moves = other_parent _ _ (at 1 1, 0) (at 0 2, 0) (place_read nested_written (at 2 0)) (place_read moved_out_written (at 2 0)) (omega arith)

button_stays : ¬ (IsUpdated nested moved_out None (at 2 1))
button_stays =
    same_still nested moved_out None (at 2 1) (node_in nested_written (at 2 1) ∙ sym (node_in moved_out_written (at 2 1))) (place_read nested_written (at 2 1) ∙ sym (place_read moved_out_written (at 2 1))) (nothing_there (at 2 1))

moved_updated : IsAscendingListOf (IsUpdated nested moved_out None) (at 0 0 ∷ at 2 0 ∷ [])
unfolding IsStrictlySortedBy
moved_updated =
    listed_so _ (at 0 0 ∷ at 2 0 ∷ []) (at 0 0 ∷ at 0 1 ∷ at 1 0 ∷ at 1 1 ∷ at 2 0 ∷ at 2 1 ∷ []) ((refl, tt), (tt, tt))
    (((is_there nested_written (at 0 0) refl, is_there moved_out_written (at 0 0) refl), inl window_differs), (((is_there nested_written (at 2 0) refl, is_there moved_out_written (at 2 0) refl), inr (inl root_moves)), tt))
    (λ y h. among nested_written y h.0.0)
    (inl (0, omega arith, refl), (inr (λ h. is_away moved_out_written (at 0 1) refl h.0.1), (inr (λ h. is_away moved_out_written (at 1 0) refl h.0.1), (inr (λ h. is_away moved_out_written (at 1 1) refl h.0.1), (inl (1, omega arith, refl), (inr button_stays, tt))))))

pub graft_moves_out_is_told : GraftMovesOut
graft_moves_out_is_told = (
  graft_that_moves_out_keeps_its_tree,
  Added (at 0 2) ∷ Updated (at 0 0) ∷ Updated (at 2 0) ∷ Removed (at 0 1) ∷ Removed (at 1 0) ∷ Removed (at 1 1) ∷ [],
  with_same_focus _ _ _ None refl refl moved_added moved_updated moved_removed,
  refl,
)

-- ---- a grafted tree comes

tree_added : IsAscendingListOf (IsAdded empty_graft pushed) (at 1 0 ∷ at 1 1 ∷ [])
unfolding IsStrictlySortedBy
tree_added =
    listed_so _ (at 1 0 ∷ at 1 1 ∷ []) (at 0 0 ∷ at 0 1 ∷ at 1 0 ∷ at 1 1 ∷ []) ((refl, tt), (tt, tt))
    ((is_there pushed_written (at 1 0) refl, is_away empty_graft_written (at 1 0) refl), ((is_there pushed_written (at 1 1) refl, is_away empty_graft_written (at 1 1) refl), tt))
    (λ y h. among pushed_written y h.0)
    (inr (λ h. h.1 (is_there empty_graft_written (at 0 0) refl)), (inr (λ h. h.1 (is_there empty_graft_written (at 0 1) refl)), (inl (0, omega arith, refl), (inl (1, omega arith, refl), tt))))

none_gone : IsAscendingListOf (IsAdded pushed empty_graft) []
unfolding IsStrictlySortedBy
none_gone =
    listed_so _ [] (at 0 0 ∷ at 0 1 ∷ []) tt tt (λ y h. among empty_graft_written y h.0)
    (inr (λ h. h.1 (is_there pushed_written (at 0 0) refl)), (inr (λ h. h.1 (is_there pushed_written (at 0 1) refl)), tt))

other_tree : (tree n : ℕ) → tree ≢ 1 → Some (at 1 0) ≢ Some (at tree n)
other_tree tree n other e = other (sym (ap tree_in e))

still_before : (id : FullNodeId) → data_of empty_graft id ≡ data_of pushed id → place_of empty_graft id ≡ place_of pushed id → Some (at 1 0) ≢ Some id → ¬ (IsUpdated empty_graft pushed (Some (at 1 0)) id)
still_before id = same_still empty_graft pushed (Some (at 1 0)) id

none_changed : IsAscendingListOf (IsUpdated empty_graft pushed (Some (at 1 0))) []
unfolding IsStrictlySortedBy
none_changed =
    listed_so _ [] (at 0 0 ∷ at 0 1 ∷ []) tt tt (λ y h. among empty_graft_written y h.0.0) (
      inr (still_before (at 0 0) (node_in empty_graft_written (at 0 0) ∙ sym (node_in pushed_written (at 0 0))) (place_read empty_graft_written (at 0 0) ∙ sym (place_read pushed_written (at 0 0))) (other_tree 0 0 (omega arith))),
      (inr (still_before (at 0 1) (node_in empty_graft_written (at 0 1) ∙ sym (node_in pushed_written (at 0 1))) (place_read empty_graft_written (at 0 1) ∙ sym (place_read pushed_written (at 0 1))) (other_tree 0 1 (omega arith))), tt),
    )

pub grafted_tree_comes : GraftedTreeComes
grafted_tree_comes = (
  grafted_tree_is_accepted,
  Added (at 1 0) ∷ Added (at 1 1) ∷ [],
  with_same_focus _ _ _ None refl refl tree_added none_changed none_gone,
  refl,
)

-- ---- its root gets a label

abbrev all_pushed : List FullNodeId
all_pushed = at 0 0 ∷ at 0 1 ∷ at 1 0 ∷ at 1 1 ∷ []

same_nodes : IsAscendingListOf (IsAdded pushed labelled) []
unfolding IsStrictlySortedBy
same_nodes =
    listed_so _ [] all_pushed tt tt (λ y h. among labelled_written y h.0)
    (inr (λ h. h.1 (is_there pushed_written (at 0 0) refl)), (inr (λ h. h.1 (is_there pushed_written (at 0 1) refl)), (inr (λ h. h.1 (is_there pushed_written (at 1 0) refl)), (inr (λ h. h.1 (is_there pushed_written (at 1 1) refl)), tt))))

nodes_stay : IsAscendingListOf (IsAdded labelled pushed) []
unfolding IsStrictlySortedBy
nodes_stay =
    listed_so _ [] all_pushed tt tt (λ y h. among pushed_written y h.0)
    (inr (λ h. h.1 (is_there labelled_written (at 0 0) refl)), (inr (λ h. h.1 (is_there labelled_written (at 0 1) refl)), (inr (λ h. h.1 (is_there labelled_written (at 1 0) refl)), (inr (λ h. h.1 (is_there labelled_written (at 1 1) refl)), tt))))

still_after : (id : FullNodeId) → find full_cmp id (document_nodes (document (1 ∷ [])) button) ≡ find full_cmp id (document_nodes labelled_document button) → ¬ (IsUpdated pushed labelled None id)
still_after id alike =
    same_still pushed labelled None id (node_in pushed_written id ∙ alike ∙ sym (node_in labelled_written id)) (place_read pushed_written id ∙ sym (place_read labelled_written id)) (nothing_there id)

label_differs : data_of pushed (at 1 0) ≢ data_of labelled (at 1 0)
label_differs =
    other_label _ _ None labelled_document.label (ap label_in (node_in pushed_written (at 1 0))) (ap label_in (node_in labelled_written (at 1 0))) (λ e. cc)

root_changes : IsAscendingListOf (IsUpdated pushed labelled None) (at 1 0 ∷ [])
unfolding IsStrictlySortedBy
root_changes =
    listed_so _ (at 1 0 ∷ []) all_pushed (tt, tt)
    (((is_there pushed_written (at 1 0) refl, is_there labelled_written (at 1 0) refl), inl label_differs), tt)
    (λ y h. among pushed_written y h.0.0)
    (inr (still_after (at 0 0) refl), (inr (still_after (at 0 1) refl), (inl (0, omega arith, refl), (inr (still_after (at 1 1) refl), tt))))

pub grafted_root_is_labelled : GraftedRootIsLabelled
grafted_root_is_labelled = (
  root_sent_again_keeps_its_place.0,
  Updated (at 1 0) ∷ [],
  with_same_focus _ _ _ None refl refl same_nodes root_changes nodes_stay,
  refl,
)

-- ---- the work of the graft that moves out

abbrev both_children : List FullNodeId
both_children = at 0 1 ∷ at 0 2 ∷ []

-- what a list with these members has at a place
member_of : (xs : List FullNodeId) → EachAt (λ _ c. Contains both_children c) 0 xs → (i : ℕ) (c : FullNodeId) → slice_get xs i ≡ Some c → Contains both_children c
member_of xs each i c at = each_at (λ _ d. Contains both_children d) 0 xs each i c at

listed_by : (w : World) (id : FullNodeId) (o : Option NodeData) → data_of w id ≡ o → listed_ids w id ≡ option_map_or (λ d. map (in_tree id.tree) d.children) o []
listed_by w id o e = ap (λ x. option_map_or (λ d. map (in_tree id.tree) d.children) x []) e

children_within : (w : World) (xs : List FullNodeId) (p : Place) (id parent : FullNodeId) → parent ≡ p.0 → listed_ids w parent ≡ xs → EachAt (λ _ c. Contains both_children c) 0 xs → Lists w p id → Contains both_children id
children_within w xs p id parent same is each at = member_of xs each p.1 id (subst (λ ys. slice_get ys p.1 ≡ Some id) is (subst (λ x. slice_get (listed_ids w x) p.1 ≡ Some id) (sym same) at))

of_parent : (p : Place) (id : FullNodeId) → (at 0 0 ≡ p.0) ⊎ (at 0 2 ≡ p.0) → Lists nested p id ⊎ Lists moved_out p id → Contains both_children id
of_parent p id (inl root) (inl before) = children_within nested (at 0 1 ∷ []) p id (at 0 0) root (listed_by nested (at 0 0) _ (node_in nested_written (at 0 0))) ((0, omega arith, refl), tt) before
of_parent p id (inl root) (inr after) = children_within moved_out (at 0 2 ∷ []) p id (at 0 0) root (listed_by moved_out (at 0 0) _ (node_in moved_out_written (at 0 0))) ((1, omega arith, refl), tt) after
of_parent p id (inr moved) (inl before) = children_within nested [] p id (at 0 2) moved (listed_by nested (at 0 2) _ (node_in nested_written (at 0 2))) tt before
of_parent p id (inr moved) (inr after) = children_within moved_out [] p id (at 0 2) moved (listed_by moved_out (at 0 2) _ (node_in moved_out_written (at 0 2))) tt after

named_parent : (x : FullNodeId) → Contains (at 0 0 ∷ at 0 2 ∷ []) x → (at 0 0 ≡ x) ⊎ (at 0 2 ≡ x)
named_parent x c = elim (contains_cases (at 0 0) x (at 0 2 ∷ []) c) [ inl e ↦ inl e | inr g ↦ elim (contains_cases (at 0 2) x [] g) [ inl e ↦ inr e | inr n ↦ absurd (contains_none x n) ] ]

old_child : Lists nested (at 0 0, 0) (at 0 1)
old_child = lists_at nested (at 0 0) (window (1 ∷ [])) 0 (at 0 1) (node_in nested_written (at 0 0)) refl

new_child : Lists moved_out (at 0 0, 0) (at 0 2)
new_child = lists_at moved_out (at 0 0) (window (2 ∷ [])) 0 (at 0 2) (node_in moved_out_written (at 0 0)) refl

children_of_named : IsAscendingListOf (IsChildOfNamed nested graft_moves_out moved_out) (at 0 1 ∷ at 0 2 ∷ [])
unfolding IsStrictlySortedBy
children_of_named = record {
  ascending = ((refl, tt), (tt, tt));
  members = λ id. (λ c. named_child id (contains_cases (at 0 1) id (at 0 2 ∷ []) c), λ h. of_parent h.0 id (named_parent h.0.0 h.1) h.2);
}
  where
    named_child : (id : FullNodeId) → (at 0 1 ≡ id) ⊎ Contains (at 0 2 ∷ []) id → IsChildOfNamed nested graft_moves_out moved_out id
    named_child id (inl e) = subst (IsChildOfNamed nested graft_moves_out moved_out) e ((at 0 0, 0), (0, omega arith, refl), inl old_child)
    named_child id (inr g) = elim (contains_cases (at 0 2) id [] g) [ inl e ↦ subst (IsChildOfNamed nested graft_moves_out moved_out) e ((at 0 0, 0), (0, omega arith, refl), inr new_child) | inr n ↦ absurd (contains_none id n) ]

window_depth : HasDepthInTree moved_out (at 0 0) 0
window_depth = at_root 0 (at 0 0) (ap (option_map (λ t. in_tree 0 t.root)) (tree_at moved_out_written 0))

pub graft_moves_out_work : GraftMovesOutWork
graft_moves_out_work = (
  record {
    children = at 0 1 ∷ at 0 2 ∷ [];
    removed = at 0 1 ∷ at 1 0 ∷ at 1 1 ∷ [];
    are_children = children_of_named;
    are_removed = moved_removed;
    count_named = refl;
    count_children = refl;
    count_removed = refl;
    sum_depths = (0, 1, window_depth, (1, 0, at_child (at 0 0, 0) (at 0 2) 0 window_depth new_child, refl, refl), refl);
    count_known = refl;
  },
  refl,
)
