-- The examples of what is told, worked out.
use Rattle.std.proofs.Common.{◌≡◌, ◌≢◌, ℕ, List, [], ◌∷◌, ◌++◌, arith, Option, Some, None, inl, inr, refl, sym, ap, subst, ◌∙◌, map}
use Rattle.std.specs.Prelude.{false, slice_get, option_map, ◌+◌, Contains, IsSome, T}
use Rattle.std.specs.FinMap.{get, find, is_sorted, get-from_sorted}
use Rattle.std.specs.Ordering.{nat_cmp}
use Rattle.std.specs.List.Sorted.{IsStrictlySortedBy}
use Rattle.schema.specs.NodeData.{NodeData}
use Rattle.schema.specs.declared.NodeId.{NodeId}
use Rattle.std.specs.Option.{option_map_or}
use Rattle.model.specs.declared.FullNodeId.{FullNodeId}
use Rattle.model.specs.FullIds.{full_cmp}
use Rattle.model.specs.World.{World, Place, data_of, IsNode, in_tree, listed_ids}
use Rattle.model.specs.Forest.{place_of}
use Rattle.model.specs.Focus.{first, IsEffectiveFocus, Resolves, IsFocus}
use Rattle.model.specs.State.{with_host}
use Rattle.model.specs.Run.{Accepted}
use Rattle.model.specs.Work.{HasDepthInTree, at_root, at_child}
use Rattle.model.specs.Differences.{PlanEvent, Added, Updated, FocusMoved, Removed, IsAscendingListOf, IsAdded, IsInBoth, IsUpdated, IsAloneIf, AreOfFocus, AreDifferences}
use Rattle.model.specs.Examples.{node, at, window, button, labelled_button}
use Rattle.model.specs.EventExamples.{root_tree, window_alone, window_with_button, window_with_buttons, ButtonGoes, FocusedButtonGoes, FocusGoesToButton, ButtonsChangePlaces, HostLosesFocus, label_button, window_with_label, LabelIsLittleWork, pictured_before, pictured_after, PicturedChange}
use Rattle.model.proofs.Differences.HostChanges.{none_ascend}
use Rattle.model.proofs.Examples.ToldTools.{leaf_work, listed_so, each_contained, first_of, children_in, other_children}
use Rattle.model.proofs.Worlds.Written.{data_written, node_written, place_is, place_written, AreNodes}
use Rattle.model.proofs.Members.{contains_first, contains_later, contains_none}

-- ---- root trees written out

module _ (focus : ℕ) (es : List (FullNodeId × NodeData)) (sorted : T (is_sorted full_cmp es)) where
  tree_at_root : get (root_tree focus es).trees 0 ≡ Some (record { root = node 0; focus = node focus })
  tree_at_root = get-from_sorted nat_cmp _ 0 tt

  data_here : (id : FullNodeId) → data_of (root_tree focus es) id ≡ find full_cmp id es
  data_here = data_written (root_tree focus es) es sorted refl

  is_node : (id : FullNodeId) (d : NodeData) → find full_cmp id es ≡ Some d → IsNode (root_tree focus es) id
  is_node id d e = subst IsSome (sym (data_here id ∙ e)) refl

  no_node : (id : FullNodeId) → find full_cmp id es ≡ None → ¬ (IsNode (root_tree focus es) id)
  no_node id e h = let f : IsSome {T = NodeData} None = subst IsSome (data_here id ∙ e) h in cc

  among_keys : (id : FullNodeId) → IsNode (root_tree focus es) id → Contains (map (λ e. e.0) es) id
  among_keys = node_written (root_tree focus es) es sorted refl

  effective : (d : NodeData) → find full_cmp (at 0 focus) es ≡ Some d → d.tree_id ≡ None → IsEffectiveFocus (root_tree focus es) (at 0 focus)
  effective d e bare = (first _ tree_at_root, d, data_here (at 0 focus) ∙ e, bare)

  resolves_not : (d : NodeData) (id : FullNodeId) → find full_cmp id es ≡ Some d → d.active_descendant ≡ None → (a : FullNodeId) → ¬ (Resolves (root_tree focus es) id a)
  resolves_not d id e none a h =
      let same : h.0 ≡ d = cc (h.1, data_here id, e) in
      cc (h.2, none, ap (λ x. x.active_descendant) same)

  has_focus : (d : NodeData) → find full_cmp (at 0 focus) es ≡ Some d → d.tree_id ≡ None → d.active_descendant ≡ None → IsFocus (root_tree focus es) (Some (at 0 focus))
  has_focus d e bare none = (refl, at 0 focus, effective d e bare, inr (refl, resolves_not d (at 0 focus) e none))

-- ---- the window, and the window with a button in it

abbrev alone : List (FullNodeId × NodeData)
alone = (at 0 0, window []) ∷ []

abbrev with_button : List (FullNodeId × NodeData)
with_button = (at 0 0, window (1 ∷ [])) ∷ (at 0 1, button) ∷ []

-- the window is told as updated, and the button as removed
module _ (f : ℕ) where
  abbrev old : World
  old = root_tree f with_button

  window_differs : data_of old (at 0 0) ≢ data_of window_alone (at 0 0)
  window_differs = other_children _ _ (node 1 ∷ []) [] (ap children_in (data_here f with_button tt (at 0 0))) (ap children_in (data_here 0 alone tt (at 0 0))) (λ e. cc)

  window_updates : IsAscendingListOf (IsUpdated old window_alone None) (at 0 0 ∷ [])
  unfolding IsStrictlySortedBy
  window_updates =
      listed_so _ (at 0 0 ∷ []) (at 0 0 ∷ []) (tt, tt)
      (((is_node f with_button tt (at 0 0) _ refl, is_node 0 alone tt (at 0 0) _ refl), inl window_differs), tt)
      (λ y h. among_keys 0 alone tt y h.0.1)
      (inl (contains_first (at 0 0) []), tt)

  button_removed : IsAscendingListOf (IsAdded window_alone old) (at 0 1 ∷ [])
  unfolding IsStrictlySortedBy
  button_removed =
      listed_so _ (at 0 1 ∷ []) (at 0 0 ∷ at 0 1 ∷ []) (tt, tt)
      ((is_node f with_button tt (at 0 1) _ refl, no_node 0 alone tt (at 0 1) refl), tt)
      (λ y h. among_keys f with_button tt y h.0)
      (inr (λ h. h.1 (is_node 0 alone tt (at 0 0) _ refl)), (inl (contains_first (at 0 1) []), tt))

  none_added : IsAscendingListOf (IsAdded old window_alone) []
  unfolding IsStrictlySortedBy
  none_added =
      listed_so _ [] (at 0 0 ∷ []) tt tt (λ y h. among_keys 0 alone tt y h.0)
      (inr (λ h. h.1 (is_node f with_button tt (at 0 0) _ refl)), tt)

  window_alone_focus : IsFocus window_alone (Some (at 0 0))
  window_alone_focus = has_focus 0 alone tt (window []) refl refl refl

  told_already : (P : Type 0) → ¬ (P × ¬ (Contains (at 0 0 ∷ []) (at 0 0)))
  told_already P h = h.1 (contains_first (at 0 0) [])

  with_focus : (part ds : List PlanEvent) → AreOfFocus old window_alone (at 0 0 ∷ []) part → ds ≡ map Added [] ++ map Updated (at 0 0 ∷ []) ++ part ++ map Removed (at 0 1 ∷ []) → AreDifferences old window_alone None ds
  with_focus part ds h all = record {
    added = [];
    updated = at 0 0 ∷ [];
    of_focus = part;
    removed = at 0 1 ∷ [];
    are_added = none_added;
    are_updated = window_updates;
    are_of_focus = h;
    are_removed = button_removed;
    all = all;
  }

pub button_goes : ButtonGoes
button_goes = with_focus 0 [] _ (Some (at 0 0), Some (at 0 0), has_focus 0 with_button tt (window (1 ∷ [])) refl refl refl, window_alone_focus 0, inl (refl, refl)) refl

abbrev number_of : Option FullNodeId → ℕ
number_of o = option_map_or (λ id. id.node.0) o 0

not_zero : (n : ℕ) → n ≡ 1 → n ≢ 0
not_zero n e f = omega arith

other_ids : Some (at 0 1) ≢ Some (at 0 0)
other_ids e = not_zero 1 refl (ap number_of e)

pub focused_button_goes : FocusedButtonGoes
focused_button_goes =
    with_focus 1 (FocusMoved (Some (at 0 1)) (Some (at 0 0)) ∷ []) _ (
      Some (at 0 1),
      Some (at 0 0),
      has_focus 1 with_button tt button refl refl refl,
      window_alone_focus 1,
      inr (other_ids, [], [], inr (λ h. no_node 0 alone tt (at 0 1) refl h.0.1, refl), inr (told_already 1 _, refl), refl),
    ) refl

-- ---- only the focus moves

module _ (f g : ℕ) (es : List (FullNodeId × NodeData)) (sorted : T (is_sorted full_cmp es)) where
  no_nodes_added : (id : FullNodeId) → ¬ (IsAdded (root_tree f es) (root_tree g es) id)
  no_nodes_added id h = h.1 (subst IsSome (data_here g es sorted id ∙ sym (data_here f es sorted id)) h.0)

  nothing_differs : AreNodes (root_tree f es) es → AreNodes (root_tree g es) es → (id : FullNodeId) → ¬ (IsUpdated (root_tree f es) (root_tree g es) None id)
  nothing_differs old new id h = elim (h.1) [
    | inl differs ↦ differs (data_here f es sorted id ∙ sym (data_here g es sorted id))
    | inr (inl moved) ↦ moved (place_is (root_tree f es) es sorted refl id old ∙ sym (place_is (root_tree g es) es sorted refl id new))
    | inr (inr told) ↦ cc
  ]

button_nodes : (f : ℕ) → AreNodes (root_tree f with_button) with_button
button_nodes f = ((data_here f with_button tt (at 0 0), refl), ((data_here f with_button tt (at 0 1), refl), tt))

told_alone : (id : FullNodeId) → IsNode (window_with_button 0) id → IsNode (window_with_button 1) id → IsAloneIf (IsInBoth (window_with_button 0) (window_with_button 1) id × ¬ (Contains [] id)) id (id ∷ [])
told_alone id was is = inl (((was, is), contains_none id), refl)

pub focus_goes_to_button : FocusGoesToButton
focus_goes_to_button = record {
  added = [];
  updated = [];
  of_focus = Updated (at 0 0) ∷ Updated (at 0 1) ∷ FocusMoved (Some (at 0 0)) (Some (at 0 1)) ∷ [];
  removed = [];
  are_added = none_ascend _ (no_nodes_added 0 1 with_button tt);
  are_updated = none_ascend _ (nothing_differs 0 1 with_button tt (button_nodes 0) (button_nodes 1));
  are_of_focus = (
    Some (at 0 0),
    Some (at 0 1),
    has_focus 0 with_button tt (window (1 ∷ [])) refl refl refl,
    has_focus 1 with_button tt button refl refl refl,
    inr (
      λ e. other_ids (sym e),
      at 0 0 ∷ [],
      at 0 1 ∷ [],
      told_alone (at 0 0) (is_node 0 with_button tt (at 0 0) _ refl) (is_node 1 with_button tt (at 0 0) _ refl),
      told_alone (at 0 1) (is_node 0 with_button tt (at 0 1) _ refl) (is_node 1 with_button tt (at 0 1) _ refl),
      refl,
    ),
  );
  are_removed = none_ascend _ (no_nodes_added 1 0 with_button tt);
  all = refl;
}

-- ---- two buttons change places

abbrev buttons : ℕ → ℕ → List (FullNodeId × NodeData)
buttons a b = (at 0 0, window (a ∷ b ∷ [])) ∷ (at 0 1, button) ∷ (at 0 2, button) ∷ []

buttons_nodes : (a b : ℕ) → AreNodes (window_with_buttons a b) (buttons a b)
buttons_nodes a b = ((data_here 0 (buttons a b) tt (at 0 0), refl), ((data_here 0 (buttons a b) tt (at 0 1), refl), ((data_here 0 (buttons a b) tt (at 0 2), refl), tt)))

place_here : (a b : ℕ) (id : FullNodeId) → place_of (window_with_buttons a b) id ≡ place_written id (buttons a b)
place_here a b id = place_is (window_with_buttons a b) (buttons a b) tt refl id (buttons_nodes a b)

other_place : (id : FullNodeId) (i j : ℕ) → i ≢ j → place_written id (buttons 1 2) ≡ Some (at 0 0, i) → place_written id (buttons 2 1) ≡ Some (at 0 0, j) → place_of (window_with_buttons 1 2) id ≢ place_of (window_with_buttons 2 1) id
other_place id i j n h g e =
    let same : Some (at 0 0, i) ≡ Some (at 0 0, j) = sym h ∙ sym (place_here 1 2 id) ∙ e ∙ place_here 2 1 id ∙ g in
    n (ap (λ (o : Option Place). option_map_or (λ (p : Place). p.1) o 0) same)

buttons_differ : data_of (window_with_buttons 1 2) (at 0 0) ≢ data_of (window_with_buttons 2 1) (at 0 0)
buttons_differ =
    other_children _ _ (node 1 ∷ node 2 ∷ []) (node 2 ∷ node 1 ∷ []) (ap children_in (data_here 0 (buttons 1 2) tt (at 0 0))) (ap children_in (data_here 0 (buttons 2 1) tt (at 0 0)))
    (λ e. let n : 1 ≡ 2 = ap (λ (xs : List NodeId). first_of xs) e in absurd (omega arith))

in_both : (id : FullNodeId) (d e : NodeData) → find full_cmp id (buttons 1 2) ≡ Some d → find full_cmp id (buttons 2 1) ≡ Some e → IsInBoth (window_with_buttons 1 2) (window_with_buttons 2 1) id
in_both id d e h g = (is_node 0 (buttons 1 2) tt id d h, is_node 0 (buttons 2 1) tt id e g)

changes : IsAscendingListOf (IsUpdated (window_with_buttons 1 2) (window_with_buttons 2 1) None) (at 0 0 ∷ at 0 1 ∷ at 0 2 ∷ [])
unfolding IsStrictlySortedBy
changes =
    listed_so _ (at 0 0 ∷ at 0 1 ∷ at 0 2 ∷ []) (at 0 0 ∷ at 0 1 ∷ at 0 2 ∷ []) ((refl, (refl, tt)), ((refl, tt), (tt, tt))) (
      (in_both (at 0 0) _ _ refl refl, inl buttons_differ),
      (
        (in_both (at 0 1) _ _ refl refl, inr (inl (other_place (at 0 1) 0 1 (λ e. absurd (omega arith)) refl refl))),
        ((in_both (at 0 2) _ _ refl refl, inr (inl (other_place (at 0 2) 1 0 (λ e. absurd (omega arith)) refl refl))), tt),
      ),
    )
    (λ y h. among_keys 0 (buttons 1 2) tt y h.0.0)
    (inl (contains_first _ (at 0 1 ∷ at 0 2 ∷ [])), (inl (contains_later (at 0 0) (at 0 1) (at 0 1 ∷ at 0 2 ∷ []) (contains_first (at 0 1) (at 0 2 ∷ []))), (inl (contains_later (at 0 0) (at 0 2) (at 0 1 ∷ at 0 2 ∷ []) (contains_later (at 0 1) (at 0 2) (at 0 2 ∷ []) (contains_first (at 0 2) []))), tt)))

no_button_added : (a b : ℕ) (id : FullNodeId) → ¬ (IsAdded (window_with_buttons a b) (window_with_buttons b a) id)
no_button_added a b id h =
    h.1 (each_contained (IsNode (window_with_buttons a b)) (at 0 0 ∷ at 0 1 ∷ at 0 2 ∷ [])
    (is_node 0 (buttons a b) tt (at 0 0) _ refl, (is_node 0 (buttons a b) tt (at 0 1) _ refl, (is_node 0 (buttons a b) tt (at 0 2) _ refl, tt))) id (among_keys 0 (buttons b a) tt id h.0))

pub buttons_change_places : ButtonsChangePlaces
buttons_change_places = record {
  added = [];
  updated = at 0 0 ∷ at 0 1 ∷ at 0 2 ∷ [];
  of_focus = [];
  removed = [];
  are_added = none_ascend _ (no_button_added 1 2);
  are_updated = changes;
  are_of_focus = (Some (at 0 0), Some (at 0 0), has_focus 0 (buttons 1 2) tt (window (1 ∷ 2 ∷ [])) refl refl refl, has_focus 0 (buttons 2 1) tt (window (2 ∷ 1 ∷ [])) refl refl refl, inl (refl, refl));
  are_removed = none_ascend _ (no_button_added 2 1);
  all = refl;
}

-- ---- the host loses its focus

some_not_none : {A : Type 0} (x : A) → Some x ≢ None
some_not_none x e = cc

pub host_loses_focus : HostLosesFocus
host_loses_focus =
    let both : IsInBoth (window_with_button 0) (with_host (window_with_button 0) false) (at 0 0) = (is_node 0 with_button tt (at 0 0) _ refl, is_node 0 with_button tt (at 0 0) _ refl) in
    let part : AreOfFocus (window_with_button 0) (with_host (window_with_button 0) false) [] (Updated (at 0 0) ∷ FocusMoved (Some (at 0 0)) None ∷ []) = (
      Some (at 0 0),
      None,
      has_focus 0 with_button tt (window (1 ∷ [])) refl refl refl,
      refl,
      inr (some_not_none (at 0 0), at 0 0 ∷ [], [], inl ((both, contains_none (at 0 0)), refl), refl, refl),
    ) in (
      _,
      _,
      [],
      Accepted,
      Accepted ∷ [],
      (refl, _, part, refl),
      (_, [], [], Accepted, [], (refl, [], (None, None, refl, refl, inl (refl, refl)), refl), (refl, refl, refl), refl, refl),
      refl,
      refl,
    )

-- ---- the work of a label

abbrev labelled : List (FullNodeId × NodeData)
labelled = (at 0 0, window (1 ∷ [])) ∷ (at 0 1, labelled_button) ∷ []

listed_here : (w : World) (id : FullNodeId) (d : NodeData) → data_of w id ≡ Some d → listed_ids w id ≡ map (in_tree id.tree) d.children
listed_here w id d e = ap (λ o. option_map_or (λ x. map (in_tree id.tree) x.children) o []) e

stays : (id : FullNodeId) → IsNode (window_with_button 0) id → IsNode window_with_label id
stays id h = each_contained (IsNode window_with_label) (at 0 0 ∷ at 0 1 ∷ []) (is_node 0 labelled tt (at 0 0) _ refl, (is_node 0 labelled tt (at 0 1) _ refl, tt)) id (among_keys 0 with_button tt id h)

button_depth : HasDepthInTree window_with_label (at 0 1) (0 + 1)
button_depth =
    at_child (at 0 0, 0) (at 0 1) 0 (at_root 0 (at 0 0) (ap (option_map (λ t. in_tree 0 t.root)) (tree_at_root 0 labelled tt)))
    (ap (λ (xs : List FullNodeId). slice_get xs 0) (listed_here window_with_label (at 0 0) _ (data_here 0 labelled tt (at 0 0))))

pub label_is_little_work : LabelIsLittleWork
label_is_little_work = (leaf_work (window_with_button 0) window_with_label label_button (at 0 1) button labelled_button refl (data_here 0 with_button tt (at 0 1)) (data_here 0 labelled tt (at 0 1)) refl refl stays button_depth, refl)

-- ---- the pictured change

abbrev first_nodes : List (FullNodeId × NodeData)
first_nodes = (at 0 0, window (1 ∷ 2 ∷ [])) ∷ (at 0 1, button) ∷ (at 0 2, button) ∷ []

abbrev last_nodes : List (FullNodeId × NodeData)
last_nodes = (at 0 0, window (2 ∷ 3 ∷ [])) ∷ (at 0 2, button) ∷ (at 0 3, button) ∷ []

was : (id : FullNodeId) (d : NodeData) → find full_cmp id first_nodes ≡ Some d → IsNode pictured_before id
was = is_node 1 first_nodes tt

was_not : (id : FullNodeId) → find full_cmp id first_nodes ≡ None → ¬ (IsNode pictured_before id)
was_not = no_node 1 first_nodes tt

is : (id : FullNodeId) (d : NodeData) → find full_cmp id last_nodes ≡ Some d → IsNode pictured_after id
is = is_node 2 last_nodes tt

is_not : (id : FullNodeId) → find full_cmp id last_nodes ≡ None → ¬ (IsNode pictured_after id)
is_not = no_node 2 last_nodes tt

nodes_before : AreNodes pictured_before first_nodes
nodes_before = ((data_here 1 first_nodes tt (at 0 0), refl), ((data_here 1 first_nodes tt (at 0 1), refl), ((data_here 1 first_nodes tt (at 0 2), refl), tt)))

nodes_after : AreNodes pictured_after last_nodes
nodes_after = ((data_here 2 last_nodes tt (at 0 0), refl), ((data_here 2 last_nodes tt (at 0 2), refl), ((data_here 2 last_nodes tt (at 0 3), refl), tt)))

place_changes : place_of pictured_before (at 0 2) ≢ place_of pictured_after (at 0 2)
place_changes e =
    let same : Some (at 0 0, 1) ≡ Some (at 0 0, 0) = sym (place_is pictured_before first_nodes tt refl (at 0 2) nodes_before) ∙ e ∙ place_is pictured_after last_nodes tt refl (at 0 2) nodes_after in
    not_zero 1 refl (ap (λ (o : Option Place). option_map_or (λ (p : Place). p.1) o 0) same)

window_changes : data_of pictured_before (at 0 0) ≢ data_of pictured_after (at 0 0)
window_changes =
    other_children _ _ (node 1 ∷ node 2 ∷ []) (node 2 ∷ node 3 ∷ []) (ap children_in (data_here 1 first_nodes tt (at 0 0))) (ap children_in (data_here 2 last_nodes tt (at 0 0)))
    (λ e. let n : 1 ≡ 2 = ap (λ (xs : List NodeId). first_of xs) e in absurd (omega arith))

pictured_added : IsAscendingListOf (IsAdded pictured_before pictured_after) (at 0 3 ∷ [])
unfolding IsStrictlySortedBy
pictured_added =
    listed_so _ (at 0 3 ∷ []) (at 0 0 ∷ at 0 2 ∷ at 0 3 ∷ []) (tt, tt) ((is (at 0 3) _ refl, was_not (at 0 3) refl), tt)
    (λ y h. among_keys 2 last_nodes tt y h.0)
    (inr (λ h. h.1 (was (at 0 0) _ refl)), (inr (λ h. h.1 (was (at 0 2) _ refl)), (inl (contains_first (at 0 3) []), tt)))

pictured_removed : IsAscendingListOf (IsAdded pictured_after pictured_before) (at 0 1 ∷ [])
unfolding IsStrictlySortedBy
pictured_removed =
    listed_so _ (at 0 1 ∷ []) (at 0 0 ∷ at 0 1 ∷ at 0 2 ∷ []) (tt, tt) ((was (at 0 1) _ refl, is_not (at 0 1) refl), tt)
    (λ y h. among_keys 1 first_nodes tt y h.0)
    (inr (λ h. h.1 (is (at 0 0) _ refl)), (inl (contains_first (at 0 1) []), (inr (λ h. h.1 (is (at 0 2) _ refl)), tt)))

pictured_updated : IsAscendingListOf (IsUpdated pictured_before pictured_after None) (at 0 0 ∷ at 0 2 ∷ [])
unfolding IsStrictlySortedBy
pictured_updated =
    listed_so _ (at 0 0 ∷ at 0 2 ∷ []) (at 0 0 ∷ at 0 1 ∷ at 0 2 ∷ []) ((refl, tt), (tt, tt))
    (((was (at 0 0) _ refl, is (at 0 0) _ refl), inl window_changes), (((was (at 0 2) _ refl, is (at 0 2) _ refl), inr (inl place_changes)), tt))
    (λ y h. among_keys 1 first_nodes tt y h.0.0)
    (inl (contains_first (at 0 0) (at 0 2 ∷ [])), (inr (λ h. is_not (at 0 1) refl h.0.1), (inl (contains_later (at 0 0) (at 0 2) (at 0 2 ∷ []) (contains_first (at 0 2) [])), tt)))

not_two : (n : ℕ) → n ≡ 1 → n ≢ 2
not_two n e f = omega arith

one_and_two : Some (at 0 1) ≢ Some (at 0 2)
one_and_two e = not_two 1 refl (ap number_of e)

pub pictured_change : PicturedChange
pictured_change = record {
  added = at 0 3 ∷ [];
  updated = at 0 0 ∷ at 0 2 ∷ [];
  of_focus = FocusMoved (Some (at 0 1)) (Some (at 0 2)) ∷ [];
  removed = at 0 1 ∷ [];
  are_added = pictured_added;
  are_updated = pictured_updated;
  are_of_focus = (
    Some (at 0 1),
    Some (at 0 2),
    has_focus 1 first_nodes tt button refl refl refl,
    has_focus 2 last_nodes tt button refl refl refl,
    inr (one_and_two, [], [], inr (λ h. is_not (at 0 1) refl h.0.1, refl), inr (λ h. h.1 (contains_later (at 0 0) (at 0 2) (at 0 2 ∷ []) (contains_first (at 0 2) [])), refl), refl),
  );
  are_removed = pictured_removed;
  all = refl;
}
