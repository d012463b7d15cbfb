-- A change of the host's focus is told by the focus alone.
use Rattle.std.proofs.Common.{◌≡◌, Bool, List, [], ◌∷◌, ◌++◌, None, inl, inr, refl, sym, subst, ◌∙◌, ap, map}
use Rattle.std.specs.Prelude.{position, option_map}
use Rattle.std.specs.Option.{option_or}
use Rattle.std.specs.FinMap.{keys}
use Rattle.std.specs.List.Sorted.{IsStrictlySortedBy}
use Rattle.std.proofs.lemmas.List.{append-nil}
use Rattle.model.specs.declared.FullNodeId.{FullNodeId}
use Rattle.model.specs.World.{World, children}
use Rattle.model.specs.Forest.{place_of, place_among, is_same}
use Rattle.model.specs.Differences.{PlanEvent, Added, Updated, Removed, IsAscendingListOf, IsAdded, IsUpdated, AreOfFocus, AreDifferences}
use Rattle.model.specs.State.{with_host}
use Rattle.model.proofs.Ascending.{ascending_list_unique}
use Rattle.model.proofs.Members.{contains_none}

pub none_ascend : (P : FullNodeId → Type 0) → ((id : FullNodeId) → ¬ (P id)) → IsAscendingListOf P []
unfolding IsStrictlySortedBy
none_ascend P not = record { ascending = tt; members = λ id. (λ c. absurd (contains_none id c), λ p. absurd (not id p)) }

module _ (w : World) (focused : Bool) where
  place_among_host : (id : FullNodeId) (parents : List FullNodeId) → place_among w id parents ≡ place_among (with_host w focused) id parents
  place_among_host id [] = refl
  place_among_host id (p ∷ parents) = ap (λ o. option_or (option_map (λ i. (p, i)) (position (is_same id) (children w p))) o) (place_among_host id parents)

  place_of_host : (id : FullNodeId) → place_of w id ≡ place_of (with_host w focused) id
  unfolding place_of
  place_of_host id = place_among_host id (keys w.nodes)

  none_updated : (id : FullNodeId) → ¬ (IsUpdated w (with_host w focused) None id)
  none_updated id h = elim h.1 [ inl differs ↦ differs refl | inr (inl moved) ↦ moved (place_of_host id) | inr (inr told) ↦ cc ]

  none_added : (id : FullNodeId) → ¬ (IsAdded w (with_host w focused) id)
  none_added id h = h.1 h.0

  none_removed : (id : FullNodeId) → ¬ (IsAdded (with_host w focused) w id)
  none_removed id h = h.1 h.0

  pub differences_of_host : (ds : List PlanEvent) → AreOfFocus w (with_host w focused) [] ds → AreDifferences w (with_host w focused) None ds
  differences_of_host ds h = record {
    added = [];
    updated = [];
    of_focus = ds;
    removed = [];
    are_added = none_ascend _ none_added;
    are_updated = none_ascend _ none_updated;
    are_of_focus = h;
    are_removed = none_ascend _ none_removed;
    all = sym (append-nil ds);
  }

  pub host_differences : (ds : List PlanEvent) → AreDifferences w (with_host w focused) None ds → AreOfFocus w (with_host w focused) [] ds
  host_differences ds h =
      let added : h.added ≡ [] = ascending_list_unique _ h.added [] h.are_added (none_ascend _ none_added) in
      let updated : h.updated ≡ [] = ascending_list_unique _ h.updated [] h.are_updated (none_ascend _ none_updated) in
      let removed : h.removed ≡ [] = ascending_list_unique _ h.removed [] h.are_removed (none_ascend _ none_removed) in
      let all : ds ≡ h.of_focus ++ [] = h.all ∙ (ap (λ a. map Added a ++ map Updated h.updated ++ h.of_focus ++ map Removed h.removed) added
      ∙ ap (λ u. map Updated u ++ h.of_focus ++ map Removed h.removed) updated ∙ ap (λ r. h.of_focus ++ map Removed r) removed) in
      subst (λ xs. AreOfFocus w (with_host w focused) [] xs) (sym (all ∙ append-nil h.of_focus)) (subst (λ u. AreOfFocus w (with_host w focused) u h.of_focus) updated h.are_of_focus)
