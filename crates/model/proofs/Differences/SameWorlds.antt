-- What is told where a world stays as it is.
use Rattle.std.proofs.Common.{◌≡◌, ◌≢◌, ℕ, List, [], ◌∷◌, ◌++◌, map, Option, Some, None, inl, inr, refl, sym, subst}
use Rattle.std.specs.Prelude.{Contains}
use Rattle.std.specs.List.Sorted.{IsStrictlySortedBy}
use Rattle.std.proofs.lemmas.Bool.{ne_eqb}
use Rattle.model.specs.declared.FullNodeId.{FullNodeId}
use Rattle.model.specs.World.{World, IsNode, in_tree}
use Rattle.model.specs.Update.{InfoData}
use Rattle.model.specs.Focus.{IsFocus}
use Rattle.model.specs.Differences.{Added, Updated, Removed, IsAscendingListOf, IsAdded, IsUpdated, AreDifferences, told_root}
use Rattle.model.proofs.Differences.HostChanges.{none_ascend}
use Rattle.model.proofs.Members.{contains_cases, contains_first, contains_none}
use Rattle.model.proofs.Decisions.{same_inside}

-- where the focus stays, what is told is what is added, updated and removed
pub with_same_focus : (old new : World) (root focus : Option FullNodeId) → IsFocus old focus → IsFocus new focus → {added updated removed : List FullNodeId}
    → IsAscendingListOf (IsAdded old new) added → IsAscendingListOf (IsUpdated old new root) updated → IsAscendingListOf (IsAdded new old) removed
    → AreDifferences old new root (map Added added ++ map Updated updated ++ [] ++ map Removed removed)
with_same_focus old new root focus before after {added} {updated} {removed} are_added are_updated are_removed = record {
  added = added;
  updated = updated;
  of_focus = [];
  removed = removed;
  are_added = are_added;
  are_updated = are_updated;
  are_of_focus = (focus, focus, before, after, inl (refl, refl));
  are_removed = are_removed;
  all = refl;
}

module _ (w : World) where
  no_new : (id : FullNodeId) → ¬ (IsAdded w w id)
  no_new id h = h.1 h.0

  root_alone : (root : Option FullNodeId) (id : FullNodeId) → IsUpdated w w root id → root ≡ Some id
  root_alone root id h = elim (h.1) [ inl differs ↦ absurd (differs refl) | inr (inl moved) ↦ absurd (moved refl) | inr (inr told) ↦ told ]

  none_updated : (id : FullNodeId) → ¬ (IsUpdated w w None id)
  none_updated id h = let e : None ≡ Some id = root_alone None id h in cc

  one_updated : (id : FullNodeId) → IsNode w id → IsAscendingListOf (IsUpdated w w (Some id)) (id ∷ [])
  unfolding IsStrictlySortedBy
  one_updated id is = record {
    ascending = (tt, tt);
    members = λ y. (
      λ c. elim (contains_cases id y [] c) [ inl e ↦ subst (IsUpdated w w (Some id)) e ((is, is), inr (inr refl)) | inr g ↦ absurd (contains_none y g) ],
      λ u. subst (Contains (id ∷ [])) (same_inside id y (root_alone (Some id) y u)) (contains_first id []),
    );
  }

  pub nothing_told : (focus : Option FullNodeId) → IsFocus w focus → AreDifferences w w None []
  nothing_told focus h = with_same_focus w w None focus h h (none_ascend _ no_new) (none_ascend _ none_updated) (none_ascend _ no_new)

  pub root_told : (focus : Option FullNodeId) (id : FullNodeId) → IsFocus w focus → IsNode w id → AreDifferences w w (Some id) (Updated id ∷ [])
  root_told focus id h is = with_same_focus w w (Some id) focus h h (none_ascend _ no_new) (one_updated id is) (none_ascend _ no_new)

no_root_told : (info : Option InfoData) → told_root 0 info ≡ None
no_root_told None = refl
no_root_told (Some info) = refl

pub nothing_to_tell : (focus : Option FullNodeId) (w : World) → IsFocus w focus → ((info : Option InfoData) → AreDifferences w w (told_root 0 info) []) × ((index : ℕ) → AreDifferences w w (told_root index None) [])
nothing_to_tell focus w h = (λ info. subst (λ r. AreDifferences w w r []) (sym (no_root_told info)) (nothing_told w focus h), λ index. nothing_told w focus h)

told_other : (index : ℕ) (info : InfoData) → index ≢ 0 → told_root index (Some info) ≡ Some (in_tree index info.root)
told_other index info not = rw (ne_eqb index 0 not) refl

pub root_to_tell : (focus : Option FullNodeId) (w : World) (index : ℕ) (info : InfoData) → IsFocus w focus → index ≢ 0 → IsNode w (in_tree index info.root) → AreDifferences w w (told_root index (Some info)) (Updated (in_tree index info.root) ∷ [])
root_to_tell focus w index info h not is = subst (λ r. AreDifferences w w r (Updated (in_tree index info.root) ∷ [])) (sym (told_other index info not)) (root_told w focus (in_tree index info.root) h is)
