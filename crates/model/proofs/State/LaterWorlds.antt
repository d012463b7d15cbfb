-- Every world after the first accepted update is a state, and a name keeps its index.
use Rattle.std.proofs.Common.{unwrap_or, length, ◌≡◌, ℕ, Bool, true, false, cond, List, [], ◌∷◌, ◌++◌, suc, position, Option, Some, None, option_map, ◌⊎◌, inl, inr, refl, sym, ap, ◌∙◌, subst}
use Rattle.schema.specs.declared.TreeId.{TreeId}
use Rattle.model.specs.World.{World, index_of}
use Rattle.model.specs.Update.{UpdateData, IsAccepted, index_for, merged_world}
use Rattle.model.specs.State.{empty_world, with_host, IsState, IsLater, now, updated, told}
use Rattle.model.proofs.Worlds.Names.{is_name, position-cons}
use Rattle.model.proofs.Update.Merges.{known_stays, known_grows}
use Rattle.model.proofs.Update.UpdateLeavesState.{update_leaves_state, first_leaves_state}
use Rattle.model.proofs.State.HostFocus.{host_leaves_state}

pub later_is_state : (w v : World) → IsState w → IsLater w v → IsState v
later_is_state w v s now = s
later_is_state w v s (updated before after u later accepted) = update_leaves_state before u v (later_is_state w before s later) accepted
later_is_state w v s (told before host later) = host_leaves_state before host (later_is_state w before s later)

-- from the empty world on, a world is still empty or a state
pub empty_or_state : (host : Bool) (v : World) → IsLater (empty_world host) v → (v ≡ empty_world v.host_focused) ⊎ IsState v
empty_or_state host v now = inl refl
empty_or_state host v (updated before after u later accepted) = go (empty_or_state host before later)
  where
    go : (before ≡ empty_world before.host_focused) ⊎ IsState before → (v ≡ empty_world v.host_focused) ⊎ IsState v
    go (inl e) = inr (first_leaves_state before.host_focused u v (subst (λ x. IsAccepted x u v) e accepted))
    go (inr s) = inr (update_leaves_state before u v s accepted)
empty_or_state host v (told before flag later) = go (empty_or_state host before later)
  where
    go : (before ≡ empty_world before.host_focused) ⊎ IsState before → (with_host before flag ≡ empty_world flag) ⊎ IsState (with_host before flag)
    go (inl e) = inl (ap (λ x. with_host x flag) e)
    go (inr s) = inr (host_leaves_state before flag s)

position_front : {X : Type 0} (p : X → Bool) (xs ys : List X) (i : ℕ) → position p xs ≡ Some i → position p (xs ++ ys) ≡ Some i
position_front p [] ys i e = cc
position_front p (x ∷ xs) ys i e = position-cons p x (xs ++ ys) ∙ go (p x) (position p xs) i (λ j. position_front p xs ys j) (sym (position-cons p x xs) ∙ e)
  where
    go : (b : Bool) (o : Option ℕ) (i : ℕ) → ((j : ℕ) → o ≡ Some j → position p (xs ++ ys) ≡ Some j) → cond b (Some 0) (option_map suc o) ≡ Some i → cond b (Some 0) (option_map suc (position p (xs ++ ys))) ≡ Some i
    go true o i below e = e
    go false None i below e = cc
    go false (Some j) i below e = ap (option_map suc) (below j refl) ∙ e

index_after : (old : World) (u : UpdateData) (name : TreeId) (i : ℕ) → index_of old name ≡ Some i → index_of (merged_world old u) name ≡ Some i
index_after old u name i is = go (index_of old u.name) refl
  where
    go : (o : Option ℕ) → index_of old u.name ≡ o → index_of (merged_world old u) name ≡ Some i
    go None e = ap (position (is_name name)) (known_grows old u e) ∙ position_front (is_name name) old.known (u.name ∷ []) i is
    go (Some j) e = ap (position (is_name name)) (known_stays old u j e) ∙ is

pub index_stays : (w v : World) (name : TreeId) (i : ℕ) → IsLater w v → index_of w name ≡ Some i → index_of v name ≡ Some i
index_stays w v name i now is = is
index_stays w v name i (updated before after u later accepted) is = ap (position (is_name name)) (accepted.1.known) ∙ index_after before u name i (index_stays w before name i later is)
index_stays w v name i (told before host later) is = index_stays w before name i later is

pub name_keeps_index : (w v : World) (name : TreeId) (i : ℕ) → IsLater w v → index_of w name ≡ Some i → (index_of v name ≡ Some i) × (index_for v name ≡ i)
name_keeps_index w v name i later is = let e = index_stays w v name i later is in (e, ap (λ o. unwrap_or o (length v.known)) e)
