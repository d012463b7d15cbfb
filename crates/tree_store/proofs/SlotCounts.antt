-- A world has no more nodes than there are slots for them.
use Rattle.std.proofs.Common.{◌≡◌, ℕ, zero, suc, ◌+◌, ◌-◌, ◌≤◌, List, [], ◌∷◌, length, Bool, true, false, cond, Option, Some, None, not, true≢false, subst, refl, sym, ap, ◌∙◌, arith}
use Rattle.std.specs.Prelude.{◌||◌, ◌&&◌, is_some, if◌then◌else◌}
use Rattle.std.specs.List.{IsDistinct, AllByRecursion, list_any}
use Rattle.std.specs.FinMap.{FinMap, keys, len, entries, entries_sorted, len-entries, contains_key, contains_key-keys}
use Rattle.std.specs.FinSet as set
use Rattle.std.proofs.lemmas.List.{length-map}
use Rattle.schema.specs.NodeData.{NodeData}
use Rattle.schema.specs.declared.NodeId.{NodeId}
use Rattle.model.specs.declared.FullNodeId.{FullNodeId}
use Rattle.model.specs.FullIds.{full_cmp, full_total}
use Rattle.model.specs.World.{data_of}
use Rattle.model.specs.Update.{UpdateData}
use Rattle.model.specs.Forest.{is_same}
use Rattle.model.proofs.Forest.PlaceOf.{same_from_test, test_self}
use Rattle.model.proofs.Lists.PreorderCount.{keys_distinct}
use Rattle.tree_changes.specs.declared.decision.NodeChange.{NodeChange}
use Rattle.tree_changes.specs.declared.decision.Decision.{Decision}
use Rattle.tree_changes.specs.Changes.{change_at, overlaid_world}
use Rattle.tree_store.specs.Cells.{Record}
use Rattle.tree_store.specs.StoreViews.{StoreView}
use Rattle.tree_store.specs.Commits.{HasSlots}
use Rattle.tree_store.specs.Cells.{SlotsView, slot_in, slot_at, record_in}
use Rattle.tree_store.specs.Stored.{ids_in, nodes_shown, slots_shown}
use Rattle.tree_store.proofs.Maps.{get-nodes_shown, contains-slots_shown, node_in}
use Rattle.tree_changes.proofs.Overlays.{effect}
use Rattle.tree_store.proofs.Laid.{data_laid}

pub apart_back : (a b : FullNodeId) → is_same a b ≡ false → is_same b a ≡ false
apart_back a b e = go (is_same b a) refl
  where
    go : (t : Bool) → is_same b a ≡ t → is_same b a ≡ false
    go true h = absurd (true≢false (sym (ap (is_same a) (same_from_test b a h) ∙ test_self a) ∙ e))
    go false h = h

left_in : (s : set.FinSet full_cmp) (k : FullNodeId) (ks : List FullNodeId) → AllByRecursion (λ y. is_same k y ≡ false) ks → AllByRecursion (λ y. set.contains s y ≡ true) ks
    → AllByRecursion (λ y. set.contains (set.remove s k) y ≡ true) ks
left_in s k [] apart all = tt
left_in s k (y ∷ ks) apart all = (set.contains-remove full_total s k y ∙ ap (λ b. not b && set.contains s y) (apart_back k y apart.0) ∙ all.0, left_in s k ks apart.1 all.1)

-- distinct members are no more than the set has
members_fit : (ks : List FullNodeId) (s : set.FinSet full_cmp) → IsDistinct is_same ks → AllByRecursion (λ y. set.contains s y ≡ true) ks → length ks ≤ set.len s
unfolding IsDistinct
members_fit [] s distinct all = omega arith
members_fit (k ∷ ks) s distinct all =
    go (set.len s) refl (subst (λ n. length ks ≤ n) (set.len-remove full_total s k ∙ ap (λ b. cond b (set.len s - 1) (set.len s)) all.0) (members_fit ks (set.remove s k) distinct.1 (left_in s k ks distinct.0 all.1)))
  where
    go : (n : ℕ) → set.len s ≡ n → length ks ≤ set.len s - 1 → suc (length ks) ≤ set.len s
    go zero e fewer = absurd (true≢false (sym all.0 ∙ ap (λ t. set.contains t k) (set.empty_of_len s e) ∙ set.contains-empty full_cmp k))
    go (suc n) e fewer = omega (arith, fewer, e)

or_later : (a b : Bool) → b ≡ true → (a || b) ≡ true
or_later true b e = refl
or_later false b e = e

each_member : (P : FullNodeId → Type 0) (ks : List FullNodeId) → ((q : FullNodeId) → list_any (is_same q) ks ≡ true → P q) → AllByRecursion P ks
each_member P [] f = tt
each_member P (k ∷ ks) f = (f k (ap (λ b. b || list_any (is_same k) ks) (test_self k)), each_member P ks (λ q h. f q (or_later (is_same q k) (list_any (is_same q) ks) h)))

-- where each key has a slot, the keys are no more than the slots
nodes_within : (m : FinMap full_cmp NodeData) (s : set.FinSet full_cmp) → ((q : FullNodeId) → contains_key m q ≡ true → set.contains s q ≡ true) → len m ≤ set.len s
nodes_within m s within =
    let few : length (keys m) ≤ set.len s = members_fit (keys m) s (keys_distinct (entries m) (entries_sorted m)) (each_member (λ q. set.contains s q ≡ true) (keys m) (λ q h. within q (contains_key-keys m q ∙ h))) in
    omega (arith, few, length-map (entries m) (λ (e : FullNodeId × NodeData). e.0), len-entries m)

one_more : (b : Bool) (n k : ℕ) → n ≤ k → cond b n (n + 1) ≤ 1 + k
one_more true n k h = omega (arith, h)
one_more false n k h = omega (arith, h)

one_fewer : (b : Bool) (n k : ℕ) → n ≤ k → cond b (n - 1) n ≤ 1 + k
one_fewer true n k h = omega (arith, h)
one_fewer false n k h = omega (arith, h)

ids_fit : (es : List (FullNodeId × ℕ)) (see : ℕ → Option (Option Record)) → set.len (ids_in es see) ≤ length es
ids_fit [] see = omega (arith, set.len-empty full_cmp)
ids_fit (e ∷ es) see = go (is_some (see e.1)) (ids_fit es see)
  where
    go : (b : Bool) → set.len (ids_in es see) ≤ length es → set.len (if b then set.insert (ids_in es see) e.0 else set.remove (ids_in es see) e.0) ≤ suc (length es)
    go true rest = omega (arith, set.len-insert full_total (ids_in es see) e.0, one_more (set.contains (ids_in es see) e.0) (set.len (ids_in es see)) (length es) rest)
    go false rest = omega (arith, set.len-remove full_total (ids_in es see) e.0, one_fewer (set.contains (ids_in es see) e.0) (set.len (ids_in es see)) (length es) rest)

pub slots_fit : (s : SlotsView) → set.len (slots_shown s) ≤ length s.numbers
slots_fit s = ids_fit s.numbers (slot_in s)

filled_some : (o : Option (Option Record)) → is_some (node_in (record_in o)) ≡ true → is_some o ≡ true
filled_some None h = h
filled_some (Some r) h = refl

pub nodes_fit : (es : SlotsView) → len (nodes_shown es) ≤ length es.numbers
nodes_fit es =
    omega (arith, slots_fit es, nodes_within (nodes_shown es) (slots_shown es) (λ q h. contains-slots_shown es q ∙ filled_some (slot_at es q) (sym (ap is_some (get-nodes_shown es q)) ∙ h)))

-- a node after the changes was there before, or is a changed one
after_or : (nodes : List (NodeId × NodeData)) (o : Option NodeChange) (before : Option NodeData) → is_some (effect nodes o before) ≡ true → (is_some before || is_some o) ≡ true
after_or nodes None None h = h
after_or nodes None (Some d) h = refl
after_or nodes (Some c) None h = refl
after_or nodes (Some c) (Some d) h = refl

-- so where each node and each changed one has a slot, the nodes after the changes are no more than the slots
pub laid_fit : (k : StoreView) (u : UpdateData) (d : Decision) → HasSlots k d → len (overlaid_world k.world u d).nodes ≤ set.len k.slots
laid_fit k u d slots =
    nodes_within (overlaid_world k.world u d).nodes k.slots
    (λ q h. slots q ∙ after_or u.nodes (change_at d.nodes.items q) (data_of k.world q) (sym (ap is_some (data_laid k.world u d q)) ∙ h))
