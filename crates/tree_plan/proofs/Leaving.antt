-- What left a list of children, and what has only shifted in it.
use Rattle.std.proofs.Common.{◌≡◌, ◌≢◌, ◌⊎◌, ⊎_elim, ℕ, ◌+◌, ◌<◌, ◌≤◌, List, [], ◌∷◌, ◌++◌, map, slice_get, option_map, option_to_list, Contains, Bool, true, false, Option, Some, None, inl, inr, refl, sym, ap, subst, ◌∙◌, arith}
use Rattle.std.proofs.lemmas.Bool.{cases_lt}
use Rattle.std.proofs.lemmas.List.{map-append}
use Rattle.std.proofs.lemmas.List.Elements.{Contains-append_left, Contains-append_right, Contains-append_cases}
use Rattle.std.proofs.lemmas.Option.{same_Some, slice_get-map}
use Rattle.schema.specs.declared.NodeId.{NodeId}
use Rattle.model.specs.declared.FullNodeId.{FullNodeId}
use Rattle.model.specs.World.{in_tree}
use Rattle.model.specs.Surgery.{Seat}
use Rattle.model.proofs.Members.{contains_none, contains_first, contains_cases}
use Rattle.model.proofs.State.StatePlaces.{map_some}
use Rattle.tree_plan.specs.declared.passes.Arrival.{Arrival}
use Rattle.tree_plan.specs.declared.passes.Comparing.{Comparing}
use Rattle.tree_plan.specs.declared.comparing.Lists.{Lists}
use Rattle.tree_plan.specs.Comparisons.{Spots, Arrivals, arrival_at, spot_entry, spots_of, IsShiftedIn, OnlyPlain, Gathers, OnlyAt, Leaves, ComparesChild, ids_before, ids_after}
use Rattle.tree_plan.proofs.Gathering.{gathers_none, gathers_one}
use Rattle.tree_plan.proofs.IdMaps.{contains_at, at_contains}

-- ---- one more element

pushed_cases : {X : Type 0} (xs : List X) (x y : X) → Contains (xs ++ x ∷ []) y → Contains xs y ⊎ (x ≡ y)
pushed_cases xs x y h = ⊎_elim inl (λ later. ⊎_elim inr (λ none. absurd (contains_none y none)) (contains_cases x y [] later)) (Contains-append_cases xs (x ∷ []) y h)

pushed_last : {X : Type 0} (xs : List X) (x : X) → Contains (xs ++ x ∷ []) x
pushed_last xs x = Contains-append_right xs (x ∷ []) x (contains_first x [])

abbrev entry : Seat → FullNodeId → FullNodeId × Seat
entry s id = (id, s)

-- a node at a spot, if there is one
placed_has : (xs : Spots) (s : Seat) (o : Option FullNodeId) (c : FullNodeId) → o ≡ Some c → Contains (xs ++ option_to_list (option_map (entry s) o)) (c, s)
placed_has xs s (Some d) c is = subst (λ (x : FullNodeId). Contains (xs ++ (d, s) ∷ []) (entry s x)) (same_Some d c is) (pushed_last xs (entry s d))
placed_has xs s None c is = cc

placed_cases : (xs : Spots) (s : Seat) (o : Option FullNodeId) (c : FullNodeId) (t : Seat) → Contains (xs ++ option_to_list (option_map (entry s) o)) (c, t) → Contains xs (c, t) ⊎ ((t ≡ s) × (o ≡ Some c))
placed_cases xs s None c t h = ⊎_elim inl (λ none. absurd (contains_none (entry t c) none)) (Contains-append_cases xs [] (entry t c) h)
placed_cases xs s (Some d) c t h = ⊎_elim inl
    (λ same. inr (sym (ap (λ (x : FullNodeId × Seat). x.1) same), ap (λ (x : FullNodeId × Seat). Some x.0) same))
    (pushed_cases xs (entry s d) (entry t c) h)

-- ---- the spots of what entered

pub spots_pushed : (es : Arrivals) (id : FullNodeId) (s : Seat) (b : Bool) → spots_of (es ++ (id, arrival_at s b) ∷ []) ≡ spots_of es ++ (id, s) ∷ []
spots_pushed es id s b = map-append spot_entry es ((id, arrival_at s b) ∷ [])

pub in_spots : (es : Arrivals) (id : FullNodeId) (x : Arrival) → Contains es (id, x) → Contains (spots_of es) (id, x.spot)
in_spots es id x h =
    let f = at_contains es (id, x) h in
    contains_at (spots_of es) f.0 (entry x.spot id) (slice_get-map spot_entry es f.0 ∙ ap (option_map spot_entry) f.1)

pub of_spot : (es : Arrivals) (id : FullNodeId) (s : Seat) → Contains (spots_of es) (id, s) → (x : Arrival) × Contains es (id, x) × (x.spot ≡ s)
of_spot es id s h =
    let f = at_contains (spots_of es) (entry s id) h in
    let e = map_some spot_entry (slice_get es f.0) (entry s id) (sym (slice_get-map spot_entry es f.0) ∙ f.1) in
    let key : e.0.0 ≡ id = ap (λ (x : FullNodeId × Seat). x.0) e.2 in
    let pair : FullNodeId → FullNodeId × Arrival = λ k. (k, e.0.1) in
    (e.0.1, subst (λ (k : FullNodeId). Contains es (pair k)) key (contains_at es f.0 e.0 e.1), ap (λ (x : FullNodeId × Seat). x.1) e.2)

pub plain_pushed : (es fs : Arrivals) (id : FullNodeId) (s : Seat) → fs ≡ es ++ (id, arrival_at s false) ∷ [] → OnlyPlain es fs
plain_pushed es fs id s is c x h shifted = ⊎_elim (λ before. before)
    (λ same. let plain : false ≡ true = ap (λ (e : FullNodeId × Arrival). e.1.is_shifted) same ∙ shifted in absurd cc)
    (pushed_cases es (id, arrival_at s false) (c, x) (subst (λ (xs : Arrivals). Contains xs (c, x)) is h))

-- ---- the lists of one parent

module _ (parent : FullNodeId) (old new : List FullNodeId) where
  pub leaves_none : (from to : ℕ) (ls : Spots) (es : Arrivals) → to ≤ from → Leaves parent old new from to ls ls es es
  leaves_none from to ls es empty = record {
    each = λ k c low high is other. absurd (omega (arith, empty, low, high));
    only = λ c s h. inl h;
    kept = λ c s h. h;
    shifted = λ c x h t. inl h;
    stays = λ c x h. h;
  }

  module _ (from mid to : ℕ) (ls ms ns : Spots) (es fs gs : Arrivals) (f : Leaves parent old new from mid ls ms es fs) (g : Leaves parent old new mid to ms ns fs gs) where
    earlier : (k : ℕ) (c : FullNodeId) → Contains ms (c, Some (parent, k)) ⊎ IsShiftedIn fs c → Contains ns (c, Some (parent, k)) ⊎ IsShiftedIn gs c
    earlier k c (inl h) = inl (g.kept c (Some (parent, k)) h)
    earlier k c (inr h) = inr (h.0, g.stays c h.0 h.1, h.2)

    pub leaves_both : Leaves parent old new from to ls ns es gs
    leaves_both = record {
      each = λ k c low high is other. ⊎_elim
          (λ less. earlier k c (f.each k c low less is other))
          (λ more. g.each k c more high is other)
          (cases_lt k mid);
      only = λ c s h. ⊎_elim (f.only c s) inr (g.only c s h);
      kept = λ c s h. g.kept c s (f.kept c s h);
      shifted = λ c x h t. ⊎_elim (λ before. f.shifted c x before t) inr (g.shifted c x h t);
      stays = λ c x h. g.stays c x (f.stays c x h);
    }

  -- up to another index, where there is nothing between
  pub leaves_upto : (from to end : ℕ) (ls ms : Spots) (es fs : Arrivals) → ((k : ℕ) → from ≤ k → k < end → k < to) → Leaves parent old new from to ls ms es fs → Leaves parent old new from end ls ms es fs
  leaves_upto from to end ls ms es fs within f = record {
    each = λ k c low high is other. f.each k c low (within k low high) is other;
    only = f.only;
    kept = f.kept;
    shifted = f.shifted;
    stays = f.stays;
  }

  -- the same is at the index of both
  pub leaves_same : (k : ℕ) (ls : Spots) (es : Arrivals) → slice_get old k ≡ slice_get new k → Leaves parent old new k (k + 1) ls ls es es
  leaves_same k ls es same = record {
    each = λ j c low high is other. let here : j ≡ k = omega (arith, low, high) in absurd (other (ap (slice_get new) here ∙ sym same ∙ ap (slice_get old) (sym here) ∙ is));
    only = λ c s h. inl h;
    kept = λ c s h. h;
    shifted = λ c x h t. inl h;
    stays = λ c x h. h;
  }

  -- another one is there, and what was there has left
  pub leaves_here : (k : ℕ) (ls ms : Spots) (es : Arrivals) → slice_get old k ≢ slice_get new k → ms ≡ ls ++ option_to_list (option_map (λ id. (id, Some (parent, k))) (slice_get old k)) → Leaves parent old new k (k + 1) ls ms es es
  leaves_here k ls ms es apart pushed = record {
    each = λ j c low high is other.
        let here : j ≡ k = omega (arith, low, high) in
        let was : slice_get old k ≡ Some c = ap (slice_get old) (sym here) ∙ is in
        inl (subst (λ (i : ℕ). Contains ms (c, Some (parent, i))) (sym here) (subst (λ (xs : Spots). Contains xs (c, Some (parent, k))) (sym pushed) (placed_has ls (Some (parent, k)) (slice_get old k) c was)));
    only = λ c s h. ⊎_elim inl
        (λ f. inr (k, (f.0, (f.1, λ is. apart (f.1 ∙ sym is)))))
        (placed_cases ls (Some (parent, k)) (slice_get old k) c s (subst (λ (xs : Spots). Contains xs (c, s)) pushed h));
    kept = λ c s h. subst (λ (xs : Spots). Contains xs (c, s)) (sym pushed) (Contains-append_left ls (option_to_list (option_map (λ id. (id, Some (parent, k))) (slice_get old k))) (c, s) h);
    shifted = λ c x h t. inl h;
    stays = λ c x h. h;
  }

  -- one that wasn't in the list has entered
  pub leaves_plain : (n : ℕ) (ls : Spots) (es fs : Arrivals) (id : FullNodeId) (s : Seat) → fs ≡ es ++ (id, arrival_at s false) ∷ [] → Leaves parent old new n n ls ls es fs
  leaves_plain n ls es fs id s is = record {
    each = λ k c low high is other. absurd (omega (arith, low, high));
    only = λ c s h. inl h;
    kept = λ c s h. h;
    shifted = λ c x h t. inl (plain_pushed es fs id s is c x h t);
    stays = λ c x h. subst (λ (xs : Arrivals). Contains xs (c, x)) (sym is) (Contains-append_left es ((id, arrival_at s false) ∷ []) (c, x) h);
  }

  -- one has shifted from an index of the old list to one of the new list
  abbrev moved_to : ℕ → Arrival
  moved_to j = arrival_at (Some (parent, j)) true

  pub leaves_shifted : (k j : ℕ) (ls : Spots) (es fs : Arrivals) (id : FullNodeId) → slice_get old k ≡ Some id → slice_get new k ≢ Some id → fs ≡ es ++ (id, moved_to j) ∷ [] → Leaves parent old new k (k + 1) ls ls es fs
  leaves_shifted k j ls es fs id was other is = record {
    each = λ i c low high at_i not.
        let here : i ≡ k = omega (arith, low, high) in
        let same : id ≡ c = same_Some id c (sym was ∙ ap (slice_get old) (sym here) ∙ at_i) in
        inr (subst (IsShiftedIn fs) same (moved_to j, subst (λ (xs : Arrivals). Contains xs (id, moved_to j)) (sym is) (pushed_last es (id, moved_to j)), refl));
    only = λ c s h. inl h;
    kept = λ c s h. h;
    shifted = λ c x h t. ⊎_elim inl
        (λ same.
        let key : id ≡ c = ap (λ (e : FullNodeId × Arrival). e.0) same in
        let spot : Some (parent, j) ≡ x.spot = ap (λ (e : FullNodeId × Arrival). e.1.spot) same in
        inr (k, j, was ∙ ap Some key, subst (λ (y : FullNodeId). slice_get new k ≢ Some y) key other, sym spot))
        (pushed_cases es (id, moved_to j) (c, x) (subst (λ (xs : Arrivals). Contains xs (c, x)) is h));
    stays = λ c x h. subst (λ (xs : Arrivals). Contains xs (c, x)) (sym is) (Contains-append_left es ((id, moved_to j) ∷ []) (c, x) h);
  }

  -- ---- the child at an index of the new list

  module _ (index from : ℕ) where
    abbrev spot : Seat
    spot = Some (parent, index)

    abbrev Comes : Arrivals → Arrivals → Type 0
    Comes es fs = Gathers (OnlyAt spot (slice_get new index) (slice_get old index)) (spots_of es) (spots_of fs)

    comes : (es fs : Arrivals) (id : FullNodeId) (b : Bool) → slice_get new index ≡ Some id → slice_get old index ≢ Some id → fs ≡ es ++ (id, arrival_at spot b) ∷ [] → Comes es fs
    comes es fs id b here other is =
        gathers_one spot (slice_get old index) (slice_get new index) (spots_of es) (spots_of fs) (λ same. other (same ∙ here))
        (ap spots_of is ∙ spots_pushed es id spot b ∙ ap (λ (o : Option FullNodeId). spots_of es ++ option_to_list (option_map (entry spot) o)) (sym here))

    -- it was there
    pub child_stays : (to : ℕ) (a b : Comparing) → slice_get old index ≡ slice_get new index → ((k : ℕ) → from ≤ k → k < to → k < index + 1)
        → Leaves parent old new from index a.left b.left a.entered b.entered → b.entered ≡ a.entered → ComparesChild parent old new index from to a b
    child_stays to a b same within f is = record {
      left = leaves_upto from (index + 1) to a.left b.left a.entered b.entered within
          (leaves_both from index (index + 1) a.left b.left b.left a.entered b.entered b.entered f (leaves_same index b.left b.entered same));
      entered = subst (λ (es : Arrivals). Comes a.entered es) (sym is)
          (gathers_none (OnlyAt spot (slice_get new index) (slice_get old index)) (spots_of a.entered) (λ c s h. h.1.1 (same ∙ h.1.0)));
    }

    -- it was at none of the next indexes
    pub child_enters : (a b : Comparing) (id : FullNodeId) → slice_get new index ≡ Some id → slice_get old index ≢ Some id → b.left ≡ a.left → b.entered ≡ a.entered ++ (id, arrival_at spot false) ∷ []
        → ComparesChild parent old new index from from a b
    child_enters a b id here other same is = record {
      left = subst (λ (ls : Spots). Leaves parent old new from from a.left ls a.entered b.entered) (sym same) (leaves_plain from a.left a.entered b.entered id spot is);
      entered = comes a.entered b.entered id false here other is;
    }

    -- it was at one of the next indexes, and no longer is
    pub child_shifts : (place : ℕ) (a m b : Comparing) (id : FullNodeId) → slice_get new index ≡ Some id → slice_get old index ≢ Some id → slice_get old place ≡ Some id → slice_get new place ≢ Some id
        → Leaves parent old new from place a.left m.left a.entered m.entered → m.entered ≡ a.entered → b.left ≡ m.left → b.entered ≡ m.entered ++ (id, arrival_at spot true) ∷ []
        → ComparesChild parent old new index from (place + 1) a b
    child_shifts place a m b id here other was gone f kept same is = record {
      left = leaves_both from place (place + 1) a.left m.left b.left a.entered m.entered b.entered f
          (subst (λ (ls : Spots). Leaves parent old new place (place + 1) m.left ls m.entered b.entered) (sym same) (leaves_shifted place index m.left m.entered b.entered id was gone is));
      entered = subst (λ (es : Arrivals). Comes es b.entered) kept (comes m.entered b.entered id true here other is);
    }

-- ---- children of a node, as ids

pub child_there : (tree : ℕ) (xs : List NodeId) (k : ℕ) (n : NodeId) → slice_get xs k ≡ Some n → slice_get (map (in_tree tree) xs) k ≡ Some (in_tree tree n)
child_there tree xs k n is = slice_get-map (in_tree tree) xs k ∙ ap (option_map (in_tree tree)) is

pub child_was : (tree : ℕ) (xs : List NodeId) (k : ℕ) (n : NodeId) → slice_get (map (in_tree tree) xs) k ≡ Some (in_tree tree n) → slice_get xs k ≡ Some n
child_was tree xs k n is =
    let f = map_some (in_tree tree) (slice_get xs k) (in_tree tree n) (sym (slice_get-map (in_tree tree) xs k) ∙ is) in
    f.1 ∙ ap Some (ap (λ (x : FullNodeId). x.node) f.2)

pub child_elsewhere : (tree : ℕ) (xs : List NodeId) (k : ℕ) (n : NodeId) → slice_get xs k ≢ Some n → slice_get (map (in_tree tree) xs) k ≢ Some (in_tree tree n)
child_elsewhere tree xs k n other is = other (child_was tree xs k n is)

-- ---- the lists of a node, from one step of the comparison to another

abbrev pub LeavesLists : Lists → ℕ → ℕ → Comparing → Comparing → Type 0
LeavesLists lists from to a b = Leaves lists.parent (ids_before lists) (ids_after lists) from to a.left b.left a.entered b.entered

pub lists_none : (lists : Lists) (k : ℕ) (a : Comparing) → LeavesLists lists k k a a
lists_none lists k a = leaves_none lists.parent (ids_before lists) (ids_after lists) k k a.left a.entered (omega arith)

pub lists_both : (lists : Lists) (from mid to : ℕ) (a b c : Comparing) → LeavesLists lists from mid a b → LeavesLists lists mid to b c → LeavesLists lists from to a c
lists_both lists from mid to a b c f g = leaves_both lists.parent (ids_before lists) (ids_after lists) from mid to a.left b.left c.left a.entered b.entered c.entered f g
