-- Filtered children are the nodes that the filter shows, in the order of their paths.
use Rattle.std.proofs.Common.{◌≡◌, ℕ, List, [], ◌∷◌, suc, zero, refl, sym, ◌∙◌, ap, arith, inl, inr}
use Rattle.std.specs.Prelude.{Option, Some, None, slice_get, Contains, AllPairs, flat_map, ◌↔◌}
use Rattle.std.specs.List.{AllByRecursion}
use Rattle.std.specs.List.Sorted.{IsStrictlySortedBy}
use Rattle.std.proofs.lemmas.Option.{none-some, same_Some}
use Rattle.std.proofs.lemmas.List.Elements.{Contains-append_left, Contains-append_right, All-contains, All-from_recursion}
use Rattle.std.proofs.lemmas.Map.Keys.{Less-from_sorted}
use Rattle.model.specs.declared.FullNodeId.{FullNodeId}
use Rattle.model.specs.declared.filters.FilterResult.{FilterResult}
use Rattle.model.specs.declared.filters.FilterResult.TheVariants.{Include, ExcludeNode, ExcludeSubtree}
use Rattle.model.specs.World.{World, children, Place, StandsAt}
use Rattle.model.specs.Forest.{Forest, empty, tree, place_of, chain, below, above, IsFormed}
use Rattle.model.specs.Paths.{index_path, IsBefore}
use Rattle.model.specs.Frontier.{shown_part, frontier, filtered_children, LeadsUpTo, IsShown}
use Rattle.model.proofs.Forest.PlaceOf.{stands_at_place}
use Rattle.model.proofs.Forest.Grown.{above_child}
use Rattle.model.proofs.Lists.Preorder.{HangsAt, hangs_below, Under, under_child, under_deeper, under_lower, all_append, all_weaker, sorted_append, Precedes, under_before, by_path}
use Rattle.model.proofs.Lists.Frontiers.{frontier_is}
use Rattle.model.proofs.Members.{contains_head}

module _ (f : FullNodeId → FilterResult) (w : World) (formed : IsFormed w) where
  -- the place of a node and those above its parent, from all above the node
  pub above_parts : (d : FullNodeId) (q : Place) (up : List Place) → above w d ≡ q ∷ up → StandsAt w q d × (above w q.0 ≡ up)
  above_parts d q up e = go (place_of w d) refl
    where
      go : (o : Option Place) → place_of w d ≡ o → StandsAt w q d × (above w q.0 ≡ up)
      go None g = absurd (let short : [] ≡ q ∷ up = ap (chain (above w)) (sym g) ∙ sym (formed.rooted d) ∙ e in cc)
      go (Some p) g =
          let same : p ∷ above w p.0 ≡ q ∷ up = ap (chain (above w)) (sym g) ∙ sym (formed.rooted d) ∙ e in
          let first : p ≡ q = cc in
          let others : above w p.0 ≡ up = cc in
          (rw first at (stands_at_place w d p g), rw first at others)

  -- ---- what is shown leads up to the node

  leads_on : (p : Place) (c : FullNodeId) → StandsAt w p c → f c ≡ ExcludeNode → (ps : List Place) (d : FullNodeId) → above w d ≡ ps → LeadsUpTo f c ps → LeadsUpTo f p.0 ps
  leads_on p c stands out [] d e h = h
  leads_on p c stands out (q ∷ up) d e (inl here) =
      inr (ap f here ∙ out, rw (sym (above_parts d q up e).1 ∙ ap (above w) here ∙ above_child w formed p c stands) (inl refl))
  leads_on p c stands out (q ∷ up) d e (inr h) = inr (h.0, leads_on p c stands out up q.0 (above_parts d q up e).1 h.1)

  shown_of : (p : Place) (c : FullNodeId) → StandsAt w p c → (r : FilterResult) → f c ≡ r → (inner : List FullNodeId) → AllByRecursion (IsShown f w c) inner → AllByRecursion (IsShown f w p.0) (shown_part r c inner)
  shown_of p c stands Include e inner a = ((e, rw (above_child w formed p c stands) (inl refl)), tt)
  shown_of p c stands ExcludeNode e inner a = all_weaker (IsShown f w c) (IsShown f w p.0) (λ d s. (s.0, leads_on p c stands e (above w d) d refl s.1)) inner a
  shown_of p c stands ExcludeSubtree e inner a = tt

  all_shown : (p : FullNodeId) (k : ℕ) (t : Forest) → HangsAt w p k t → AllByRecursion (IsShown f w p) (frontier f t)
  unfolding HangsAt
  all_shown p k empty h = tt
  all_shown p k (tree c inner rest) h =
      all_append (IsShown f w p) (shown_part (f c) c (frontier f inner)) (frontier f rest) (shown_of (p, k) c h.0 (f c) refl (frontier f inner) (all_shown c 0 inner h.1)) (all_shown p (suc k) rest h.2)

  -- ---- and back: what a node stands for is shown as far up as the nodes above it are left out

  in_children : {A : Type 0} (g : FullNodeId → List A) (cs : List FullNodeId) (i : ℕ) (c : FullNodeId) (x : A) → slice_get cs i ≡ Some c → Contains (g c) x → Contains (flat_map g cs) x
  in_children g [] i c x e h = absurd (none-some c e)
  in_children g (d ∷ ds) zero c x e h = Contains-append_left (g d) (flat_map g ds) x (rw (same_Some d c e) h)
  in_children g (d ∷ ds) (suc i) c x e h = Contains-append_right (g d) (flat_map g ds) x (in_children g ds i c x e h)

  shown_in_parent : (q : Place) (d x : FullNodeId) → StandsAt w q d → Contains (shown_part (f d) d (filtered_children f w d)) x → Contains (filtered_children f w q.0) x
  shown_in_parent q d x stands h =
      rw (frontier_is f w formed q.0) (in_children (λ c. shown_part (f c) c (filtered_children f w c)) (children w q.0) q.1 d x stands h)

  shown_in : (top : FullNodeId) (ps : List Place) (d x : FullNodeId) → above w d ≡ ps → LeadsUpTo f top ps → Contains (shown_part (f d) d (filtered_children f w d)) x → Contains (filtered_children f w top) x
  shown_in top [] d x e h m = absurd h
  shown_in top (q ∷ up) d x e (inl here) m = rw here at (shown_in_parent q d x (above_parts d q up e).0 m)
  shown_in top (q ∷ up) d x e (inr h) m =
      let parts = above_parts d q up e in
      let step : Contains (filtered_children f w q.0) x = shown_in_parent q d x parts.0 m in
      shown_in top up q.0 x parts.1 h.1 (ap_shown q.0 x h.0 step)
    where
      ap_shown : (c x : FullNodeId) → f c ≡ ExcludeNode → Contains (filtered_children f w c) x → Contains (shown_part (f c) c (filtered_children f w c)) x
      ap_shown c x out m = rw out m

  pub shown_is : (top id : FullNodeId) → Contains (filtered_children f w top) id ↔ IsShown f w top id
  shown_is top id = (there, back)
    where
      there : Contains (filtered_children f w top) id → IsShown f w top id
      there = All-contains (IsShown f w top) (filtered_children f w top) id (All-from_recursion (IsShown f w top) (filtered_children f w top) (all_shown top 0 (below w top) (hangs_below w top)))

      back : IsShown f w top id → Contains (filtered_children f w top) id
      back s = shown_in top (above w id) id id refl s.1 (rw s.0 (contains_head id id [] refl))

  -- ---- the order

  -- below child k of p, or it
  abbrev pub At : FullNodeId → ℕ → FullNodeId → Type 0
  At p k d = (u : Under w p k d) × (u.index ≡ k)

  pub shown_at : (p : FullNodeId) (k : ℕ) (c : FullNodeId) → StandsAt w (p, k) c → (r : FilterResult) (inner : List FullNodeId) → AllByRecursion (Under w c 0) inner → AllByRecursion (At p k) (shown_part r c inner)
  unfolding under_child under_deeper
  shown_at p k c stands Include inner a = ((under_child w formed p k c stands, refl), tt)
  shown_at p k c stands ExcludeNode inner a = all_weaker (Under w c 0) (At p k) (λ d u. (under_deeper w formed p k c d 0 stands u, refl)) inner a
  shown_at p k c stands ExcludeSubtree inner a = tt

  pub all_below : (p : FullNodeId) (k : ℕ) (t : Forest) → HangsAt w p k t → AllByRecursion (Under w p k) (frontier f t)
  unfolding HangsAt
  all_below p k empty h = tt
  all_below p k (tree c inner rest) h =
      all_append (Under w p k) (shown_part (f c) c (frontier f inner)) (frontier f rest)
      (all_weaker (At p k) (Under w p k) (λ d a. a.0) (shown_part (f c) c (frontier f inner)) (shown_at p k c h.0 (f c) (frontier f inner) (all_below c 0 inner h.1)))
      (all_weaker (Under w p (suc k)) (Under w p k) (λ d u. under_lower w p k (suc k) d (omega arith) u) (frontier f rest) (all_below p (suc k) rest h.2))

  shown_sorted : (c : FullNodeId) (r : FilterResult) (inner : List FullNodeId) → IsStrictlySortedBy (by_path w formed) inner → IsStrictlySortedBy (by_path w formed) (shown_part r c inner)
  unfolding IsStrictlySortedBy
  shown_sorted c Include inner s = (tt, tt)
  shown_sorted c ExcludeNode inner s = s
  shown_sorted c ExcludeSubtree inner s = tt

  all_sorted : (p : FullNodeId) (k : ℕ) (t : Forest) → HangsAt w p k t → IsStrictlySortedBy (by_path w formed) (frontier f t)
  unfolding HangsAt IsStrictlySortedBy
  all_sorted p k empty h = tt
  all_sorted p k (tree c inner rest) h =
      let first : List FullNodeId = shown_part (f c) c (frontier f inner) in
      let later : AllByRecursion (Under w p (suc k)) (frontier f rest) = all_below p (suc k) rest h.2 in
      sorted_append (by_path w formed) first (frontier f rest) (shown_sorted c (f c) (frontier f inner) (all_sorted c 0 inner h.1)) (all_sorted p (suc k) rest h.2)
      (all_weaker (At p k) (λ d. AllByRecursion (Precedes w d) (frontier f rest))
      (λ d a. all_weaker (Under w p (suc k)) (Precedes w d) (λ e v. under_before w p k d e a.0 a.1 v) (frontier f rest) later)
      first (shown_at p k c h.0 (f c) (frontier f inner) (all_below c 0 inner h.1)))

  pub shown_rise : (top : FullNodeId) → AllPairs (λ a b. IsBefore (index_path w a) (index_path w b)) (filtered_children f w top)
  shown_rise top i j d h l = Less-from_sorted (by_path w formed) (filtered_children f w top) i j d (all_sorted top 0 (below w top) (hangs_below w top)) h l
