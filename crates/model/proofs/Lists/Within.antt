-- A pre-order has the nodes that lie within its first one, and no others.
use Rattle.std.proofs.Common.{◌≡◌, ℕ, ◌+◌, ◌≤◌, List, [], ◌∷◌, ◌++◌, suc, zero, refl, sym, ◌∙◌, ap, arith, map, inl, inr}
use Rattle.std.specs.Prelude.{Option, Some, None, slice_get, Contains, ◌↔◌}
use Rattle.std.specs.FinMap.{len}
use Rattle.std.proofs.lemmas.Option.{none-some, same_Some}
use Rattle.std.proofs.lemmas.List.{map-append}
use Rattle.std.proofs.lemmas.List.Elements.{Contains-append_left, Contains-append_right, Contains-append_cases, All-contains, All-from_recursion}
use Rattle.model.specs.declared.FullNodeId.{FullNodeId}
use Rattle.model.specs.World.{World, children, Place, StandsAt}
use Rattle.model.specs.Forest.{Forest, empty, tree, plant, levels_below, place_of, chain, below, above, IsFormed}
use Rattle.model.specs.Lists.{nodes_of, preorder, ancestors, IsWithin}
use Rattle.model.specs.Paths.{depth}
use Rattle.model.proofs.Forest.PlaceOf.{stands_at_place}
use Rattle.model.proofs.Forest.Grown.{depth_child, grown_same, below_is}
use Rattle.model.proofs.Lists.Preorder.{hangs_below, Under, all_under}
use Rattle.model.proofs.Members.{contains_first, contains_head, contains_later, contains_cases}

-- ---- each tree in a forest has below it all that is below its node

IsWhole : World → Forest → Type 0
IsWhole w empty = Unit {0}
IsWhole w (tree c inner rest) = (inner ≡ below w c) × IsWhole w inner × IsWhole w rest

whole_plant : (w : World) (sub : FullNodeId → Forest) (cs : List FullNodeId) → ((i : ℕ) (c : FullNodeId) → slice_get cs i ≡ Some c → (sub c ≡ below w c) × IsWhole w (sub c)) → IsWhole w (plant sub cs)
unfolding IsWhole
whole_plant w sub [] h = tt
whole_plant w sub (c ∷ cs) h = ((h 0 c refl).0, (h 0 c refl).1, whole_plant w sub cs (λ i d e. h (suc i) d e))

contains_planted : (sub : FullNodeId → Forest) (cs : List FullNodeId) (i : ℕ) (c : FullNodeId) → slice_get cs i ≡ Some c → Contains (nodes_of (plant sub cs)) c
contains_planted sub [] i c e = absurd (none-some c e)
contains_planted sub (d ∷ cs) zero c e = contains_head d c (nodes_of (sub d) ++ nodes_of (plant sub cs)) (same_Some d c e)
contains_planted sub (d ∷ cs) (suc i) c e =
    contains_later d c (nodes_of (sub d) ++ nodes_of (plant sub cs)) (Contains-append_right (nodes_of (sub d)) (nodes_of (plant sub cs)) c (contains_planted sub cs i c e))

module _ (w : World) (formed : IsFormed w) where
  whole_grown : (n : ℕ) (id : FullNodeId) → len w.nodes ≤ n + depth w id → IsWhole w (levels_below w n id)
  unfolding IsWhole below
  whole_grown zero id h = tt
  whole_grown (suc n) id h = whole_plant w (levels_below w n) (children w id) (λ i c e.
      let deep : len w.nodes ≤ n + depth w c = omega (arith, depth_child w formed (id, i) c e) in
      (grown_same w formed n (len w.nodes) c deep (omega arith), whole_grown n c deep))

  whole_below : (id : FullNodeId) → IsWhole w (below w id)
  unfolding below
  whole_below id = whole_grown (len w.nodes) id (omega arith)

  child_in_below : (p : Place) (c : FullNodeId) → StandsAt w p c → Contains (nodes_of (below w p.0)) c
  child_in_below p c e = rw (below_is w formed p.0) (contains_planted (below w) (children w p.0) p.1 c e)

  -- with a node a whole forest has its children
  child_in_whole : (t : Forest) → IsWhole w t → (p : Place) (c : FullNodeId) → StandsAt w p c → Contains (nodes_of t) p.0 → Contains (nodes_of t) c
  unfolding IsWhole
  child_in_whole empty h p c e (k, l, m) = absurd (omega arith)
  child_in_whole (tree d inner rest) h p c e m =
      contains_later d c (nodes_of inner ++ nodes_of rest) (elim (contains_cases d p.0 (nodes_of inner ++ nodes_of rest) m) [
        | inl s ↦ Contains-append_left (nodes_of inner) (nodes_of rest) c (rw (h.0, s) (child_in_below p c e))
        | inr r ↦ elim (Contains-append_cases (nodes_of inner) (nodes_of rest) p.0 r) [
          | inl a ↦ Contains-append_left (nodes_of inner) (nodes_of rest) c (child_in_whole inner h.1 p c e a)
          | inr b ↦ Contains-append_right (nodes_of inner) (nodes_of rest) c (child_in_whole rest h.2 p c e b)
        ]
      ])

  in_below : (top : FullNodeId) (ps : List Place) (id : FullNodeId) → above w id ≡ ps → Contains (map (λ (p : Place). p.0) ps) top → Contains (nodes_of (below w top)) id
  in_below top [] id e (k, l, m) = absurd (omega arith)
  in_below top (p ∷ ps) id e m = go (place_of w id) refl (in_below top ps p.0)
    where
      go : (o : Option Place) → place_of w id ≡ o → (above w p.0 ≡ ps → Contains (map (λ (q : Place). q.0) ps) top → Contains (nodes_of (below w top)) p.0) → Contains (nodes_of (below w top)) id
      go None f deeper = absurd (let short : [] ≡ p ∷ ps = ap (chain (above w)) (sym f) ∙ sym (formed.rooted id) ∙ e in cc)
      go (Some q) f deeper =
          let same : q ∷ above w q.0 ≡ p ∷ ps = ap (chain (above w)) (sym f) ∙ sym (formed.rooted id) ∙ e in
          let first : q ≡ p = cc in
          let others : above w q.0 ≡ ps = cc in
          let stands : StandsAt w p id = rw first at (stands_at_place w id q f) in
          elim (contains_cases p.0 top (map (λ (r : Place). r.0) ps) m) [
            | inl s ↦ rw s at (child_in_below p id stands)
            | inr r ↦ child_in_whole (below w top) (whole_below top) p id stands (deeper (rw first at others) r)
          ]

  pub above_under : (top id : FullNodeId) → Under w top 0 id → Contains (ancestors w id) top
  above_under top id u =
      rw (ap (map (λ (p : Place). p.0)) u.way ∙ map-append (λ (p : Place). p.0) u.inner ((top, u.index) ∷ above w top))
      (Contains-append_right (map (λ (p : Place). p.0) u.inner) (top ∷ ancestors w top) top (contains_first top (ancestors w top)))

  pub in_preorder : (top id : FullNodeId) → Contains (preorder w top) id ↔ IsWithin w top id
  in_preorder top id = (there, back)
    where
      there : Contains (preorder w top) id → IsWithin w top id
      there m = elim (contains_cases top id (nodes_of (below w top)) m) [
        | inl s ↦ inl (sym s)
        | inr r ↦ inr (above_under top id (All-contains (Under w top 0) (nodes_of (below w top)) id (All-from_recursion (Under w top 0) (nodes_of (below w top)) (all_under w formed top 0 (below w top) (hangs_below w top))) r))
      ]

      back : IsWithin w top id → Contains (preorder w top) id
      back (inl s) = contains_head top id (nodes_of (below w top)) (sym s)
      back (inr m) = contains_later top id (nodes_of (below w top)) (in_below top (above w id) id refl m)
