-- A state has at least as many nodes as stand below one of them.
use Rattle.std.proofs.Common.{◌≡◌, ℕ, ◌+◌, ◌*◌, ◌≤◌, List, [], ◌∷◌, length, map, suc, zero, refl, sym, ap, subst, arith, length-append, inl, inr}
use Rattle.std.specs.Prelude.{Option, Some, None, Bool, true, false, cond, filter, slice_get, Contains}
use Rattle.std.specs.FinMap.{len}
use Rattle.std.proofs.lemmas.Option.{none-some, same_Some}
use Rattle.model.specs.declared.FullNodeId.{FullNodeId}
use Rattle.model.specs.declared.filters.FilterResult.{FilterResult}
use Rattle.model.specs.declared.filters.FilterResult.TheVariants.{Include, ExcludeNode, ExcludeSubtree}
use Rattle.model.specs.World.{World, Place, StandsAt, IsNode, children, root_of}
use Rattle.model.specs.State.{IsState}
use Rattle.model.specs.Forest.{Forest, empty, tree, plant, place_of, below, IsFormed}
use Rattle.model.specs.Lists.{nodes_of, ancestors, IsWithin}
use Rattle.model.specs.Paths.{depth}
use Rattle.model.specs.Frontier.{frontier, shown_part, filtered_children}
use Rattle.model.specs.Beside.{weight}
use Rattle.model.proofs.Forest.PlaceOf.{stands_at_place}
use Rattle.model.proofs.Forest.Grown.{below_is, above_child, above_root, depth_child}
use Rattle.model.proofs.Forest.Rooted.{state_formed}
use Rattle.model.proofs.Lists.PreorderCount.{as_many}
use Rattle.model.proofs.Lists.StateLists.{in_root_preorder}
use Rattle.model.proofs.Lists.Within.{in_preorder}
use Rattle.model.proofs.Members.{contains_none, contains_cases}

-- the weight counts each node twice
weight_counts : (t : Forest) → weight t ≡ 2 * length (nodes_of t)
weight_counts empty = omega arith
weight_counts (tree c inner rest) = omega (arith, weight_counts inner, weight_counts rest, length-append (nodes_of inner) (nodes_of rest))

-- what is shown is no more than there is
shown_length : (r : FilterResult) (c : FullNodeId) (inner : List FullNodeId) → length (shown_part r c inner) ≤ 1 + length inner
shown_length Include c inner = omega arith
shown_length ExcludeNode c inner = omega arith
shown_length ExcludeSubtree c inner = omega arith

frontier_length : (f : FullNodeId → FilterResult) (t : Forest) → 2 * length (frontier f t) ≤ weight t
frontier_length f empty = omega arith
frontier_length f (tree c inner rest) =
    omega (arith, frontier_length f inner, frontier_length f rest, length-append (shown_part (f c) c (frontier f inner)) (frontier f rest), shown_length (f c) c (frontier f inner))

-- a child weighs less than its parent
weight_in : (sub : FullNodeId → Forest) (cs : List FullNodeId) (i : ℕ) (c : FullNodeId) → slice_get cs i ≡ Some c → weight (sub c) ≤ weight (plant sub cs)
weight_in sub [] i c e = absurd (none-some c e)
weight_in sub (x ∷ xs) zero c e = omega (arith, ap (λ y. weight (sub y)) (same_Some x c e))
weight_in sub (x ∷ xs) (suc i) c e = omega (arith, weight_in sub xs i c e)

child_weight : (w : World) → IsFormed w → (p : Place) (c : FullNodeId) → StandsAt w p c → weight (below w c) ≤ weight (below w p.0)
child_weight w formed p c e = subst (λ t. weight (below w c) ≤ weight t) (sym (below_is w formed p.0)) (weight_in (below w) (children w p.0) p.1 c e)

-- the parent of a node that isn't top lies within top
within_or_same : (w : World) → IsFormed w → (r : FullNodeId) (p : Place) (c : FullNodeId) → StandsAt w p c → Contains (ancestors w c) r → IsWithin w r p.0
within_or_same w formed r p c e m =
    elim (contains_cases p.0 r (ancestors w p.0) (subst (λ places. Contains (map (λ (q : Place). q.0) places) r) (above_child w formed p c e) m)) [
      | inl same ↦ inl same
      | inr later ↦ inr later
    ]

unplaced : (w : World) → IsFormed w → (r c : FullNodeId) → place_of w c ≡ None → ¬ (Contains (ancestors w c) r)
unplaced w formed r c e m = contains_none r (subst (λ places. Contains (map (λ (q : Place). q.0) places) r) (above_root w formed c e) m)

by_place : (w : World) (formed : IsFormed w) (r : FullNodeId) (n : ℕ) (id : FullNodeId) → depth w id ≤ suc n → Contains (ancestors w id) r →
    ((c : FullNodeId) → depth w c ≤ n → IsWithin w r c → weight (below w c) ≤ weight (below w r)) → (o : Option Place) → place_of w id ≡ o → weight (below w id) ≤ weight (below w r)
by_place w formed r n id deep m higher None e = absurd (unplaced w formed r id e m)
by_place w formed r n id deep m higher (Some p) e =
    let stands : StandsAt w p id = stands_at_place w id p e in
    omega (arith, child_weight w formed p id stands, higher p.0 (omega (arith, depth_child w formed p id stands)) (within_or_same w formed r p id stands m))

-- by the levels above
climb_weight : (w : World) → IsFormed w → (r : FullNodeId) (n : ℕ) (id : FullNodeId) → depth w id ≤ n → IsWithin w r id → weight (below w id) ≤ weight (below w r)
climb_weight w formed r n id deep (inl same) = omega (arith, ap (λ i. weight (below w i)) same)
climb_weight w formed r zero id deep (inr m) = go (place_of w id) refl
  where
    go : (o : Option Place) → place_of w id ≡ o → weight (below w id) ≤ weight (below w r)
    go None e = absurd (unplaced w formed r id e m)
    go (Some p) e = absurd (omega (arith, deep, depth_child w formed p id (stands_at_place w id p e)))
climb_weight w formed r (suc n) id deep (inr m) = by_place w formed r n id deep m (λ c. climb_weight w formed r n c) (place_of w id) refl

pub weight_fits : {w : World} → IsState w → (r : FullNodeId) → root_of w 0 ≡ Some r → (id : FullNodeId) → IsNode w id → weight (below w id) ≤ 2 * len w.nodes
weight_fits {w} s r is id there =
    let within : IsWithin w r id = (in_preorder w (state_formed s) r id).0 ((in_root_preorder s r is id).1 there) in
    omega (arith, climb_weight w (state_formed s) r (depth w id) id (omega arith) within, weight_counts (below w r), as_many s r is)

-- so many of them are shown at most
pub shown_fit : {w : World} → IsState w → (r : FullNodeId) → root_of w 0 ≡ Some r → (f : FullNodeId → FilterResult) (id : FullNodeId) → IsNode w id → length (filtered_children f w id) ≤ len w.nodes
shown_fit {w} s r is f id there = omega (arith, frontier_length f (below w id), weight_fits s r is id there)

pub filter_fits : {A : Type 0} (p : A → Bool) (xs : List A) → length (filter p xs) ≤ length xs
filter_fits p [] = omega arith
filter_fits p (x ∷ xs) = go (p x) (filter_fits p xs)
  where
    go : (b : Bool) → length (filter p xs) ≤ length xs → length (cond b (x ∷ filter p xs) (filter p xs)) ≤ suc (length xs)
    go true h = omega arith
    go false h = omega arith
