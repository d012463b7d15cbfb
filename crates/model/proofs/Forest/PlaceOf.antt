-- `place_of` finds the place at which a node stands.
use Rattle.std.proofs.Common.{◌≡◌, ℕ, ◌<◌, Bool, true, false, cond, suc, zero, List, [], ◌∷◌, length, refl, sym, ◌∙◌, ap, arith, get_or, inl, inr, ltb}
use Rattle.std.specs.Prelude.{Option, Some, None, IsSome, slice_get, is_some, option_map, position, ◌⊎◌, ◌↔◌}
use Rattle.std.specs.Option.{option_or}
use Rattle.std.specs.Cmp.{eq_by_cmp_equiv}
use Rattle.std.specs.List.{list_any, position_or_len}
use Rattle.std.specs.FinMap.{keys, contains_key-keys}
use Rattle.std.proofs.lemmas.Bool.{false≢true}
use Rattle.std.proofs.lemmas.Option.{none-some, same_Some, slice_get-get_or}
use Rattle.std.proofs.lemmas.List.Quantifiers.{position-Some}
use Rattle.std.proofs.lemmas.Map.Views.{tells_apart}
use Rattle.schema.specs.NodeData.{NodeData}
use Rattle.model.specs.declared.FullNodeId.{FullNodeId}
use Rattle.model.specs.FullIds.{exact_full, full_total}
use Rattle.model.specs.World.{World, data_of, IsNode, children, Place, StandsAt}
use Rattle.model.specs.Forest.{is_same, place_among, place_of, IsFormed}

pub same_from_test : (a b : FullNodeId) → is_same a b ≡ true → a ≡ b
same_from_test = tells_apart exact_full

pub test_self : (a : FullNodeId) → is_same a a ≡ true
test_self = (eq_by_cmp_equiv full_total).refl

option_or-some : {A : Type 0} (f : ℕ → A) (o : Option ℕ) (rest : Option A) (q : A) → option_or (option_map f o) rest ≡ Some q → ((i : ℕ) × (o ≡ Some i) × (f i ≡ q)) ⊎ (rest ≡ Some q)
option_or-some f None rest q e = inr e
option_or-some f (Some i) rest q e = inl (i, refl, same_Some (f i) q e)

stands_among : (w : World) (c : FullNodeId) (ps : List FullNodeId) (q : Place) → place_among w c ps ≡ Some q → StandsAt w q c
stands_among w c [] q e = absurd (none-some q e)
stands_among w c (p ∷ ps) q e =
    elim (option_or-some (λ i. (p, i)) (position (is_same c) (children w p)) (place_among w c ps) q e) [
      | inl h ↦
          let found = position-Some (is_same c) (children w p) h.0 c h.1 in
          let here : get_or (children w p) h.0 c ≡ c = sym (same_from_test c _ found.1) in
          rw (← h.2) (slice_get-get_or (children w p) h.0 c found.0 ∙ ap Some here)
      | inr h ↦ stands_among w c ps q h
    ]

-- a node stands at the place that is found
pub stands_at_place : (w : World) (c : FullNodeId) (q : Place) → place_of w c ≡ Some q → StandsAt w q c
unfolding place_of
stands_at_place w c q e = stands_among w c (keys w.nodes) q e

-- ---- where a node stands at a place, one is found

-- only nodes have children
pub parent_is_node : (w : World) (p : Place) (c : FullNodeId) → StandsAt w p c → IsNode w p.0
parent_is_node w p c e = go (data_of w p.0) refl
  where
    go : (o : Option NodeData) → data_of w p.0 ≡ o → IsSome (data_of w p.0)
    go None h = absurd (none-some c (rw h at e))
    go (Some d) h = ap is_some h

cond_lt : (a b : ℕ) → a < b → cond (ltb a b) (Some a) None ≡ Some a
cond_lt a b h = grind arith

first_passes : (c : FullNodeId) (cs : List FullNodeId) (i : ℕ) → slice_get cs i ≡ Some c → position_or_len (is_same c) cs < length cs
first_passes c [] i e = absurd (none-some c e)
first_passes c (x ∷ xs) zero e =
    let same : is_same c x ≡ true = rw (same_Some x c e) (test_self c) in
    rw same (omega arith)
first_passes c (x ∷ xs) (suc i) e = go (is_same c x) refl (first_passes c xs i e)
  where
    go : (b : Bool) → is_same c x ≡ b → position_or_len (is_same c) xs < length xs → position_or_len (is_same c) (x ∷ xs) < length (x ∷ xs)
    go true h later = rw h (omega arith)
    go false h later = rw h (omega arith)

position-found : (c : FullNodeId) (cs : List FullNodeId) (i : ℕ) → slice_get cs i ≡ Some c → position (is_same c) cs ≡ Some (position_or_len (is_same c) cs)
position-found c cs i e = cond_lt (position_or_len (is_same c) cs) (length cs) (first_passes c cs i e)

found_first : {A : Type 0} (f : ℕ → A) (o : Option ℕ) (rest : Option A) (j : ℕ) → o ≡ Some j → (q : A) × (option_or (option_map f o) rest ≡ Some q)
found_first f None rest j e = absurd (none-some j e)
found_first f (Some i) rest j e = (f i, refl)

found_later : {A : Type 0} (f : ℕ → A) (o : Option ℕ) (rest : Option A) → ((q : A) × (rest ≡ Some q)) → (q : A) × (option_or (option_map f o) rest ≡ Some q)
found_later f None rest e = e
found_later f (Some i) rest e = (f i, refl)

found_among : (w : World) (c : FullNodeId) (p : Place) (ps : List FullNodeId) → StandsAt w p c → list_any (is_same p.0) ps ≡ true → (q : Place) × (place_among w c ps ≡ Some q)
found_among w c p [] e h = absurd (false≢true h)
found_among w c p (x ∷ xs) e h = go (is_same p.0 x) refl (found_among w c p xs e)
  where
    go : (b : Bool) → is_same p.0 x ≡ b → (list_any (is_same p.0) xs ≡ true → (q : Place) × (place_among w c xs ≡ Some q)) → (q : Place) × (place_among w c (x ∷ xs) ≡ Some q)
    go true t later =
        let same : p.0 ≡ x = same_from_test p.0 x t in
        found_first _ _ _ _ (position-found c (children w x) p.1 (rw same at e))
    go false t later = found_later _ _ _ (later (rw t at h))

-- a place is found for each node that stands at one
pub place_found : (w : World) (c : FullNodeId) (p : Place) → StandsAt w p c → (q : Place) × (place_of w c ≡ Some q)
unfolding place_of
place_found w c p e = found_among w c p (keys w.nodes) e (sym (contains_key-keys w.nodes p.0) ∙ parent_is_node w p c e)

-- where a node stands at one place alone, that place is found
pub place_from_one : (w : World) (c : FullNodeId) (p : Place) → ((q : Place) → StandsAt w q c → q ≡ p) → StandsAt w p c → place_of w c ≡ Some p
place_from_one w c p one e =
    let found = place_found w c p e in
    found.1 ∙ ap Some (one found.0 (stands_at_place w c found.0 found.1))

-- where no node stands at two places, the place of a node is where it stands
pub place_is : (w : World) → IsFormed w → (c : FullNodeId) (p : Place) → (place_of w c ≡ Some p) ↔ StandsAt w p c
place_is w formed c p = (stands_at_place w c p, formed.placed p c)
