-- A node within another one: the way up to it, and what moves along it. Pre-orders without what is cut off.
use Rattle.std.proofs.Common.{◌≡◌, Bool, true, false, cond, ◌||◌, not, List, [], ◌∷◌, ◌++◌, inl, inr, refl, sym, ◌∙◌, ap, map}
use Rattle.std.specs.Prelude.{◌+ℤ◌, Option, Some, None, Contains, take_while, flat_map, ◌↔◌, IsTrue}
use Rattle.std.specs.List.{list_any}
use Rattle.std.proofs.Math.IntN.{+ℤ_assoc, +ℤ_idl}
use Rattle.std.proofs.lemmas.Bool.{false≢true}
use Rattle.std.proofs.lemmas.List.Sums.{take_while-cons}
use Rattle.model.specs.declared.FullNodeId.{FullNodeId}
use Rattle.model.specs.declared.filters.FilterResult.{FilterResult}
use Rattle.model.specs.World.{World, Place, children}
use Rattle.model.specs.Forest.{Forest, empty, tree, plant, is_same, chain, place_of, below, above, IsFormed}
use Rattle.model.specs.Lists.{ancestors, nodes_of, preorder, IsWithin}
use Rattle.model.specs.Upward.{upward, is_within}
use Rattle.model.specs.Covers.{is_cut_off}
use Rattle.model.specs.Geometry.{direct_transform, sum_of_moves, transform, below_top, transform_within, uncut, uncut_preorder}
use Rattle.model.proofs.Forest.Grown.{below_is}
use Rattle.model.proofs.Members.{contains_none, contains_head, contains_later, contains_cases}
use Rattle.model.proofs.Forest.PlaceOf.{same_from_test, test_self}

-- ---- the test of within

any_contains : (top : FullNodeId) (xs : List FullNodeId) → list_any (is_same top) xs ≡ true → Contains xs top
any_contains top [] h = absurd (false≢true h)
any_contains top (x ∷ xs) h = go (is_same top x) refl h (any_contains top xs)
  where
    go : (b : Bool) → is_same top x ≡ b → (b || list_any (is_same top) xs) ≡ true → (list_any (is_same top) xs ≡ true → Contains xs top) → Contains (x ∷ xs) top
    go true e h later = contains_head x top xs (sym (same_from_test top x e))
    go false e h later = contains_later x top xs (later h)

or_true : (b c : Bool) → c ≡ true → (b || c) ≡ true
or_true true c e = refl
or_true false c e = e

contains_any : (top : FullNodeId) (xs : List FullNodeId) → Contains xs top → list_any (is_same top) xs ≡ true
contains_any top [] h = absurd (contains_none top h)
contains_any top (x ∷ xs) h = elim (contains_cases x top xs h) [
  | inl same ↦ ap (λ b. b || list_any (is_same top) xs) (ap (is_same top) same ∙ test_self top)
  | inr later ↦ or_true (is_same top x) (list_any (is_same top) xs) (contains_any top xs later)
]

whole : (w : World) (top id : FullNodeId) → IsWithin w top id → Contains (upward w id) top
whole w top id (inl same) = contains_head id top (ancestors w id) same
whole w top id (inr later) = contains_later id top (ancestors w id) later

pub within_is_tested : (w : World) (top id : FullNodeId) → IsTrue (is_within w top id) ↔ IsWithin w top id
within_is_tested w top id = (λ h. contains_cases id top (ancestors w id) (any_contains top (upward w id) h), λ h. contains_any top (upward w id) (whole w top id h))

-- ---- the way up to top, and on from there

module _ (w : World) (formed : IsFormed w) (top : FullNodeId) where
  abbrev is_below : FullNodeId → Bool
  is_below a = not (is_same top a)

  abbrev IsSplit : List FullNodeId → Type 0
  IsSplit ids = ids ≡ take_while is_below ids ++ upward w top

  by_head : (id : FullNodeId) (ids : List FullNodeId) → upward w id ≡ id ∷ ids → (b : Bool) → is_same top id ≡ b → (b ≡ false → IsSplit ids) → IsSplit (id ∷ ids)
  by_head id ids is true e later =
      sym is ∙ ap (upward w) (sym (same_from_test top id e)) ∙ sym (ap (λ xs. xs ++ upward w top) (take_while-cons is_below id ids ∙ ap (λ b. cond (not b) (id ∷ take_while is_below ids) []) e))
  by_head id ids is false e later =
      ap (λ xs. id ∷ xs) (later refl) ∙ sym (ap (λ xs. xs ++ upward w top) (take_while-cons is_below id ids ∙ ap (λ b. cond (not b) (id ∷ take_while is_below ids) []) e))

  is_later : (id : FullNodeId) (ids : List FullNodeId) → (is_same top id || list_any (is_same top) ids) ≡ true → is_same top id ≡ false → list_any (is_same top) ids ≡ true
  is_later id ids h e = sym (ap (λ b. b || list_any (is_same top) ids) e) ∙ h

  split : (ps : List Place) (id : FullNodeId) → above w id ≡ ps → list_any (is_same top) (upward w id) ≡ true → IsSplit (id ∷ map (λ (p : Place). p.0) ps)
  split [] id e h =
      by_head id [] (ap (λ (ps : List Place). id ∷ map (λ (p : Place). p.0) ps) e) (is_same top id) refl
      (λ other. absurd (false≢true (is_later id [] (sym (ap (λ (ps : List Place). list_any (is_same top) (id ∷ map (λ (p : Place). p.0) ps)) e) ∙ h) other)))
  split (q ∷ up) id e h =
      let rest : above w q.0 ≡ up = go (place_of w id) refl in
      by_head id (q.0 ∷ map (λ (p : Place). p.0) up) (ap (λ (ps : List Place). id ∷ map (λ (p : Place). p.0) ps) e) (is_same top id) refl
      (λ other. split up q.0 rest
      (ap (λ (ps : List Place). list_any (is_same top) (q.0 ∷ map (λ (p : Place). p.0) ps)) rest
      ∙ is_later id (q.0 ∷ map (λ (p : Place). p.0) up) (sym (ap (λ (ps : List Place). list_any (is_same top) (id ∷ map (λ (p : Place). p.0) ps)) e) ∙ h) other))
    where
      go : (o : Option Place) → place_of w id ≡ o → above w q.0 ≡ up
      go None at = absurd (let none : [] ≡ q ∷ up = ap (chain (above w)) (sym at) ∙ sym (formed.rooted id) ∙ e in cc)
      go (Some p) at =
          let both : p ∷ above w p.0 ≡ q ∷ up = ap (chain (above w)) (sym at) ∙ sym (formed.rooted id) ∙ e in
          let first : p ≡ q = cc in
          let others : above w p.0 ≡ up = cc in
          ap (λ (p : Place). above w p.0) (sym first) ∙ others

  pub way_splits : (id : FullNodeId) → IsWithin w top id → upward w id ≡ below_top w top id ++ upward w top
  way_splits id within = split (above w id) id refl (contains_any top (upward w id) (whole w top id within))

  sum_x : (xs ys : List FullNodeId) → (sum_of_moves w (xs ++ ys)).x ≡ (sum_of_moves w xs).x +ℤ (sum_of_moves w ys).x
  sum_x [] ys = sym (+ℤ_idl (sum_of_moves w ys).x)
  sum_x (x ∷ xs) ys = ap (λ n. (direct_transform w x).x +ℤ n) (sum_x xs ys) ∙ sym (+ℤ_assoc (direct_transform w x).x (sum_of_moves w xs).x (sum_of_moves w ys).x)

  sum_y : (xs ys : List FullNodeId) → (sum_of_moves w (xs ++ ys)).y ≡ (sum_of_moves w xs).y +ℤ (sum_of_moves w ys).y
  sum_y [] ys = sym (+ℤ_idl (sum_of_moves w ys).y)
  sum_y (x ∷ xs) ys = ap (λ n. (direct_transform w x).y +ℤ n) (sum_y xs ys) ∙ sym (+ℤ_assoc (direct_transform w x).y (sum_of_moves w xs).y (sum_of_moves w ys).y)

  pub transform_splits : (id : FullNodeId) → IsWithin w top id → ((transform w id).x ≡ (transform_within w top id).x +ℤ (transform w top).x) × ((transform w id).y ≡ (transform_within w top id).y +ℤ (transform w top).y)
  transform_splits id within = (
    ap (λ ids. (sum_of_moves w ids).x) (way_splits id within) ∙ sum_x (below_top w top id) (upward w top),
    ap (λ ids. (sum_of_moves w ids).y) (way_splits id within) ∙ sum_y (below_top w top id) (upward w top),
  )

-- ---- pre-orders without what is cut off

uncut-plant : (f : FullNodeId → FilterResult) (sub : FullNodeId → Forest) (cs : List FullNodeId) → uncut f (plant sub cs) ≡ flat_map (λ c. cond (is_cut_off (f c)) [] (c ∷ uncut f (sub c))) cs
uncut-plant f sub [] = refl
uncut-plant f sub (c ∷ cs) = ap (λ xs. cond (is_cut_off (f c)) [] (c ∷ uncut f (sub c)) ++ xs) (uncut-plant f sub cs)

pub uncut_is_of_children : (f : FullNodeId → FilterResult) (w : World) → IsFormed w → (id : FullNodeId) → uncut_preorder f w id ≡ cond (is_cut_off (f id)) [] (id ∷ flat_map (uncut_preorder f w) (children w id))
uncut_is_of_children f w formed id =
    ap (λ t. cond (is_cut_off (f id)) [] (id ∷ uncut f t)) (below_is w formed id) ∙ ap (λ xs. cond (is_cut_off (f id)) [] (id ∷ xs)) (uncut-plant f (below w) (children w id))

all_uncut : (f : FullNodeId → FilterResult) → ((id : FullNodeId) → is_cut_off (f id) ≡ false) → (t : Forest) → uncut f t ≡ nodes_of t
all_uncut f never empty = refl
all_uncut f never (tree c inner rest) =
    ap (λ b. cond b [] (c ∷ uncut f inner) ++ uncut f rest) (never c) ∙ ap (λ xs. c ∷ (xs ++ uncut f rest)) (all_uncut f never inner) ∙ ap (λ xs. c ∷ (nodes_of inner ++ xs)) (all_uncut f never rest)

pub uncut_is_preorder : (f : FullNodeId → FilterResult) (w : World) → ((id : FullNodeId) → is_cut_off (f id) ≡ false) → (id : FullNodeId) → uncut_preorder f w id ≡ preorder w id
uncut_is_preorder f w never id = ap (λ b. cond b [] (id ∷ uncut f (below w id))) (never id) ∙ ap (λ xs. id ∷ xs) (all_uncut f never (below w id))
