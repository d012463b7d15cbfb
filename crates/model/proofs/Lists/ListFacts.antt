-- Siblings, deepest children, and paths of a formed world.
use Rattle.std.proofs.Common.{◌≡◌, ℕ, ◌+◌, ◌-◌, List, [], ◌∷◌, ◌++◌, length, take, drop, suc, refl, sym, ◌∙◌, ap, arith, map, inl, inr, append-nil, add-one}
use Rattle.std.specs.Prelude.{Option, Some, None, slice_get, option_map, unwrap_or, reverse}
use Rattle.std.specs.Option.{option_or}
use Rattle.std.proofs.Math.Seq.{drop-cons, drop-append_seam}
use Rattle.std.proofs.lemmas.Option.{none-some, slice_get_within, get_or_from_slice_get}
use Rattle.std.proofs.lemmas.List.{take-append-drop, reverse-reverse, length-map, length-reverse}
use Rattle.std.proofs.lemmas.List.Elements.{All-contains, All-from_recursion}
use Rattle.model.specs.declared.FullNodeId.{FullNodeId}
use Rattle.model.specs.World.{World, children, Place, StandsAt}
use Rattle.model.specs.Forest.{Forest, plant, below, above, IsFormed}
use Rattle.model.specs.Lists.{nodes_of, IsWithin, following_siblings, preceding_siblings, first_child, last_child, deepest_first, deepest_last, deepest_first_child, deepest_last_child}
use Rattle.model.specs.Paths.{depth, index_path, relative_index_path}
use Rattle.model.proofs.Forest.Grown.{below_is, above_child}
use Rattle.model.proofs.Lists.Preorder.{hangs_below, Under, all_under, reverse_cons, indices, path_under}
use Rattle.model.proofs.Lists.Within.{in_preorder}
use Rattle.model.proofs.Members.{contains_cases}

-- ---- siblings

take_here : {A : Type 0} (xs : List A) (i : ℕ) (x : A) → slice_get xs i ≡ Some x → xs ≡ take i xs ++ x ∷ drop (i + 1) xs
take_here xs i x e =
    let here : drop i xs ≡ x ∷ drop (suc i) xs = drop-cons xs i x (slice_get_within xs i x e) ∙ ap (λ y. y ∷ drop (suc i) xs) (get_or_from_slice_get xs i x x e) in
    sym (take-append-drop i xs) ∙ ap (λ ys. take i xs ++ ys) here ∙ ap (λ n. take i xs ++ x ∷ drop n xs) (sym (add-one i))

pub around : (w : World) → IsFormed w → (p : Place) (c : FullNodeId) → StandsAt w p c → children w p.0 ≡ reverse (preceding_siblings w c) ++ c ∷ following_siblings w c
around w formed p c e =
    rw (formed.placed p c e) (take_here (children w p.0) p.1 c e ∙ ap (λ xs. xs ++ c ∷ drop (p.1 + 1) (children w p.0)) (sym (reverse-reverse (take p.1 (children w p.0)))))

-- ---- deepest children

deepest_first-plant : (sub : FullNodeId → Forest) (cs : List FullNodeId) → deepest_first (plant sub cs) ≡ option_map (λ c. unwrap_or (deepest_first (sub c)) c) (slice_get cs 0)
deepest_first-plant sub [] = refl
deepest_first-plant sub (c ∷ cs) = refl

pub deepest_first_is : (w : World) → IsFormed w → (id : FullNodeId) → deepest_first_child w id ≡ option_map (λ c. unwrap_or (deepest_first_child w c) c) (first_child w id)
deepest_first_is w formed id = ap deepest_first (below_is w formed id) ∙ deepest_first-plant (below w) (children w id)

some_or : (o : Option FullNodeId) (x y : FullNodeId) → o ≡ Some x → option_or o (Some y) ≡ Some x
some_or None x y e = absurd (none-some x e)
some_or (Some z) x y e = e

last_there : (sub : FullNodeId → Forest) (c : FullNodeId) (cs : List FullNodeId) → (x : FullNodeId) × (slice_get (c ∷ cs) (length cs) ≡ Some x) × (deepest_last (plant sub (c ∷ cs)) ≡ Some (unwrap_or (deepest_last (sub x)) x))
last_there sub c [] = (c, refl, refl)
last_there sub c (d ∷ cs) =
    let h = last_there sub d cs in
    (h.0, h.1, some_or (deepest_last (plant sub (d ∷ cs))) (unwrap_or (deepest_last (sub h.0)) h.0) (unwrap_or (deepest_last (sub c)) c) h.2)

deepest_last-plant : (sub : FullNodeId → Forest) (cs : List FullNodeId) → deepest_last (plant sub cs) ≡ option_map (λ c. unwrap_or (deepest_last (sub c)) c) (slice_get cs (length cs - 1))
deepest_last-plant sub [] = refl
deepest_last-plant sub (c ∷ cs) =
    let h = last_there sub c cs in
    let end : length (c ∷ cs) - 1 ≡ length cs = omega arith in
    h.2 ∙ ap (option_map (λ x. unwrap_or (deepest_last (sub x)) x)) (sym (ap (slice_get (c ∷ cs)) end ∙ h.1))

pub deepest_last_is : (w : World) → IsFormed w → (id : FullNodeId) → deepest_last_child w id ≡ option_map (λ c. unwrap_or (deepest_last_child w c) c) (last_child w id)
deepest_last_is w formed id = ap deepest_last (below_is w formed id) ∙ deepest_last-plant (below w) (children w id)

-- ---- paths

pub path_length : (w : World) (id : FullNodeId) → length (index_path w id) ≡ depth w id
path_length w id = length-reverse (map (λ (p : Place). p.1) (above w id)) ∙ length-map (above w id) (λ (p : Place). p.1)

pub path_child : (w : World) → IsFormed w → (p : Place) (c : FullNodeId) → StandsAt w p c → index_path w c ≡ index_path w p.0 ++ p.1 ∷ []
path_child w formed p c e = ap (λ ps. reverse (map (λ (q : Place). q.1) ps)) (above_child w formed p c e) ∙ reverse_cons p.1 (map (λ (q : Place). q.1) (above w p.0))

rest_of : (xs ys zs : List ℕ) (n : ℕ) → xs ≡ ys ++ zs → length ys ≡ n → xs ≡ ys ++ drop n xs
rest_of xs ys zs n e l = e ∙ ap (λ us. ys ++ us) (sym (ap (λ us. drop n us) e ∙ ap (λ m. drop m (ys ++ zs)) (sym l) ∙ drop-append_seam ys zs))

pub path_splits : (w : World) → IsFormed w → (first id : FullNodeId) → IsWithin w first id → index_path w id ≡ index_path w first ++ relative_index_path w first id
path_splits w formed first id (inl same) = rest_of (index_path w id) (index_path w first) [] (depth w first) (ap (index_path w) same ∙ sym (append-nil (index_path w first))) (path_length w first)
path_splits w formed first id (inr m) =
    elim (contains_cases first id (nodes_of (below w first)) ((in_preorder w formed first id).1 (inr m))) [
      | inl same ↦ rest_of (index_path w id) (index_path w first) [] (depth w first) (ap (index_path w) (sym same) ∙ sym (append-nil (index_path w first))) (path_length w first)
      | inr r ↦
          let u : Under w first 0 id = All-contains (Under w first 0) (nodes_of (below w first)) id (All-from_recursion (Under w first 0) (nodes_of (below w first)) (all_under w formed first 0 (below w first) (hangs_below w first))) r in
          rest_of (index_path w id) (index_path w first) (u.index ∷ reverse (indices u.inner)) (depth w first) (path_under w first 0 id u) (path_length w first)
    ]
