-- From graft to graft no way is longer than there are names, where the grafts have their names apart and none grafts the root tree.
use Rattle.std.proofs.Common.{◌≡◌, ◌≢◌, ℕ, suc, ◌<◌, ◌≤◌, true, false, List, [], ◌∷◌, length, eqb, Some, refl, sym, ap, ◌∙◌, subst, ⊎_elim, arith}
use Rattle.std.specs.List.{IsDistinct, list_any, AllByRecursion}
use Rattle.std.proofs.lemmas.Bool.{eqb-true, ne_eqb, or_cases}
use Rattle.std.proofs.lemmas.Option.{slice_get_within}
use Rattle.std.proofs.lemmas.Map.Steps.{length-le_from_distinct_below}
use Rattle.schema.specs.declared.TreeId.{TreeId}
use Rattle.model.specs.declared.FullNodeId.{FullNodeId}
use Rattle.model.specs.World.{World, index_of, graft_name, root_named}
use Rattle.model.specs.Surgery.{IsDeep, top, inside}
use Rattle.model.proofs.Worlds.Names.{known-index_of, index_of_once}
use Rattle.model.proofs.State.StatePlaces.{root_named_parts}

-- trees, the last first, each one graft further away than the one before it
data IsTrail (v : World) (G : FullNodeId → Type 0) : List ℕ → Type 0 where
  start : IsTrail v G []
  more : (i : ℕ) (xs : List ℕ) → IsDeep v G i (length xs) → IsTrail v G xs → IsTrail v G (i ∷ xs)

module _ (v : World) (G : FullNodeId → Type 0)
    (rooted : (g : FullNodeId) (name : TreeId) → G g → graft_name v g ≡ Some name → index_of v name ≢ Some 0)
    (once : (a b : FullNodeId) (name : TreeId) → G a → G b → graft_name v a ≡ Some name → graft_name v b ≡ Some name → a ≡ b) where
  never_top : (g inner : FullNodeId) (name : TreeId) → G g → graft_name v g ≡ Some name → root_named v name ≡ Some inner → inner.tree ≢ 0
  never_top g inner name among grafts named is = rooted g name among grafts ((root_named_parts v name inner named).0 ∙ ap Some is)

  deep_once : (i n j m : ℕ) → IsDeep v G i n → IsDeep v G j m → i ≡ j → n ≡ m
  deep_once i n j m top top same = refl
  deep_once i n j m top (inside g inner name k among deep grafts named) same = absurd (never_top g inner name among grafts named (sym same))
  deep_once i n j m (inside g inner name k among deep grafts named) top same = absurd (never_top g inner name among grafts named same)
  deep_once i n j m (inside a x p k among deep grafts named) (inside b y q l among' deep' grafts' named') same =
      let name : p ≡ q = index_of_once v p q x.tree (root_named_parts v p x named).0 ((root_named_parts v q y named').0 ∙ ap Some (sym same)) in
      let graft : a ≡ b = once a b q among among' (grafts ∙ ap Some name) grafts' in
      ap suc (deep_once a.tree k b.tree l deep deep' (ap (λ g. g.tree) graft))

  in_trail : (xs : List ℕ) (q : ℕ) → IsTrail v G xs → list_any (eqb q) xs ≡ true → (n : ℕ) × (n < length xs) × IsDeep v G q n
  in_trail xs q start is = cc
  in_trail xs q (more i ys deep trail) is = ⊎_elim
      (λ e. (length ys, omega arith, subst (λ k. IsDeep v G k (length ys)) (sym (eqb-true q i e)) deep))
      (λ e. let f = in_trail ys q trail e in (f.0, omega (arith, f.1), f.2))
      (or_cases (eqb q i) (list_any (eqb q) ys) is)

  new_in_trail : (i n : ℕ) (xs : List ℕ) → IsDeep v G i n → length xs ≤ n → IsTrail v G xs → AllByRecursion (λ y. eqb i y ≡ false) xs
  new_in_trail i n xs deep far start = tt
  new_in_trail i n xs deep far (more j ys deep' trail) =
      (ne_eqb i j (λ same. let e : n ≡ length ys = deep_once i n j (length ys) deep deep' same in omega arith), new_in_trail i n ys deep (omega arith) trail)

  trail_distinct : (xs : List ℕ) → IsTrail v G xs → IsDistinct eqb xs
  unfolding IsDistinct
  trail_distinct xs start = tt
  trail_distinct xs (more i ys deep trail) = (new_in_trail i (length ys) ys deep (omega arith) trail, trail_distinct ys trail)

  deep_known : 0 < length v.known → (i n : ℕ) → IsDeep v G i n → i < length v.known
  deep_known some i n top = some
  deep_known some i n (inside g inner name k among deep grafts named) = slice_get_within v.known inner.tree name (known-index_of v name inner.tree (root_named_parts v name inner named).0)

  trail_of : (i n : ℕ) → IsDeep v G i n → (xs : List ℕ) × (length xs ≡ n) × IsTrail v G xs
  trail_of i n top = ([], refl, start)
  trail_of i n (inside g inner name k among deep grafts named) =
      let f = trail_of g.tree k deep in
      (g.tree ∷ f.0, ap suc f.1, more g.tree f.0 (subst (IsDeep v G g.tree) (sym f.1) deep) f.2)

  -- a tree is fewer grafts away from the root tree than there are names
  pub deep_short : 0 < length v.known → (i n : ℕ) → IsDeep v G i n → n < length v.known
  deep_short some i n deep =
      let f = trail_of i n deep in
      let trail : IsTrail v G (i ∷ f.0) = more i f.0 (subst (IsDeep v G i) (sym f.1) deep) f.2 in
      let short : length (i ∷ f.0) ≤ length v.known = length-le_from_distinct_below (i ∷ f.0) (length v.known) (trail_distinct (i ∷ f.0) trail) (λ q is. let h = in_trail (i ∷ f.0) q trail is in deep_known some q h.0 h.2) in
      let same : length f.0 ≡ n = f.1 in
      omega arith
