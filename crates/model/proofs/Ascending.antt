-- Ascending lists: there is only one of given members.
use Rattle.std.proofs.Common.{◌≡◌, List, [], ◌∷◌, ◌⊎◌, inl, inr, refl, sym, ap, subst, ◌∙◌}
use Rattle.std.specs.List.{Contains}
use Rattle.std.specs.List.Sorted.{IsStrictlySortedBy}
use Rattle.std.specs.declared.cmp.Ordering.{Ordering}
use Rattle.std.specs.declared.cmp.Ordering.TheVariants.{Less, Greater}
use Rattle.std.specs.Ordering.{ordering_reverse}
use Rattle.std.specs.Cmp.{IsTotalOrder}
use Rattle.std.proofs.lemmas.List.Elements.{All-contains}
use Rattle.std.proofs.lemmas.Map.Keys.{sorted_tail}
use Rattle.std.proofs.lemmas.Map.Views.{All-after_first}
use Rattle.model.specs.declared.FullNodeId.{FullNodeId}
use Rattle.model.specs.FullIds.{full_total}
use Rattle.model.specs.Differences.{IsAscendingListOf}
use Rattle.model.proofs.Members.{contains_none, contains_first, contains_later, contains_cases}

module _ {K : Type 0} {R : K → K → Ordering} (o : IsTotalOrder R) where
  after_first : (x y : K) (xs : List K) → IsStrictlySortedBy R (x ∷ xs) → Contains xs y → R x y ≡ Less
  after_first x y xs s h = All-contains (λ q. R x q ≡ Less) xs y (All-after_first R x xs s) h

  not_both : (x y : K) → R x y ≡ Less → R y x ≡ Less → ⊥
  not_both x y a b = let c : R x y ≡ Greater = o.antisymm x y ∙ ap ordering_reverse b in cc

  not_itself : (x y : K) → x ≡ y → R x y ≡ Less → ⊥
  not_itself x y e a = let b : R x x ≡ Less = subst (λ z. R x z ≡ Less) (sym e) a in not_both x x b b

  same_first : (x y : K) (xs ys : List K) → IsStrictlySortedBy R (x ∷ xs) → IsStrictlySortedBy R (y ∷ ys) → (y ≡ x) ⊎ Contains ys x → (x ≡ y) ⊎ Contains xs y → x ≡ y
  same_first x y xs ys s t (inl e) h = sym e
  same_first x y xs ys s t (inr g) (inl e) = e
  same_first x y xs ys s t (inr g) (inr h) = absurd (not_both x y (after_first x y xs s h) (after_first y x ys t g))

  in_rest : (x y z : K) (xs ys : List K) → IsStrictlySortedBy R (x ∷ xs) → x ≡ y → Contains xs z → (y ≡ z) ⊎ Contains ys z → Contains ys z
  in_rest x y z xs ys s e h (inl f) = absurd (not_itself x z (e ∙ f) (after_first x z xs s h))
  in_rest x y z xs ys s e h (inr g) = g

  pub sorted_same : (xs ys : List K) → IsStrictlySortedBy R xs → IsStrictlySortedBy R ys → ((z : K) → Contains xs z → Contains ys z) → ((z : K) → Contains ys z → Contains xs z) → xs ≡ ys
  sorted_same [] [] s t f g = refl
  sorted_same [] (y ∷ ys) s t f g = absurd (contains_none y (g y (contains_first y ys)))
  sorted_same (x ∷ xs) [] s t f g = absurd (contains_none x (f x (contains_first x xs)))
  sorted_same (x ∷ xs) (y ∷ ys) s t f g =
      let first : x ≡ y = same_first x y xs ys s t (contains_cases y x ys (f x (contains_first x xs))) (contains_cases x y xs (g y (contains_first y ys))) in
      let rest : xs ≡ ys = sorted_same xs ys (sorted_tail R x xs s) (sorted_tail R y ys t)
      (λ z h. in_rest x y z xs ys s first h (contains_cases y z ys (f z (contains_later x z xs h))))
      (λ z h. in_rest y x z ys xs t (sym first) h (contains_cases x z xs (g z (contains_later y z ys h)))) in
      cc

pub ascending_list_unique : (P : FullNodeId → Type 0) (xs ys : List FullNodeId) → IsAscendingListOf P xs → IsAscendingListOf P ys → xs ≡ ys
ascending_list_unique P xs ys h g =
    sorted_same full_total xs ys h.ascending g.ascending (λ z c. (g.members z).1 ((h.members z).0 c)) (λ z c. (h.members z).1 ((g.members z).0 c))
