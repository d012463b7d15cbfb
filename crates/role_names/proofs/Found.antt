-- What is known of an element that a search finds.
use Rattle.std.proofs.Common.{◌≡◌, List, [], ◌∷◌, map, Some, refl, subst}
use Rattle.std.specs.Prelude.{Bool, true, false, ◌&&◌, cond, option_map, find}
use Rattle.std.specs.List.{list_all}
use Rattle.std.proofs.lemmas.Option.{same_Some}

-- a search among what a function makes of elements
pub found_of : {A B : Type 0} (f : A → B) (p : B → Bool) (xs : List A) → option_map f (find (λ x. p (f x)) xs) ≡ find p (map f xs)
found_of f p [] = refl
found_of f p (x ∷ xs) =
    elim (p (f x)) as (λ b. option_map f (cond b (Some x) (find (λ x. p (f x)) xs)) ≡ cond b (Some (f x)) (find p (map f xs))) [
      | true ↦ refl
      | false ↦ found_of f p xs
    ]

and_parts : (a b : Bool) → a && b ≡ true → (a ≡ true) × (b ≡ true)
and_parts true b both = (refl, both)
and_parts false b both = absurd (cc)

-- an element that is found is the first one, or is found after that
here_or_later : {A : Type 0} (q p : A → Bool) (x : A) (xs : List A) (e : A) (b : Bool) → p x ≡ b → q x ≡ true → (find p xs ≡ Some e → (q e ≡ true) × (p e ≡ true)) →
    cond b (Some x) (find p xs) ≡ Some e → (q e ≡ true) × (p e ≡ true)
here_or_later {A} q p x xs e true is here later found = subst (λ (y : A). (q y ≡ true) × (p y ≡ true)) (same_Some x e found) (here, is)
here_or_later q p x xs e false is here later found = later found

-- it passes, and so does it a test that each element passes
pub found_has : {A : Type 0} (q p : A → Bool) (xs : List A) (e : A) → list_all q xs ≡ true → find p xs ≡ Some e → (q e ≡ true) × (p e ≡ true)
found_has q p [] e all found = absurd (cc)
found_has q p (x ∷ xs) e all found =
    let both = and_parts (q x) (list_all q xs) all in
    here_or_later q p x xs e (p x) refl both.0 (found_has q p xs e both.1) found
