-- A text with a bracket at its end.
use Rattle.std.proofs.Common.{◌≡◌, ◌≢◌, ℕ, List, [], ◌∷◌, ◌++◌, Bor, Option, Some, None, MatchOption, IsSomeAnd, sym, ◌∙◌}
use Rattle.std.proofs.lemmas.List.{same_from_push}

-- what stands before it
pub before_bracket : (inner text : List ℕ) (r : Option (Bor (List ℕ))) → text ≡ inner ++ 41 ∷ []
    → MatchOption r ((front : List ℕ) → text ≢ front ++ 41 ∷ []) (λ x. text ≡ x.now ++ 41 ∷ []) → IsSomeAnd r (λ x. x.now ≡ inner)
before_bracket inner text None e h = absurd (h inner e)
before_bracket inner text (Some x) e h = (same_from_push x.now inner 41 41 (sym h ∙ e)).0
