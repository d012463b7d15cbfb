-- A field that has a list, by whether it is there.
use Rattle.std.proofs.Common.{◌≡◌, ◌==◌, ◌↔◌, List, [], ◌∷◌, length, Bool, true, false, true≢false, Option, None, ap, arith, refl, sym, ◌∙◌}
use Rattle.std.proofs.lemmas.Bool.Decides.{nat_tests}
use Rattle.script_nodes.specs.FieldMeaning.{once_listed}

pub listed_given : {T M : Type 0} (has : List T) (meant : Option M) → (length has == 0) ≡ false → once_listed has meant ≡ None
unfolding once_listed
listed_given [] meant e = absurd (grind (arith, nat_tests, e))
listed_given (item ∷ others) meant e = refl

pub listed_free : {T M : Type 0} (has : List T) (meant : Option M) → (length has == 0) ≡ true → once_listed has meant ≡ meant
unfolding once_listed
listed_free [] meant e = refl
listed_free (item ∷ others) meant e = absurd (grind (arith, nat_tests, e))

-- by whether a set has actions, as `is_in` has it
pub set_given : {T M : Type 0} (has : List T) (meant : Option M) (is_in : Bool) → (is_in ≡ false) ↔ (has ≡ []) → is_in ≡ true → once_listed has meant ≡ None
unfolding once_listed
set_given [] meant is_in exact t = absurd (true≢false (sym t ∙ exact.1 refl))
set_given (item ∷ others) meant is_in exact t = refl

pub set_free : {T M : Type 0} (has : List T) (meant : Option M) (is_in : Bool) → (is_in ≡ false) ↔ (has ≡ []) → is_in ≡ false → once_listed has meant ≡ meant
unfolding once_listed
set_free has meant is_in exact f = ap (λ xs. once_listed xs meant) (exact.0 f)
