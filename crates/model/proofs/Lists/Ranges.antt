-- Lists at an index that is there, and their ranges.
use Rattle.std.proofs.Common.{◌≡◌, ℕ, ◌+◌, ◌-◌, ◌<◌, List, [], ◌∷◌, ◌++◌, length, get_or, take, drop, suc, refl, sym, ◌∙◌, ap, arith, add-one}
use Rattle.std.specs.Prelude.{Some, slice_get, slice_range}
use Rattle.std.proofs.Math.Seq.{drop-cons, take-suc}
use Rattle.std.proofs.lemmas.Option.{slice_get_within, get_or_from_slice_get}
use Rattle.std.proofs.lemmas.List.{get_or-drop, length-drop}

pub drop_at : {A : Type 0} (xs : List A) (i : ℕ) (c : A) → slice_get xs i ≡ Some c → drop i xs ≡ c ∷ drop (i + 1) xs
drop_at xs i c e = drop-cons xs i c (slice_get_within xs i c e) ∙ ap (λ x. x ∷ drop (suc i) xs) (get_or_from_slice_get xs i c c e) ∙ ap (λ n. c ∷ drop n xs) (sym (add-one i))

pub take_at : {A : Type 0} (xs : List A) (i : ℕ) (c : A) → slice_get xs i ≡ Some c → take (i + 1) xs ≡ take i xs ++ c ∷ []
take_at xs i c e = rw add-one (take-suc xs i c (slice_get_within xs i c e) ∙ ap (λ x. take i xs ++ x ∷ []) (get_or_from_slice_get xs i c c e))

pub behind : {A : Type 0} (xs : List A) (c : A) (ys : List A) → slice_get (xs ++ c ∷ ys) (length xs) ≡ Some c
behind [] c ys = refl
behind (x ∷ xs) c ys = behind xs c ys

pub none_between : {A : Type 0} (xs : List A) (n : ℕ) → slice_range xs n n ≡ []
none_between xs n = let zero_long : n - n ≡ 0 = omega arith in ap (λ k. take k (drop n xs)) zero_long

first_of_two : {A : Type 0} (n m : ℕ) (xs ys : List A) (c : A) → n ≡ suc m → xs ≡ c ∷ ys → take n xs ≡ c ∷ take m ys
first_of_two n m xs ys c p q = rw (p, q) refl

pub range_first : {A : Type 0} (xs : List A) (a b : ℕ) (c : A) → a < b → slice_get xs a ≡ Some c → slice_range xs a b ≡ c ∷ slice_range xs (a + 1) b
range_first xs a b c h e = first_of_two (b - a) (b - (a + 1)) (drop a xs) (drop (a + 1) xs) c (omega arith) (drop_at xs a c e)

pub range_last : {A : Type 0} (xs : List A) (a b : ℕ) (c : A) → a < b → slice_get xs (b - 1) ≡ Some c → slice_range xs a b ≡ slice_range xs a (b - 1) ++ c ∷ []
range_last xs a b c h e =
    let m : ℕ = b - 1 - a in
    let n : b - a ≡ suc m = omega arith in
    let within : b - 1 < length xs = slice_get_within xs (b - 1) c e in
    let here : get_or (drop a xs) m c ≡ c = get_or-drop a xs m c ∙ ap (λ n. get_or xs n c) (let k : a + m ≡ b - 1 = omega arith in k) ∙ get_or_from_slice_get xs (b - 1) c c e in
    rw n (take-suc (drop a xs) m c (omega (arith, length-drop a xs)) ∙ ap (λ x. take m (drop a xs) ++ x ∷ []) here)
