-- A line without its end.
use Rattle.std.proofs.Common.{◌≡◌, ◌≢◌, ℕ, ◌+◌, ◌-◌, ◌<◌, List, [], ◌∷◌, ◌++◌, length, slice_index, take, Bool, true, false, true≢false, nat_lt, ◌==◌, Bor, Option, Some, None, IfSome, MatchOption, length-append, arith, eqb-true, eq-eqb, refl, sym, ap, ◌∙◌, ⊎_elim, take_all}
use Rattle.std.specs.Option.{unwrap_or}
use Rattle.std.specs.Io.BufRead.{ends_with_byte, strip_last, take_through}
use Rattle.std.proofs.BufReadLemmas.{take_through-nil}
use Rattle.std.proofs.Math.Seq.{get_or-append_seam}
use Rattle.std.proofs.lemmas.Bool.{and_parts, cases_Bool, cond-true, cond-false}
use Rattle.std.proofs.lemmas.Bool.Decides.{nat_tests}
use Rattle.std.proofs.lemmas.List.{take_more}
use lib.Seq.{take-append_seam}

ends_with_pushed : (c : ℕ) (front : List ℕ) → ends_with_byte c (front ++ c ∷ []) ≡ true
ends_with_pushed c front =
    let long : length (front ++ c ∷ []) - 1 ≡ length front = omega (arith, length-append front (c ∷ [])) in
    let some : nat_lt 0 (length (front ++ c ∷ [])) ≡ true = grind (arith, nat_tests, length-append front (c ∷ [])) in
    let last : slice_index (front ++ c ∷ []) (length (front ++ c ∷ []) - 1) ≡ c = ap (λ k. slice_index (front ++ c ∷ []) k) long ∙ get_or-append_seam front c [] 0 in
    rw some (eq-eqb _ _ last)

pub strip_pushed : (c : ℕ) (front : List ℕ) → strip_last c (front ++ c ∷ []) ≡ front
strip_pushed c front =
    let long : length (front ++ c ∷ []) - 1 ≡ length front = omega (arith, length-append front (c ∷ [])) in
    cond-true _ _ _ (ends_with_pushed c front) ∙ ap (λ k. take k (front ++ c ∷ [])) long ∙ take-append_seam front (c ∷ [])

pushed : (c : ℕ) (xs : List ℕ) → ends_with_byte c xs ≡ true → xs ≡ take (length xs - 1) xs ++ c ∷ []
pushed c xs t =
    let k = and_parts (nat_lt 0 (length xs)) (slice_index xs (length xs - 1) == c) t in
    let some : 0 < length xs = grind (arith, nat_tests, k.0) in
    sym (take_all (length xs - 1 + 1) xs (omega arith)) ∙ take_more xs (length xs - 1) 0 (omega arith) ∙ ap (λ x. take (length xs - 1) xs ++ x ∷ []) (eqb-true _ _ k.1)

pub strip_kept : (c : ℕ) (xs : List ℕ) → ((front : List ℕ) → xs ≢ front ++ c ∷ []) → strip_last c xs ≡ xs
strip_kept c xs none = ⊎_elim (λ t. absurd (none (take (length xs - 1) xs) (pushed c xs t))) (λ f. cond-false _ _ _ f) (cases_Bool (ends_with_byte c xs))

-- what `strip_suffix` and `unwrap_or` leave of a line
pub stripped : (c : ℕ) (line rest : Bor (List ℕ)) (r : Option (Bor (List ℕ))) → MatchOption r ((front : List ℕ) → line.now ≢ front ++ c ∷ []) (λ x. line.now ≡ x.now ++ c ∷ []) → rest ≡ unwrap_or r line → rest.now ≡ strip_last c line.now
stripped c line rest None none e = ap (λ (b : Bor (List ℕ)). b.now) e ∙ sym (strip_kept c line.now none)
stripped c line rest (Some x) some e = ap (λ (b : Bor (List ℕ)). b.now) e ∙ sym (ap (strip_last c) some ∙ strip_pushed c x.now)

-- a line without bytes stands at the end of the input
pub none_read : (left : Option (List ℕ)) (line : List ℕ) → IfSome left (λ bytes. line ≡ take_through 10 bytes) → line ≡ [] → IfSome left (λ bytes. bytes ≡ [])
none_read None line h e = tt
none_read (Some bytes) line h e = take_through-nil 10 bytes (ap length (sym h ∙ e))

-- as `is_empty` has it
pub some_items : (items : List ℕ) (n : ℕ) (b : Bool) → n ≡ length items → b ≡ (n == 0) → b ≡ false → items ≢ []
some_items [] n b l e f none = let same : (n == 0) ≡ true = eq-eqb n 0 l in absurd (true≢false (sym same ∙ sym e ∙ f))
some_items (x ∷ xs) n b l e f none = cc

pub no_items : (items : List ℕ) (n : ℕ) (b : Bool) → n ≡ length items → b ≡ (n == 0) → b ≡ true → items ≡ []
no_items [] n b l e t = refl
no_items (x ∷ xs) n b l e t = let none : n ≡ 0 = eqb-true n 0 (sym e ∙ t) in absurd (omega (arith, l, none))
