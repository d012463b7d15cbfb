-- The values of a list after one of them is set, and the last one of a list.
use Rattle.std.proofs.Common.{◌≡◌, ◌≢◌, ◌<◌, ◌≤◌, ℕ, length, List, [], ◌∷◌, ◌++◌, Some, ap, sym, ◌∙◌, slice_get, slice_set, arith, length-append, subst, ⊎_elim}
use Rattle.std.proofs.Math.Seq.{get_or-append_seam}
use Rattle.std.proofs.lemmas.Option.{slice_get_past, slice_get-get_or}
use Rattle.std.proofs.lemmas.Bool.{cases_lt}
use Rattle.std.proofs.lemmas.List.{get_or-set_same, get_or-set_other, length-set}

pub last_of : {X : Type 0} → (rest : List X) (last : X) → slice_get (rest ++ last ∷ []) (length rest) ≡ Some last
last_of rest last = slice_get-get_or (rest ++ last ∷ []) (length rest) last (omega (arith, length-append rest (last ∷ []))) ∙ ap Some (get_or-append_seam rest last [] last)

pub set_here : {X : Type 0} → (xs : List X) (m : ℕ) (x : X) → m < length xs → slice_get (slice_set xs m x) m ≡ Some x
set_here xs m x low = slice_get-get_or (slice_set xs m x) m x (subst (λ n. m < n) (sym (length-set xs m x)) low) ∙ ap Some (get_or-set_same xs m x x low)

pub set_there : {X : Type 0} → (xs : List X) (m k : ℕ) (x : X) → k ≢ m → slice_get (slice_set xs m x) k ≡ slice_get xs k
set_there xs m k x other = ⊎_elim
    (λ low. slice_get-get_or (slice_set xs m x) k x (subst (λ n. k < n) (sym (length-set xs m x)) low) ∙ ap Some (get_or-set_other xs m k x x other) ∙ sym (slice_get-get_or xs k x low))
    (λ high. slice_get_past (slice_set xs m x) k (subst (λ n. n ≤ k) (sym (length-set xs m x)) high) ∙ sym (slice_get_past xs k high))
    (cases_lt k (length xs))
