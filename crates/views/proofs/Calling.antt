-- A writer is called again and again.
use Rattle.std.proofs.Common.{◌≡◌, ℕ, suc, ◌+◌, ◌-◌, ◌<◌, ◌≤◌, arith, Bool, true, false, List, [], ◌∷◌, ◌++◌, append_assoc, append-nil, refl, sym, ◌∙◌, ap, subst}
use Rattle.std.specs.Prelude.{Result, Ok, Err, OnOk, OnErr, is_ok}
use Rattle.std.specs.List.{FoldsTo}
use Rattle.schema.specs.TextCalls.{TextCall, WithCharacter}
use Rattle.views.specs.Writes.{IsCalled, IsCalledTillFault, IsCalledBy, bullet_calls}

folds_on : {P A : Type 0} (R : P → A → P → Type 0) (p q r : P) (xs ys : List A) → FoldsTo R p xs q → FoldsTo R q ys r → FoldsTo R p (xs ++ ys) r
folds_on R p q r [] ys e g = subst (λ u. FoldsTo R u ys r) (sym e) g
folds_on R p q r (x ∷ xs) ys (j, step, f) g = (j, step, folds_on R j q r xs ys f g)

module _ {W : Type 0} (steps : W → TextCall → Bool → W → Type 0) where
  -- the calls before these last ones were made, and each was taken
  pub record IsCalledUpTo (calls rest : List TextCall) (old new : W) : Type 0 where
    pub front : List TextCall
    pub whole : front ++ rest ≡ calls
    pub taken : IsCalled steps front old new

  -- one call
  pub one_taken : {old new : W} (call : TextCall) → steps old call true new → IsCalled steps (call ∷ []) old new
  one_taken {new = new} call h = (new, h, refl)

  pub one_failed : {old new : W} (call : TextCall) → steps old call false new → IsCalledTillFault steps (call ∷ []) old new
  one_failed {old = old} call h = record { front = []; call = call; missing = []; whole = refl; before = old; taken = refl; failed = h }

  pub begins : (calls : List TextCall) (w : W) → IsCalledUpTo calls calls w w
  begins calls w = record { front = []; whole = refl; taken = refl }

  pub called_on : (part : List TextCall) {calls rest : List TextCall} {old mid new : W} → IsCalledUpTo calls (part ++ rest) old mid → IsCalled steps part mid new → IsCalledUpTo calls rest old new
  called_on part {rest = rest} {old = old} {mid = mid} {new = new} way more = record {
    front = way.front ++ part;
    whole = append_assoc way.front part rest ∙ way.whole;
    taken = folds_on (λ w call v. steps w call true v) old mid new way.front part way.taken more;
  }

  pub broken_off : (part rest : List TextCall) {calls : List TextCall} {old mid new : W} → IsCalledUpTo calls (part ++ rest) old mid → IsCalledTillFault steps part mid new → IsCalledTillFault steps calls old new
  broken_off part rest {old = old} {mid = mid} way cut = record {
    front = way.front ++ cut.front;
    call = cut.call;
    missing = cut.missing ++ rest;
    whole = append_assoc way.front cut.front (cut.call ∷ cut.missing ++ rest)
        ∙ ap (λ xs. way.front ++ xs) (sym (append_assoc cut.front (cut.call ∷ cut.missing) rest) ∙ ap (λ xs. xs ++ rest) cut.whole) ∙ way.whole;
    before = cut.before;
    taken = folds_on (λ w call v. steps w call true v) old mid cut.before way.front cut.front way.taken cut.taken;
    failed = cut.failed;
  }

  pub all_called : {calls : List TextCall} {old new : W} → IsCalledUpTo calls [] old new → IsCalled steps calls old new
  all_called {old = old} {new = new} way = subst (λ xs. IsCalled steps xs old new) (sym (append-nil way.front) ∙ way.whole) way.taken

  -- another name for the rest
  pub left_is : {calls rest other : List TextCall} {old new : W} → rest ≡ other → IsCalledUpTo calls rest old new → IsCalledUpTo calls other old new
  left_is {calls = calls} {old = old} {new = new} e way = subst (λ r. IsCalledUpTo calls r old new) e way

-- another name for the calls
module _ {W A E : Type 0} (steps : W → TextCall → Bool → W → Type 0) (old new : W) (r : Result A E) {calls other : List TextCall} where
  pub called_as : calls ≡ other → OnOk r (IsCalled steps calls old new) → OnOk r (IsCalled steps other old new)
  called_as e h = subst (λ c. OnOk r (IsCalled steps c old new)) e h

  pub broken_off_as : calls ≡ other → OnErr r (IsCalledTillFault steps calls old new) → OnErr r (IsCalledTillFault steps other old new)
  broken_off_as e h = subst (λ c. OnErr r (IsCalledTillFault steps c old new)) e h

  pub calls_as : calls ≡ other → IsCalledBy steps r calls old new → IsCalledBy steps r other old new
  calls_as e h = subst (λ c. IsCalledBy steps r c old new) e h

-- one call, by its result
module _ {W A E : Type 0} (steps : W → TextCall → Bool → W → Type 0) (old new : W) (call : TextCall) where
  pub taken_by : (r : Result A E) → steps old call (is_ok r) new → OnOk r (IsCalled steps (call ∷ []) old new)
  taken_by (Ok x) h = one_taken steps call h
  taken_by (Err e) h = tt

  pub failed_by : (r : Result A E) → steps old call (is_ok r) new → OnErr r (IsCalledTillFault steps (call ∷ []) old new)
  failed_by (Ok x) h = tt
  failed_by (Err e) h = one_failed steps call h

  pub one_call : (r : Result A E) → steps old call (is_ok r) new → IsCalledBy steps r (call ∷ []) old new
  one_call r h = record { called = taken_by r h; stopped = failed_by r h }

-- ---- bullets

pub bullet_calls_left : (n i : ℕ) → i < n → bullet_calls (n - i) ≡ WithCharacter 8226 ∷ bullet_calls (n - (i + 1))
bullet_calls_left n i h = let e : n - i ≡ suc (n - (i + 1)) = omega (arith, h) in ap bullet_calls e

pub no_bullet_calls : (n i : ℕ) → n ≤ i → bullet_calls (n - i) ≡ []
no_bullet_calls n i h = let e : n - i ≡ 0 = omega (arith, h) in ap bullet_calls e
