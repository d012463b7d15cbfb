-- A text is written part by part.
use Rattle.std.proofs.Common.{◌≡◌, ℕ, suc, ◌+◌, ◌-◌, ◌<◌, ◌≤◌, arith, List, [], ◌++◌, append_assoc, append-nil, refl, sym, ◌∙◌, ap, subst}
use Rattle.std.specs.Prelude.{Result, Ok, Err, OnOk, OnErr}
use Rattle.std.proofs.lemmas.Result.{on_ok_weaker, on_err_weaker}
use Rattle.model.specs.FlatText.{BULLET}
use Rattle.model.specs.Values.{bullets}
use Rattle.views.specs.Writes.{IsWritten, IsCutShort, IsUnderWay}

-- what is said of a fault holds where it holds anyway
pub err_with : {A E P : Type 0} (r : Result A E) → P → OnErr r P
err_with (Ok x) p = tt
err_with (Err e) p = p

module _ {W : Type 0} {received : W → List ℕ} {faults : W → ℕ} where
  -- what a call of a writer says
  pub all_taken : {text : List ℕ} {old new : W} → (received new ≡ received old ++ text) × (faults new ≡ faults old) → IsWritten received faults text old new
  all_taken h = record { has = h.0; failed = h.1 }

  pub none_taken : {text : List ℕ} {old new : W} → (received new ≡ received old) × (faults new ≡ faults old + 1) → IsCutShort received faults text old new
  none_taken {text = text} {old = old} h = record { front = []; missing = text; whole = refl; has = h.0 ∙ sym (append-nil (received old)); failed = h.1 }

  pub starts : (text : List ℕ) (w : W) → IsUnderWay received faults text text w w
  starts text w = record { front = []; whole = refl; written = record { has = sym (append-nil (received w)); failed = refl } }

  pub goes_on : {text rest part : List ℕ} {old mid new : W} → IsUnderWay received faults text (part ++ rest) old mid → IsWritten received faults part mid new → IsUnderWay received faults text rest old new
  goes_on {rest = rest} {part = part} {old = old} way more = record {
    front = way.front ++ part;
    whole = append_assoc way.front part rest ∙ way.whole;
    written = record {
      has = more.has ∙ ap (λ xs. xs ++ part) way.written.has ∙ append_assoc (received old) way.front part;
      failed = more.failed ∙ way.written.failed;
    };
  }

  pub stops : (part rest : List ℕ) {text : List ℕ} {old mid new : W} → IsUnderWay received faults text (part ++ rest) old mid → IsCutShort received faults part mid new → IsCutShort received faults text old new
  stops part rest {old = old} way cut = record {
    front = way.front ++ cut.front;
    missing = cut.missing ++ rest;
    whole = append_assoc way.front cut.front (cut.missing ++ rest) ∙ ap (λ xs. way.front ++ xs) (sym (append_assoc cut.front cut.missing rest) ∙ ap (λ xs. xs ++ rest) cut.whole) ∙ way.whole;
    has = cut.has ∙ ap (λ xs. xs ++ cut.front) way.written.has ∙ append_assoc (received old) way.front cut.front;
    failed = cut.failed ∙ ap (λ n. n + 1) way.written.failed;
  }

  pub ends : {text : List ℕ} {old new : W} → IsUnderWay received faults text [] old new → IsWritten received faults text old new
  ends {old = old} {new = new} way = subst (λ t. IsWritten received faults t old new) (sym (append-nil way.front) ∙ way.whole) way.written

  -- another name for the rest
  pub rest_is : {text rest other : List ℕ} {old new : W} → rest ≡ other → IsUnderWay received faults text rest old new → IsUnderWay received faults text other old new
  rest_is {text = text} {old = old} {new = new} e way = subst (λ r. IsUnderWay received faults text r old new) e way

  pub nothing_written : (w : W) → IsWritten received faults [] w w
  nothing_written w = record { has = sym (append-nil (received w)); failed = refl }

  -- another name for the text
  pub text_is : {text other : List ℕ} {old new : W} → text ≡ other → IsWritten received faults text old new → IsWritten received faults other old new
  text_is {old = old} {new = new} e h = subst (λ t. IsWritten received faults t old new) e h

  pub cut_is : {text other : List ℕ} {old new : W} → text ≡ other → IsCutShort received faults text old new → IsCutShort received faults other old new
  cut_is {old = old} {new = new} e h = subst (λ t. IsCutShort received faults t old new) e h

  -- the last part
  pub last_written : {text rest : List ℕ} {old mid : W} → IsUnderWay received faults text rest old mid → {A E : Type 0} (r : Result A E) (new : W) → OnOk r (IsWritten received faults rest mid new) → OnOk r (IsWritten received faults text old new)
  last_written {rest = rest} way r new h = on_ok_weaker r (λ k. ends (goes_on (rest_is (sym (append-nil rest)) way) k)) h

  pub last_cut_short : {text rest : List ℕ} {old mid : W} → IsUnderWay received faults text rest old mid → {A E : Type 0} (r : Result A E) (new : W) → OnErr r (IsCutShort received faults rest mid new) → OnErr r (IsCutShort received faults text old new)
  last_cut_short {rest = rest} way r new h = on_err_weaker r (λ k. stops rest [] (rest_is (sym (append-nil rest)) way) k) h

-- another name for the text of a call
module _ {W A E : Type 0} (received : W → List ℕ) (faults : W → ℕ) (old new : W) (r : Result A E) {text other : List ℕ} where
  pub written_as : text ≡ other → OnOk r (IsWritten received faults text old new) → OnOk r (IsWritten received faults other old new)
  written_as e h = subst (λ t. OnOk r (IsWritten received faults t old new)) e h

  pub cut_short_as : text ≡ other → OnErr r (IsCutShort received faults text old new) → OnErr r (IsCutShort received faults other old new)
  cut_short_as e h = subst (λ t. OnErr r (IsCutShort received faults t old new)) e h

  pub taken_as : text ≡ other → OnOk r ((received new ≡ received old ++ text) × (faults new ≡ faults old)) → OnOk r (IsWritten received faults other old new)
  taken_as e h = written_as e (on_ok_weaker r all_taken h)

  pub refused_as : text ≡ other → OnErr r ((received new ≡ received old) × (faults new ≡ faults old + 1)) → OnErr r (IsCutShort received faults other old new)
  refused_as e h = cut_short_as e (on_err_weaker r none_taken h)

-- ---- bullets

pub bullets_left : (n i : ℕ) → i < n → bullets (n - i) ≡ BULLET ++ bullets (n - (i + 1))
bullets_left n i h = let e : n - i ≡ suc (n - (i + 1)) = omega (arith, h) in ap bullets e

pub no_bullets : (n i : ℕ) → n ≤ i → bullets (n - i) ≡ []
no_bullets n i h = let e : n - i ≡ 0 = omega (arith, h) in ap bullets e
