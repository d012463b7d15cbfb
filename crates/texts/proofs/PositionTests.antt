-- Tests of positions at the ends of runs.
use Rattle.std.proofs.Common.{◌≡◌, ℕ, ◌+◌, ◌-◌, Bool, true, false, length, refl, sym, ap, ◌∙◌, arith, eq-eqb}
use Rattle.std.specs.Prelude.{◌==◌, ◌&&◌}
use Rattle.std.proofs.lemmas.Bool.{eqb-true, eqb-false}
use Rattle.model.specs.TextRuns.{said_count}
use Rattle.model.specs.FlatText.{count_in, is_document_end}
use Rattle.texts.specs.declared.position.TextPosition.{TextPosition}
use Rattle.views.specs.Runs.{sent_of}
use Rattle.text_boundaries.specs.RunNumbers.{number_in}
use Rattle.texts.specs.Positions.{position_text, flat_position}
use Rattle.text_boundaries.proofs.FlatRuns.{runs_counted, count_at_number}

pub differs : (a b : ℕ) → (a ≡ b → ⊥) → (a == b) ≡ false
differs a b apart = go (a == b) refl
  where
    go : (c : Bool) → (a == b) ≡ c → (a == b) ≡ false
    go true e = absurd (apart (eqb-true a b e))
    go false e = e

pub before_last_run : (p : TextPosition) (b : Bool) → b ≡ (number_in p.run + 1 == length (position_text p)) → b ≡ false → false ≡ is_document_end (position_text p) (flat_position p)
before_last_run p b is early =
    let apart = eqb-false (number_in p.run + 1) (length (position_text p)) (sym is ∙ early) in
    let counted = runs_counted p.run in
    sym (ap (λ c. c && (p.index == count_in (position_text p) (length (position_text p) - 1))) (differs (number_in p.run) (length (position_text p) - 1) (λ e. apart (omega (arith, e, counted)))))

module _ (p : TextPosition) (n : ℕ) (counted : n ≡ said_count (sent_of p.run)) where
  at_count : n ≡ count_in (position_text p) (number_in p.run)
  at_count = counted ∙ sym (count_at_number p.run)

  in_last_run : (b : Bool) → b ≡ (number_in p.run + 1 == length (position_text p)) → b ≡ true → (p.index == n) ≡ is_document_end (position_text p) (flat_position p)
  in_last_run b is last =
      let at : number_in p.run ≡ length (position_text p) - 1 = (let e = eqb-true (number_in p.run + 1) (length (position_text p)) (sym is ∙ last) in omega (arith, e)) in
      ap (λ k. p.index == k) (at_count ∙ ap (count_in (position_text p)) at) ∙ sym (ap (λ c. c && (p.index == count_in (position_text p) (length (position_text p) - 1))) (eq-eqb (number_in p.run) (length (position_text p) - 1) at))

  pub off_run_end : (p.index ≡ n → ⊥) → false ≡ is_document_end (position_text p) (flat_position p)
  off_run_end apart = go (number_in p.run + 1 == length (position_text p)) refl
    where
      go : (b : Bool) → (number_in p.run + 1 == length (position_text p)) ≡ b → false ≡ is_document_end (position_text p) (flat_position p)
      go true e = sym (differs p.index n apart) ∙ in_last_run true (sym e) refl
      go false e = before_last_run p false (sym e) refl

  pub at_run_end : (b : Bool) → b ≡ (number_in p.run + 1 == length (position_text p)) → p.index ≡ n → b ≡ is_document_end (position_text p) (flat_position p)
  at_run_end true is e = sym (eq-eqb p.index n e) ∙ in_last_run true is refl
  at_run_end false is e = before_last_run p false is refl
