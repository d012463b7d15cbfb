-- A state that is drawn, and then written.
use Rattle.std.proofs.Common.{◌≡◌, ◌⊎◌, inl, inr, ℕ, List, Some, Result, Ok, Err, refl}
use Rattle.std.specs.Prelude.{IfErr, MatchResult, OnOk}
use Rattle.std.specs.Io.KnownBytes.{Appends, Keeps}
use Rattle.std.proofs.KnownBytes.{Appends-kept}
use Rattle.atree_script.specs.Scripts.{Writes as Prints}
use Rattle.html.specs.Written.{AppendsBeginning}
use Rattle.script_words.specs.declared.stops.Stop.{Stop}
use Rattle.script_words.specs.declared.stops.Stop.TheVariants.{WriteFault}
use Rattle.page.specs.Reports.{Bytes}
use Rattle.page.specs.Shown.{pages_of, shown_of, unwritten, Adds, Kept, OrStops, Pages, Shown, Writes}
use Rattle.page.specs.declared.sections.Titled.{Titled}

-- a text is written; or the output has an error, and a beginning of it is written
abbrev pub WritesText : List ℕ → Result Unit Stop → Bytes → Bytes → Type 0
WritesText text result before after =
    MatchResult result (λ _. Appends before after text) (λ stop. (stop ≡ WriteFault) × AppendsBeginning before after text)

-- the same, and once all of it is written this is reported; or standard error has an error
abbrev pub WritesReported : List ℕ → List ℕ → Result Unit Stop → Bytes → Bytes → Bytes → Bytes → Type 0
WritesReported text report result before after told_before told_after =
    MatchResult result (λ _. Appends before after text × Appends told_before told_after report)
    (λ stop. (stop ≡ WriteFault) × ((AppendsBeginning before after text × (told_after ≡ told_before)) ⊎ Appends before after text))

pub text_by : (text : List ℕ) (result : Result Unit Stop) (a b : Bytes) → OnOk result (Appends a b text) → IfErr result (λ stop. (stop ≡ WriteFault) × AppendsBeginning a b text) → WritesText text result a b
text_by text (Ok d) a b held h = held
text_by text (Err stop) a b held h = h

pub reported_by : (text report : List ℕ) (result : Result Unit Stop) (a b told told_after : Bytes) → OnOk result (Appends a b text × Appends told told_after report) →
    IfErr result (λ stop. (stop ≡ WriteFault) × ((AppendsBeginning a b text × (told_after ≡ told)) ⊎ Appends a b text)) → WritesReported text report result a b told told_after
reported_by text report (Ok d) a b told told_after held h = held
reported_by text report (Err stop) a b told told_after held h = h

abbrev done : Result Unit Stop
done = Ok tt

-- after a text is written, this is reported
pub told_ok : {A : Type 0} (text : List ℕ) (result : Result Unit Stop) (a b : Bytes) → Prints text done result a b → A → OnOk result (A × Appends a b text)
told_ok text (Ok d) a b (inl e) held = let no : ⊥ = cc in absurd no
told_ok text (Ok d) a b (inr h) held = (held, h.1)
told_ok text (Err stop) a b h held = tt

pub told_err : (A : Type 0) {B : Type 0} (text : List ℕ) (result : Result Unit Stop) (a b : Bytes) → Prints text done result a b → B → IfErr result (λ stop. (stop ≡ WriteFault) × (A ⊎ B))
told_err A text (Ok d) a b h held = tt
told_err A text (Err stop) a b (inl e) held = let same : stop ≡ WriteFault = cc in (same, inr held)
told_err A text (Err stop) a b (inr (e, h)) held = let no : ⊥ = cc in absurd no

module _ (shows : Pages → Pages → Type 0) (s : Shown) (updates : ℕ) (states : List Titled) (kept : Kept) (text : List ℕ) (drawn : shows (unwritten s.0) (pages_of updates states kept (Some text))) where
  written_by : (adds : Adds) (written : Bytes) → adds s.0.written written text → Writes shows adds s.0 (pages_of updates states kept written)
  written_by adds written h = record { text = text; shown = drawn; written = h }

  pub reported : (report : List ℕ) (result : Result Unit Stop) (written told : Bytes) → WritesReported text report result s.0.written written s.1 told →
      OrStops result (Appends s.1 told report) (λ adds. Writes shows adds s.0 (pages_of updates states kept written)) s (shown_of updates states kept written told)
  reported report (Ok d) written told h = (written_by Appends written h.0, h.1)
  reported report (Err stop) written told (same, inl h) = inr (same, inl (written_by AppendsBeginning written h.0, h.1))
  reported report (Err stop) written told (same, inr h) = inr (same, inr (written_by Appends written h))

  pub unreported : (result : Result Unit Stop) (written : Bytes) → WritesText text result s.0.written written →
      OrStops result (s.1 ≡ s.1) (λ adds. Writes shows adds s.0 (pages_of updates states kept written)) s (shown_of updates states kept written s.1)
  unreported (Ok d) written h = (written_by Appends written h, refl)
  unreported (Err stop) written h = inr (h.0, inl (written_by AppendsBeginning written h.1, refl))

-- what is a beginning of a text stays one
pub kept_beginning : (a b c : Bytes) (text : List ℕ) → AppendsBeginning a b text → Keeps b c → AppendsBeginning a c text
kept_beginning a b c text h k = record { front = h.front; missing = h.missing; whole = h.whole; written = Appends-kept a b c h.front h.written k }
