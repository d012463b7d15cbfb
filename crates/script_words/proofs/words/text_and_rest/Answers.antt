use Rattle.std.proofs.Common.{◌≡◌, ◌∷◌, [], arith, false, None, Some, flat_map, length, option_copied, ap, refl, rules, string_bytes, subst, sym, ◌∙◌, ◌-◌, true≢false}
use Rattle.script_words.specs.Meaning.{onward}
use Rattle.script_words.specs.Texts.{as_text, behind_text, text_at, unquoted}
use Rattle.script_words.proofs.TextCuts.{closed_at}
use Rattle.script_words.proofs.TextSteps.{kept, no_text, not_kept, text_from}
use Rattle.std.proofs.lemmas.Str.{IsUtf8-string_bytes}
use Rattle.std.proofs.lemmas.Str.Pattern.{strip_prefix_char}
use Rattle.std.specs.Str.{IsUtf8}
use Rattle.script_words.specs.Quoted.{quoted_byte}
use Rattle.script_words.specs.Reading.{after}
use Rattle.script_words.proofs.QuotedTexts.{after_opening, closing_cut}
use Rattle.script_words.proofs.words.text_and_rest.Goals as goal

pub returns-in_default-clause-reads : goal.returns-in_default-clause-reads
returns-in_default-clause-reads c = λ text rest utf8 e. absurd (strip_prefix_char 34 c.args.line.now None c.in_default.ensures.cases (omega arith) _ e)

pub returns-in_default-split_at_checked-clause-reads : goal.returns-in_default-split_at_checked-clause-reads
returns-in_default-split_at_checked-clause-reads c = λ text rest utf8 e.
    let inside = after_opening c.args.line.now text (after rest) c.in-Some.inner e c.in-Some.ensures.cases in
    let read = c.in_ok-bytes.ensures.reads text (after rest) (c.as_bytes.ensures.value ∙ inside) in
    let cut = closing_cut c.in-Some.inner.now (flat_map quoted_byte text) (after rest) (length c.in-Some.inner.now - c.in_ok-bytes.more) (subst IsUtf8 c.as_bytes.ensures.value c.as_bytes.ensures.utf8) inside (omega (arith, ap length c.as_bytes.ensures.value, c.in_ok-bytes.ensures.shorter, read.1)) in
    absurd (true≢false (sym (c.in_default-split_at_checked.ensures.variant.1 cut.0)))

pub returns-clause-reads : goal.returns-clause-reads
returns-clause-reads c = λ text rest utf8 e.
    let inside = after_opening c.args.line.now text (after rest) c.in-Some.inner e c.in-Some.ensures.cases in
    let read = c.in_ok-bytes.ensures.reads text (after rest) (c.as_bytes.ensures.value ∙ inside) in
    let cut = closing_cut c.in-Some.inner.now (flat_map quoted_byte text) (after rest) (length c.in-Some.inner.now - c.in_ok-bytes.more) (subst IsUtf8 c.as_bytes.ensures.value c.as_bytes.ensures.utf8) inside (omega (arith, ap length c.as_bytes.ensures.value, c.in_ok-bytes.ensures.shorter, read.1)) in
    (ap (λ v. v.items) c.in-Ok.ensures.ok ∙ read.0, c.in_ok-after.ensures.reads rest (c.in-Some-split_at_checked.ensures.back ∙ cut.1))

-- ---- what is meant

pub returns-in_default-clause-means : goal.returns-in_default-clause-means
returns-in_default-clause-means c = no_text c.args.line.now (λ rest e. strip_prefix_char 34 c.args.line.now None c.in_default.ensures.cases (omega arith) rest e)

pub returns-in_default-split_at_checked-clause-means : goal.returns-in_default-split_at_checked-clause-means
returns-in_default-split_at_checked-clause-means c =
    let line : c.args.line.now ≡ 34 ∷ c.in-Some.inner.now = strip_prefix_char 34 c.args.line.now (Some c.in-Some.inner) c.in-Some.ensures.cases (omega arith) in
    let read = c.in_ok-bytes.ensures.means in
    let is = ap unquoted (sym c.as_bytes.ensures.value) ∙ read.1 in
    let closed = closed_at [] false c.in-Some.inner.now read.0.0 read.0.1 is in
    let cut = closing_cut c.in-Some.inner.now closed.0 read.0.1 (length c.in-Some.inner.now - c.in_ok-bytes.more) (subst IsUtf8 c.as_bytes.ensures.value c.as_bytes.ensures.utf8) closed.1 (omega (arith, ap length c.as_bytes.ensures.value, c.in_ok-bytes.ensures.shorter, read.2.1)) in
    absurd (true≢false (sym (c.in_default-split_at_checked.ensures.variant.1 cut.0)))

pub returns-in_err-after-clause-means : goal.returns-in_err-after-clause-means
returns-in_err-after-clause-means c =
    let line : c.args.line.now ≡ 34 ∷ c.in-Some.inner.now = strip_prefix_char 34 c.args.line.now (Some c.in-Some.inner) c.in-Some.ensures.cases (omega arith) in
    let read = c.in_ok-bytes.ensures.means in
    let is = ap unquoted (sym c.as_bytes.ensures.value) ∙ read.1 in
    let closed = closed_at [] false c.in-Some.inner.now read.0.0 read.0.1 is in
    let cut = closing_cut c.in-Some.inner.now closed.0 read.0.1 (length c.in-Some.inner.now - c.in_ok-bytes.more) (subst IsUtf8 c.as_bytes.ensures.value c.as_bytes.ensures.utf8) closed.1 (omega (arith, ap length c.as_bytes.ensures.value, c.in_ok-bytes.ensures.shorter, read.2.1)) in
    let rest : c.in-Some-split_at_checked.rest.now ≡ read.0.1 = c.in-Some-split_at_checked.ensures.back ∙ cut.1 in
    let none : text_at c.args.line.now ≡ None = text_from c.args.line.now c.in-Some.inner.now read.0.0 read.0.1 line is ∙ ap (λ o. onward o (λ left. onward (as_text read.0.0) (λ text. Some (text, left)))) (ap behind_text (sym rest) ∙ c.in_err-after.ensures.means.1) in
    search rules

pub returns-in_default-from_utf8-clause-means : goal.returns-in_default-from_utf8-clause-means
returns-in_default-from_utf8-clause-means c =
    let line : c.args.line.now ≡ 34 ∷ c.in-Some.inner.now = strip_prefix_char 34 c.args.line.now (Some c.in-Some.inner) c.in-Some.ensures.cases (omega arith) in
    let read = c.in_ok-bytes.ensures.means in
    let is = ap unquoted (sym c.as_bytes.ensures.value) ∙ read.1 in
    let closed = closed_at [] false c.in-Some.inner.now read.0.0 read.0.1 is in
    let cut = closing_cut c.in-Some.inner.now closed.0 read.0.1 (length c.in-Some.inner.now - c.in_ok-bytes.more) (subst IsUtf8 c.as_bytes.ensures.value c.as_bytes.ensures.utf8) closed.1 (omega (arith, ap length c.as_bytes.ensures.value, c.in_ok-bytes.ensures.shorter, read.2.1)) in
    let rest : c.in-Some-split_at_checked.rest.now ≡ read.0.1 = c.in-Some-split_at_checked.ensures.back ∙ cut.1 in
    let none : as_text read.0.0 ≡ None = not_kept read.0.0 (λ utf8. true≢false (sym (c.in_default-from_utf8.ensures.succeeds (subst IsUtf8 (sym read.2.0) utf8)))) in
    text_from c.args.line.now c.in-Some.inner.now read.0.0 read.0.1 line is
    ∙ ap (λ o. onward o (λ left. onward (as_text read.0.0) (λ text. Some (text, left)))) (ap behind_text (sym rest) ∙ c.in_ok-after.ensures.means)
    ∙ ap (λ o. onward o (λ text. Some (text, option_copied c.in_ok-after.after))) none

pub returns-clause-means : goal.returns-clause-means
returns-clause-means c =
    let line : c.args.line.now ≡ 34 ∷ c.in-Some.inner.now = strip_prefix_char 34 c.args.line.now (Some c.in-Some.inner) c.in-Some.ensures.cases (omega arith) in
    let read = c.in_ok-bytes.ensures.means in
    let is = ap unquoted (sym c.as_bytes.ensures.value) ∙ read.1 in
    let closed = closed_at [] false c.in-Some.inner.now read.0.0 read.0.1 is in
    let cut = closing_cut c.in-Some.inner.now closed.0 read.0.1 (length c.in-Some.inner.now - c.in_ok-bytes.more) (subst IsUtf8 c.as_bytes.ensures.value c.as_bytes.ensures.utf8) closed.1 (omega (arith, ap length c.as_bytes.ensures.value, c.in_ok-bytes.ensures.shorter, read.2.1)) in
    let rest : c.in-Some-split_at_checked.rest.now ≡ read.0.1 = c.in-Some-split_at_checked.ensures.back ∙ cut.1 in
    let same : string_bytes c.in-Ok.text ≡ read.0.0 = ap (λ v. v.items) c.in-Ok.ensures.ok ∙ read.2.0 in
    let some : as_text read.0.0 ≡ Some read.0.0 = kept read.0.0 (subst IsUtf8 same (IsUtf8-string_bytes c.in-Ok.text)) in (
      (read.0.0, option_copied c.in_ok-after.after),
      text_from c.args.line.now c.in-Some.inner.now read.0.0 read.0.1 line is
          ∙ ap (λ o. onward o (λ left. onward (as_text read.0.0) (λ text. Some (text, left)))) (ap behind_text (sym rest) ∙ c.in_ok-after.ensures.means)
          ∙ ap (λ o. onward o (λ text. Some (text, option_copied c.in_ok-after.after))) some,
      (same, refl),
    )
