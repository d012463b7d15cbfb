-- The lines of a text are the greatest groups of joined runs.
use Rattle.std.proofs.Common.{◌≡◌, ℕ, zero, suc, ◌+◌, ◌-◌, None, ◌<◌, ◌≤◌, Bool, true, false, cond, Some, List, [], ◌∷◌, length, inl, inr, ◌⊎◌, refl, sym, ap, subst, ◌∙◌, arith}
use Rattle.std.specs.Prelude.{filter, zip, slice_get}
use Rattle.std.specs.List.{range_with_len}
use Rattle.std.proofs.lemmas.Option.{same_Some}
use Rattle.model.specs.FlatText.{FlatText, lines, begins_line, ends_line}
use Rattle.model.specs.TextLaws.{IsWhole, AreJoined, LinesAreGroups, TextsHaveLines}

at_most : (r b : ℕ) → (r ≤ b) ⊎ (b + 1 ≤ r)
at_most zero b = inl (omega arith)
at_most (suc r) zero = inr (omega arith)
at_most (suc r) (suc b) = elim (at_most r b) [ inl h ↦ inl (omega (arith, h)) | inr h ↦ inr (omega (arith, h)) ]

is_last : (r b : ℕ) → r < b + 1 → (r < b) ⊎ (r ≡ b)
is_last zero zero h = inr refl
is_last zero (suc b) h = inl (omega arith)
is_last (suc r) zero h = absurd (omega (arith, h))
is_last (suc r) (suc b) h = elim (is_last r b (omega (arith, h))) [ inl k ↦ inl (omega (arith, k)) | inr e ↦ inr (ap suc e) ]

module _ (t : FlatText) (whole : IsWhole t) where
  -- a first and a last run of one line
  pub record IsLine (l : ℕ × ℕ) : Type 0 where
    pub order : l.0 ≤ l.1
    pub joined : AreJoined t l.0 l.1
    pub begins : begins_line t l.0 ≡ true
    pub ends : ends_line t l.1 ≡ true

  -- each of these is a line, and together they have all runs from s on
  pub record AreLines (s : ℕ) (ls : List (ℕ × ℕ)) : Type 0 where
    pub each : (k : ℕ) (l : ℕ × ℕ) → slice_get ls k ≡ Some l → IsLine l
    pub all : (r : ℕ) → s ≤ r → r < length t → (k a b : ℕ) × (slice_get ls k ≡ Some (a, b)) × (a ≤ r) × (r ≤ b)

  one_more : (s a : ℕ) (ls : List (ℕ × ℕ)) → IsLine (s, a) → AreLines (a + 1) ls → AreLines s ((s, a) ∷ ls)
  one_more s a ls line rest = record { each = each; all = all }
    where
      each : (k : ℕ) (l : ℕ × ℕ) → slice_get ((s, a) ∷ ls) k ≡ Some l → IsLine l
      each zero l e = subst IsLine (same_Some (s, a) l e) line
      each (suc k) l e = rest.each k l e

      all : (r : ℕ) → s ≤ r → r < length t → (k c d : ℕ) × (slice_get ((s, a) ∷ ls) k ≡ Some (c, d)) × (c ≤ r) × (r ≤ d)
      all r low high = elim (at_most r a) [
        | inl within ↦ (0, s, a, refl, low, within)
        | inr after ↦ let q = rest.all r after high in (suc q.0, q.1, q.2, q.3, q.4, q.5)
      ]

  none_left : (a : ℕ) → length t ≤ a → AreLines a []
  none_left a past = record { each = λ k l e. (let no : None ≡ Some l = e in cc); all = λ r low high. absurd (omega (arith, past, low, high)) }

  last_one : (s a : ℕ) → a + 1 ≡ length t → (b : Bool) → b ≡ true → IsLine (s, a) → AreLines s (zip (s ∷ []) (cond b (a ∷ []) []))
  last_one s a end true e line = one_more s a [] line (none_left (a + 1) (omega (arith, end)))
  last_one s a end false e line = cc

  step : (s a : ℕ) (firsts lasts : List ℕ) (b c : Bool) → c ≡ b → (b ≡ true → IsLine (s, a)) → (b ≡ true → AreLines (a + 1) (zip ((a + 1) ∷ firsts) lasts)) → (b ≡ false → AreLines s (zip (s ∷ firsts) lasts)) →
      AreLines s (zip (s ∷ cond c ((a + 1) ∷ firsts) firsts) (cond b (a ∷ lasts) lasts))
  step s a firsts lasts true true e line ended unended = one_more s a (zip ((a + 1) ∷ firsts) lasts) (line refl) (ended refl)
  step s a firsts lasts false false e line ended unended = unended refl
  step s a firsts lasts true false e line ended unended = cc
  step s a firsts lasts false true e line ended unended = cc

  -- a line goes on from s to a, or past it: the lines from s on
  from_start : (n s a : ℕ) → a + suc n ≡ length t → s ≤ a → begins_line t s ≡ true → ((r : ℕ) → s ≤ r → r < a → ends_line t r ≡ false) →
      AreLines s (zip (s ∷ filter (begins_line t) (range_with_len (a + 1) n)) (filter (ends_line t) (range_with_len a (suc n))))
  from_start zero s a size low first runs_on =
      let end : a + 1 ≡ length t = omega (arith, size) in
      let last : ends_line t a ≡ true = whole.last_ends a end in
      last_one s a end (ends_line t a) last (record { order = low; joined = λ r h k e. (let f = runs_on r h k in let no : true ≡ false = sym e ∙ f in cc); begins = first; ends = last })
  from_start (suc n) s a size low first runs_on =
      let links : begins_line t (a + 1) ≡ ends_line t a = whole.links a (omega (arith, size)) in
      step s a (filter (begins_line t) (range_with_len (a + 1 + 1) n)) (filter (ends_line t) (range_with_len (a + 1) (suc n))) (ends_line t a) (begins_line t (a + 1)) links
      (λ e. record { order = low; joined = λ r h k f. (let g = runs_on r h k in let no : true ≡ false = sym f ∙ g in cc); begins = first; ends = e })
      (λ e. from_start n (a + 1) (a + 1) (omega (arith, size)) (omega arith) (links ∙ e) (λ r h k. absurd (omega (arith, h, k))))
      (λ e. from_start n s (a + 1) (omega (arith, size)) (omega (arith, low)) first (λ r h k. elim (is_last r a k) [ inl before ↦ runs_on r h before | inr same ↦ ap (ends_line t) same ∙ e ]))

  all_lines : AreLines 0 (lines t)
  all_lines =
      let some = whole.some in
      let size : suc (length t - 1) ≡ length t = omega (arith, some) in
      let firsts = filter (begins_line t) (range_with_len (0 + 1) (length t - 1)) in
      subst (λ n. AreLines 0 (zip (filter (begins_line t) (range_with_len 0 n)) (filter (ends_line t) (range_with_len 0 n)))) size
      (subst (λ b. AreLines 0 (zip (cond b (0 ∷ firsts) firsts) (filter (ends_line t) (range_with_len 0 (suc (length t - 1)))))) (sym whole.first_begins)
      (from_start (length t - 1) 0 0 (omega (arith, size)) (omega arith) whole.first_begins (λ r h k. absurd (omega (arith, k)))))

  pub lines_are_groups : LinesAreGroups t
  lines_are_groups = record {
    joined = λ k a b e. let l = all_lines.each k (a, b) e in (l.order, l.joined);
    greatest = λ k a b e. let l = all_lines.each k (a, b) e in (l.begins, l.ends);
    all = λ r h. all_lines.all r (omega arith) h;
  }

pub texts_have_lines : TextsHaveLines
texts_have_lines = λ t whole. lines_are_groups t whole
