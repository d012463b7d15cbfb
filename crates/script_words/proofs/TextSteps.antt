-- The reading of a text in quotes, step by step.
use Rattle.std.proofs.Common.{◌≡◌, ◌≢◌, ℕ, ◌==◌, ◌<◌, ◌+◌, suc, zero, List, [], ◌∷◌, ◌++◌, codes, flat_map, length, slice_index_or, Bool, true, false, true≢false, Bor, Option, Some, None, IsOk, MatchOption, Result, Err, append_assoc, arith, if◌then◌else◌, ap, sym, refl, subst, ◌∙◌, ⊎_elim}
use Rattle.std.specs.Str.{IsUtf8, is_utf8}
use Rattle.std.proofs.lemmas.Bool.{cases_Bool, cond-false, cond-true}
use Rattle.std.proofs.lemmas.Bool.Decides.{nat_tests}
use Rattle.std.proofs.lemmas.Str.{IsUtf8-from_is_utf8, is_utf8-from_IsUtf8}
use Rattle.script_words.specs.Cuts.{part_before}
use Rattle.script_words.specs.Meaning.{onward}
use Rattle.script_words.specs.Quoted.{quoted_byte}
use Rattle.script_words.specs.Reading.{Lacks}
use Rattle.script_words.specs.Texts.{as_text, behind_text, by_step, step_of, text_at, unquoted, unquoted_after}
use Rattle.script_words.specs.declared.unquoting.InQuotes.{InQuotes}
use Rattle.script_words.proofs.Lacking.{lacks_cons, lacks_nothing}
use Rattle.script_words.proofs.TextCuts.{quoted_back}

pub one_step : (text : List ℕ) (is_escaped : Bool) (left others : List ℕ) (byte : ℕ) (meant : Option (List ℕ × List ℕ)) (step : Option InQuotes)
    → unquoted_after text is_escaped left ≡ meant → left ≡ byte ∷ others → step ≡ step_of is_escaped byte
    → by_step step text others (λ next so_far. unquoted_after so_far next others) ≡ meant
unfolding unquoted_after
one_step text is_escaped left others byte meant step i e s =
    ap (λ (k : Option InQuotes). by_step k text others (λ next so_far. unquoted_after so_far next others)) s ∙ ap (unquoted_after text is_escaped) (sym e) ∙ i

pub left_open : (text : List ℕ) (is_escaped : Bool) (left : List ℕ) (meant : Option (List ℕ × List ℕ)) → unquoted_after text is_escaped left ≡ meant → length left ≡ 0 → meant ≡ None
unfolding unquoted_after
left_open text is_escaped [] meant i e = sym i
left_open text is_escaped (byte ∷ left) meant i e = absurd (omega (arith, e))

pub read_back : (bytes : List ℕ) (o : Option (List ℕ × List ℕ)) → unquoted bytes ≡ o → (text more : List ℕ) → bytes ≡ flat_map quoted_byte text ++ codes "\"" ++ more → o ≡ Some (text, more)
read_back bytes o i text more e = sym i ∙ ap unquoted (e ∙ append_assoc (flat_map quoted_byte text) (codes "\"") more) ∙ quoted_back [] text more

-- nothing behind the quote that would be in order
pub behind_none : (line : List ℕ) → (length line == 0) ≡ false → ((rest : List ℕ) → line ≢ 32 ∷ rest) → behind_text line ≡ None
behind_none [] some other = absurd (grind (arith, nat_tests, some))
behind_none (byte ∷ left) some other = ⊎_elim (λ t. let is : byte ≡ 32 = grind (arith, nat_tests, t) in absurd (other left (ap (λ c. c ∷ left) is))) (λ f. cond-false _ _ _ f) (cases_Bool (byte == 32))

pub no_text : (line : List ℕ) → ((rest : List ℕ) → line ≢ 34 ∷ rest) → text_at line ≡ None
no_text [] other = refl
no_text (byte ∷ inner) other = ⊎_elim (λ t. let is : byte ≡ 34 = grind (arith, nat_tests, t) in absurd (other inner (ap (λ c. c ∷ inner) is))) (λ f. cond-false _ _ _ f) (cases_Bool (byte == 34))

pub not_kept : (bytes : List ℕ) → (IsUtf8 bytes → ⊥) → as_text bytes ≡ None
not_kept bytes other = ⊎_elim (λ t. absurd (other (IsUtf8-from_is_utf8 bytes t))) (λ f. cond-false _ _ _ f) (cases_Bool (is_utf8 bytes))

pub kept : (bytes : List ℕ) → IsUtf8 bytes → as_text bytes ≡ Some bytes
kept bytes utf8 = cond-true _ _ _ (is_utf8-from_IsUtf8 bytes utf8)

-- what is read at the front of a line, by what is read in the quotes and behind them
pub text_from : (line inner read rest : List ℕ) → line ≡ 34 ∷ inner → unquoted inner ≡ Some (read, rest) → text_at line ≡ onward (behind_text rest) (λ left. onward (as_text read) (λ text. Some (text, left)))
text_from line inner read rest e i =
    ap text_at e ∙ ap (λ (o : Option (List ℕ × List ℕ)). onward o (λ read. onward (behind_text read.1) (λ left. onward (as_text read.0) (λ text. Some (text, left))))) i

-- ---- names and values

pub lacks_front : (c : ℕ) (front back : List ℕ) → Lacks c (front ++ back) → Lacks c front
lacks_front c [] back lacks = lacks_nothing c
lacks_front c (byte ∷ front) back lacks = lacks_cons c byte front (lacks 0 (omega arith)) (lacks_front c front back (λ i l. lacks (suc i) (omega (arith, l))))

pub part_is : (mark : ℕ) (text rest : List ℕ) → Lacks mark text → part_before mark (text ++ mark ∷ rest) ≡ text
unfolding part_before
part_is mark [] rest lacks = let same : (mark == mark) ≡ true = grind (arith, nat_tests) in cond-true _ _ _ same
part_is mark (byte ∷ text) rest lacks =
    let is_other : byte ≢ mark = lacks 0 (omega arith) in
    let other : (byte == mark) ≡ false = grind (arith, nat_tests, is_other) in
    cond-false _ _ _ other ∙ ap (λ t. byte ∷ t) (part_is mark text rest (λ i l. lacks (suc i) (omega (arith, l))))

pub part_lacks_too : (c mark : ℕ) (text : List ℕ) → Lacks c text → Lacks c (part_before mark text)
unfolding part_before
part_lacks_too c mark [] lacks = lacks_nothing c
part_lacks_too c mark (byte ∷ text) lacks = by (byte == mark) (part_lacks_too c mark text (λ i l. lacks (suc i) (omega (arith, l))))
  where
    by : (b : Bool) → Lacks c (part_before mark text) → Lacks c (if b then [] else byte ∷ part_before mark text)
    by true rest = lacks_nothing c
    by false rest = lacks_cons c byte (part_before mark text) (lacks 0 (omega arith)) rest

-- what is cut off a line that has a value next, or hasn't
abbrev pub CutsValue : List ℕ → Option (Bor (List ℕ) × Bor (List ℕ)) → Type 0
CutsValue line r = MatchOption r (Lacks 61 (part_before 32 line)) (λ parts. (line ≡ parts.0.now ++ (61 ∷ parts.1.now)) × Lacks 61 parts.0.now × Lacks 32 parts.0.now)

-- a name with a space in it isn't one: the word before that space has no equals sign
pub space_first : (line name value front back : List ℕ) → line ≡ name ++ (61 ∷ value) → Lacks 61 name → name ≡ front ++ (32 ∷ back) → Lacks 32 front → Lacks 61 (part_before 32 line)
space_first line name value front back e lacks n space =
    let whole : line ≡ front ++ 32 ∷ (back ++ 61 ∷ value) = e ∙ ap (λ t. t ++ (61 ∷ value)) n ∙ append_assoc front (32 ∷ back) (61 ∷ value) in
    subst (Lacks 61) (sym (ap (part_before 32) whole ∙ part_is 32 front (back ++ 61 ∷ value) space)) (lacks_front 61 front (32 ∷ back) (subst (Lacks 61) n lacks))
