-- Whether all characters of a text are one.
use Rattle.std.proofs.Common.{◌≡◌, ◌≢◌, ℕ, true, false, List, [], ◌∷◌, ◌++◌, length, sym, ◌∙◌, ap, eq-eqb, arith}
use Rattle.std.specs.Prelude.{◌==◌, ◌&&◌, encode_utf8}
use Rattle.std.specs.Str.{IsUtf8, chars}
use Rattle.std.specs.List.{list_all}
use Rattle.std.proofs.lemmas.Bool.{ne_eqb}
use Rattle.std.proofs.lemmas.Str.{chars_past_char, chars-nil}
use Rattle.model.specs.FlatText.{are_alike}

pub none_left : (bs : List ℕ) (first : ℕ) → length bs ≡ 0 → list_all (λ b. first == b) (chars bs) ≡ true
none_left [] first e = ap (list_all (λ b. first == b)) chars-nil
none_left (b ∷ bs) first e = absurd (omega (arith, e))

pub none_differ : (bs : List ℕ) → length bs ≡ 0 → are_alike (λ a b. a == b) (chars bs) ≡ true
none_differ [] e = ap (are_alike (λ a b. a == b)) chars-nil
none_differ (b ∷ bs) e = absurd (omega (arith, e))

module _ (bs rest : List ℕ) (c : ℕ) (text : IsUtf8 bs) (spells : bs ≡ encode_utf8 c ++ rest) where
  pub by_first : list_all (λ b. c == b) (chars rest) ≡ are_alike (λ a b. a == b) (chars bs)
  by_first = sym (ap (are_alike (λ a b. a == b)) (chars_past_char bs rest c text spells))

  next_alike : (first : ℕ) → list_all (λ b. first == b) (chars bs) ≡ ((first == c) && list_all (λ b. first == b) (chars rest))
  next_alike first = ap (list_all (λ b. first == b)) (chars_past_char bs rest c text spells)

  pub next_like : (first : ℕ) → c ≡ first → list_all (λ b. first == b) (chars rest) ≡ list_all (λ b. first == b) (chars bs)
  next_like first e = sym (next_alike first ∙ ap (λ b. b && list_all (λ b. first == b) (chars rest)) (eq-eqb first c (sym e)))

  pub next_unlike : (first : ℕ) → c ≢ first → list_all (λ b. first == b) (chars bs) ≡ false
  next_unlike first h = next_alike first ∙ ap (λ b. b && list_all (λ b. first == b) (chars rest)) (ne_eqb first c (λ e. h (sym e)))
