-- Cutting a text into characters, length by length.
use Rattle.std.proofs.Common.{◌≡◌, ℕ, zero, suc, ◌+◌, ◌<◌, Bool, true, false, List, [], ◌∷◌, length, take, drop, get_or, refl, sym, ap, ◌∙◌, arith, add-one, drop-cons}
use Rattle.std.specs.Prelude.{◌==◌, ◌&&◌, nat_lt, nat_le}
use Rattle.std.specs.List.{list_all}
use Rattle.std.specs.Str.{is_utf8, IsUtf8, IsAscii, IsCharBoundary}
use Rattle.std.proofs.lemmas.Bool.{and_parts, lt-ltb, ltb-true, leb-true, le-leb, eqb-true}
use Rattle.std.proofs.lemmas.Str.{IsUtf8-from_is_utf8, IsUtf8-from_ascii, is_utf8-from_IsUtf8, IsUtf8-take, IsCharBoundary-from_take}
use Rattle.schema.specs.RunFits.{is_cut_by}

abbrev cut_first : List ℕ → ℕ → List ℕ → Bool
cut_first bs n ns = nat_lt 0 n && (nat_le n (length bs) && (is_utf8 (take n bs) && is_cut_by (drop n bs) ns))

-- the length at an index comes first of those from there on
from_index : (bs ns : List ℕ) (i : ℕ) → i < length ns → is_cut_by bs (drop i ns) ≡ cut_first bs (get_or ns i 0) (drop (i + 1) ns)
from_index bs ns i h = ap (is_cut_by bs) (drop-cons ns i 0 h) ∙ ap (λ k. cut_first bs (get_or ns i 0) (drop k ns)) (sym (add-one i))

no_zero : (bs ns : List ℕ) → cut_first bs 0 ns ≡ false
no_zero bs ns = refl

pub zero_cuts_none : (bs ns : List ℕ) (i : ℕ) → i < length ns → get_or ns i 0 ≡ 0 → is_cut_by bs (drop i ns) ≡ false
zero_cuts_none bs ns i h e = from_index bs ns i h ∙ ap (λ n. cut_first bs n (drop (i + 1) ns)) e

pub one_cut : (bs ns : List ℕ) (i n : ℕ) → i < length ns → get_or ns i 0 ≡ n → 0 < n → IsUtf8 bs → IsCharBoundary bs n → is_cut_by bs (drop i ns) ≡ is_cut_by (drop n bs) (drop (i + 1) ns)
one_cut bs ns i n h e some text at =
    from_index bs ns i h ∙ ap (λ k. cut_first bs k (drop (i + 1) ns)) e
    ∙ ap (λ b. b && (nat_le n (length bs) && (is_utf8 (take n bs) && is_cut_by (drop n bs) (drop (i + 1) ns)))) (lt-ltb 0 n some)
    ∙ ap (λ b. b && (is_utf8 (take n bs) && is_cut_by (drop n bs) (drop (i + 1) ns))) (le-leb n (length bs) at.0)
    ∙ ap (λ b. b && is_cut_by (drop n bs) (drop (i + 1) ns)) (is_utf8-from_IsUtf8 (take n bs) (IsUtf8-take bs n text at))

-- within a character there is no cut
pub no_cut : (bs ns : List ℕ) (i n : ℕ) → i < length ns → get_or ns i 0 ≡ n → IsUtf8 bs → (IsCharBoundary bs n → ⊥) → is_cut_by bs (drop i ns) ≡ false
no_cut bs ns i n h e text off =
    from_index bs ns i h ∙ ap (λ k. cut_first bs k (drop (i + 1) ns)) e ∙ go (nat_lt 0 n) (nat_le n (length bs)) refl (is_utf8 (take n bs)) refl
  where
    go : (a b : Bool) → nat_le n (length bs) ≡ b → (c : Bool) → is_utf8 (take n bs) ≡ c → (a && (b && (c && is_cut_by (drop n bs) (drop (i + 1) ns)))) ≡ false
    go true true within true whole = absurd (off (IsCharBoundary-from_take bs n text (leb-true n (length bs) within) (IsUtf8-from_is_utf8 (take n bs) whole)))
    go true true within false whole = refl
    go true false within c whole = refl
    go false b within c whole = refl

-- a text of ASCII is cut by ones

alone_is_text : (b : ℕ) → nat_lt b 128 ≡ true → is_utf8 (b ∷ []) ≡ true
alone_is_text b e = is_utf8-from_IsUtf8 (b ∷ []) (IsUtf8-from_ascii (b ∷ []) small)
  where
    small : IsAscii (b ∷ [])
    small zero = ltb-true b 128 e
    small (suc i) = omega arith

pub ones_cut : (bs ns : List ℕ) → length bs ≡ length ns → list_all (λ n. n == 1) ns ≡ true → list_all (λ b. nat_lt b 128) bs ≡ true → is_cut_by bs ns ≡ true
ones_cut [] [] size ones ascii = refl
ones_cut [] (n ∷ ns) size ones ascii = absurd (let no : 0 ≡ length (n ∷ ns) = size in omega (arith, no))
ones_cut (b ∷ bs) [] size ones ascii = absurd (let no : length (b ∷ bs) ≡ 0 = size in omega (arith, no))
ones_cut (b ∷ bs) (n ∷ ns) size ones ascii =
    let one = and_parts (n == 1) (list_all (λ k. k == 1) ns) ones in
    let small = and_parts (nat_lt b 128) (list_all (λ k. nat_lt k 128) bs) ascii in
    let rest : is_cut_by bs ns ≡ true = ones_cut bs ns (let e : length (b ∷ bs) ≡ length (n ∷ ns) = size in omega (arith, e)) one.1 small.1 in
    ap (λ k. cut_first (b ∷ bs) k ns) (eqb-true n 1 one.0)
    ∙ ap (λ c. c && (is_utf8 (b ∷ []) && is_cut_by bs ns)) (le-leb 1 (length (b ∷ bs)) (omega arith))
    ∙ ap (λ c. c && is_cut_by bs ns) (alone_is_text b small.0)
    ∙ rest
