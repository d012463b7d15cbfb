-- How many scalars or units of UTF-16 a text has, and the characters that lengths cut off it.
use Rattle.std.proofs.Common.{◌≡◌, ℕ, zero, suc, ◌+◌, ◌<◌, ◌≤◌, Bool, true, false, List, [], ◌∷◌, ◌++◌, length, take, drop, map, get_or, refl, sym, ap, subst, ◌∙◌, arith, add-one, drop-cons, length-append, length-drop}
use Rattle.std.specs.Prelude.{nat_lt, nat_le, if◌then◌else◌, sum_by}
use Rattle.std.specs.List.{concat}
use Rattle.std.specs.Char.{len_utf8}
use Rattle.std.specs.Str.{chars, is_utf8, IsUtf8, IsCharBoundary}
use Rattle.std.proofs.Math.Utf8.{encode, encodes}
use Rattle.std.proofs.Math.Seq.{take-add, drop-drop}
use Rattle.std.proofs.lemmas.Bool.{and_parts, ltb-true, ltb-false, leb-true, eqb-true}
use Rattle.std.proofs.lemmas.List.{take-append-drop, map-id, take_all, length-take-le}
use Rattle.std.proofs.lemmas.List.Sums.{sum_by-cons, sum_by-append, sum_by_push, sum_by_more, sum_by-take-le}
use Rattle.std.proofs.lemmas.Str.{chars-nil, chars-append, chars_past_char, encodes-chars, length-encode, len_utf8_bounds, IsUtf8-nil, IsUtf8-append, IsUtf8-from_is_utf8, IsCharBoundary-from_take}
use Rattle.schema.specs.RunFits.{is_cut_by}
use Rattle.model.specs.TextRuns.{SentRun, run_value, said_count, cut_by}
use Rattle.model.specs.FlatText.{BULLET, shown_character}
use Rattle.model.specs.Moves.{utf16_len}
use Rattle.texts.specs.declared.indexes.Units.{Units}
use Rattle.texts.specs.declared.indexes.Units.TheVariants.{Scalars, Utf16}
use Rattle.texts.specs.GlobalIndexes.{unit_len, IsCut, are_units, length_to}

-- ---- units of UTF-16

abbrev pub units_of : ℕ → ℕ
units_of s = if nat_lt s 0x1_0000 then 1 else 2

pub units_step : (bs rest : List ℕ) (c : ℕ) → IsUtf8 bs → bs ≡ encode c ++ rest → utf16_len bs ≡ units_of c + utf16_len rest
units_step bs rest c u e = ap (sum_by units_of) (chars_past_char bs rest c u e) ∙ sum_by-cons units_of c (chars rest)

-- what `len_utf16` answers
pub units_are : (c n : ℕ) → (c < 0x1_0000 → n ≡ 1) → (0x1_0000 ≤ c → n ≡ 2) → n ≡ units_of c
units_are c n p q = go (nat_lt c 0x1_0000) refl
  where
    go : (b : Bool) → nat_lt c 0x1_0000 ≡ b → n ≡ (if b then 1 else 2)
    go true e = p (ltb-true c 0x1_0000 e)
    go false e = q (ltb-false c 0x1_0000 e)

-- no scalar has more of them than bytes
wide : (c : ℕ) → 0x1_0000 ≤ c → 2 ≤ len_utf8 c
wide c big = by (nat_lt c 0x80) refl (nat_lt c 0x800) (nat_lt c 0x1_0000)
  where
    by : (a : Bool) → nat_lt c 0x80 ≡ a → (b d : Bool) → 2 ≤ (if a then 1 else (if b then 2 else (if d then 3 else 4)))
    by true e b d = absurd (let low = ltb-true c 0x80 e in omega (arith, low, big))
    by false e true d = omega arith
    by false e false true = omega arith
    by false e false false = omega arith

units_le : (c : ℕ) → units_of c ≤ length (encode c)
units_le c = go (nat_lt c 0x1_0000) refl
  where
    go : (b : Bool) → nat_lt c 0x1_0000 ≡ b → (if b then 1 else 2) ≤ length (encode c)
    go true e = omega (arith, length-encode c, (len_utf8_bounds c).0)
    go false e = let big = ltb-false c 0x1_0000 e in omega (arith, length-encode c, wide c big)

units_some : (c : ℕ) → 0 < units_of c
units_some c = go (nat_lt c 0x1_0000)
  where
    go : (b : Bool) → 0 < (if b then 1 else 2)
    go true = omega arith
    go false = omega arith

sum_le : (cs : List ℕ) → sum_by units_of cs ≤ length (encodes cs)
sum_le [] = omega arith
sum_le (c ∷ cs) = omega (arith, sum_le cs, units_le c, sum_by-cons units_of c cs, length-append (encode c) (encodes cs))

scalars_le : (cs : List ℕ) → length cs ≤ length (encodes cs)
scalars_le [] = omega arith
scalars_le (c ∷ cs) = omega (arith, scalars_le cs, length-append (encode c) (encodes cs), length-encode c, (len_utf8_bounds c).0)

pub utf16_le : (bs : List ℕ) → IsUtf8 bs → utf16_len bs ≤ length bs
utf16_le bs u = omega (arith, sum_le (chars bs), ap length (encodes-chars bs u))

-- ---- of either kind

module _ (units : Units) where
  pub unit_le : (bs : List ℕ) → IsUtf8 bs → unit_len units bs ≤ length bs
  unit_le bs u = go units
    where
      go : (k : Units) → unit_len k bs ≤ length bs
      go Scalars = omega (arith, scalars_le (chars bs), ap length (encodes-chars bs u))
      go Utf16 = utf16_le bs u

  -- a text that isn't empty has one at least
  unit_some : (bs : List ℕ) → IsUtf8 bs → 0 < length bs → 0 < unit_len units bs
  unit_some bs u some = by units
    where
      whole : length (encodes (chars bs)) ≡ length bs
      whole = ap length (encodes-chars bs u)

      of_scalars : (cs : List ℕ) → 0 < length (encodes cs) → 0 < length cs
      of_scalars [] h = absurd (omega (arith, h))
      of_scalars (c ∷ cs) h = omega arith

      of_units : (cs : List ℕ) → 0 < length (encodes cs) → 0 < sum_by units_of cs
      of_units [] h = absurd (omega (arith, h))
      of_units (c ∷ cs) h = omega (arith, sum_by-cons units_of c cs, units_some c)

      by : (k : Units) → 0 < unit_len k bs
      by Scalars = of_scalars (chars bs) (omega (arith, whole, some))
      by Utf16 = of_units (chars bs) (omega (arith, whole, some))

  unit_nil : unit_len units [] ≡ 0
  unit_nil = go units
    where
      go : (k : Units) → unit_len k [] ≡ 0
      go Scalars = ap length chars-nil
      go Utf16 = ap (sum_by units_of) chars-nil

  unit_append : (xs ys : List ℕ) → IsUtf8 xs → unit_len units (xs ++ ys) ≡ unit_len units xs + unit_len units ys
  unit_append xs ys u = go units
    where
      go : (k : Units) → unit_len k (xs ++ ys) ≡ unit_len k xs + unit_len k ys
      go Scalars = ap length (chars-append xs ys u) ∙ length-append (chars xs) (chars ys)
      go Utf16 = ap (sum_by units_of) (chars-append xs ys u) ∙ sum_by-append units_of (chars xs) (chars ys)

  unit_bullet : unit_len units BULLET ≡ 1
  unfolding chars
  unit_bullet = go units
    where
      go : (k : Units) → unit_len k BULLET ≡ 1
      go Scalars = refl
      go Utf16 = refl

-- ---- the characters that lengths cut

no_bytes : (bs : List ℕ) → is_cut_by bs [] ≡ true → [] ≡ bs
no_bytes [] e = refl
no_bytes (b ∷ bs) e = let h : length (b ∷ bs) ≡ 0 = eqb-true (length (b ∷ bs)) 0 e in absurd (omega (arith, h))

-- a text begins with a whole character of so many bytes
record IsFirstCut (bs ns : List ℕ) (n : ℕ) : Type 0 where
  fits : n ≤ length bs
  text : IsUtf8 (take n bs)
  others : is_cut_by (drop n bs) ns ≡ true

first_cut : (bs ns : List ℕ) (n : ℕ) → is_cut_by bs (n ∷ ns) ≡ true → IsFirstCut bs ns n
first_cut bs ns n e =
    let a = and_parts (nat_lt 0 n) _ e in
    let b = and_parts (nat_le n (length bs)) _ a.1 in
    let c = and_parts (is_utf8 (take n bs)) _ b.1 in
    record { fits = leb-true n (length bs) b.0; text = IsUtf8-from_is_utf8 (take n bs) c.0; others = c.1 }

cut_length : (bs ns : List ℕ) → length (cut_by bs ns) ≡ length ns
cut_length bs [] = refl
cut_length bs (n ∷ ns) = ap suc (cut_length (drop n bs) ns)

abbrev pub bytes_to : List ℕ → ℕ → ℕ
bytes_to ns i = sum_by (λ (n : ℕ). n) (take i ns)

-- the first so many characters of a text are its front
pub record IsFront (bs ns : List ℕ) (i : ℕ) : Type 0 where
  pub fits : bytes_to ns i ≤ length bs
  pub text : IsUtf8 (concat (take i (cut_by bs ns)))
  pub is : take (bytes_to ns i) bs ≡ concat (take i (cut_by bs ns))

pub front_is : (bs ns : List ℕ) (i : ℕ) → is_cut_by bs ns ≡ true → IsFront bs ns i
front_is bs ns zero e = record { fits = omega arith; text = IsUtf8-nil; is = refl }
front_is bs [] (suc i) e = record { fits = omega arith; text = IsUtf8-nil; is = refl }
front_is bs (n ∷ ns) (suc i) e =
    let first = first_cut bs ns n e in
    let rest = front_is (drop n bs) ns i first.others in
    let sum : bytes_to (n ∷ ns) (suc i) ≡ n + bytes_to ns i = sum_by-cons (λ (n : ℕ). n) n (take i ns) in
    record {
      fits = let f = rest.fits in let g = first.fits in omega (arith, f, g, sum, length-drop n bs);
      text = IsUtf8-append (take n bs) (concat (take i (cut_by (drop n bs) ns))) first.text rest.text;
      is = ap (λ k. take k bs) sum ∙ take-add n (bytes_to ns i) bs ∙ ap (λ xs. take n bs ++ xs) rest.is;
    }

pub front_ends : (bs ns : List ℕ) (i : ℕ) → IsUtf8 bs → is_cut_by bs ns ≡ true → IsCharBoundary bs (bytes_to ns i)
front_ends bs ns i u e =
    let front = front_is bs ns i e in
    IsCharBoundary-from_take bs (bytes_to ns i) u front.fits (subst IsUtf8 (sym front.is) front.text)

next_length : (ns : List ℕ) (i n : ℕ) → i < length ns → n ≡ get_or ns i 0 → drop i ns ≡ n ∷ drop (i + 1) ns
next_length ns i n h e = drop-cons ns i 0 h ∙ ap (λ m. m ∷ drop (suc i) ns) (sym e) ∙ ap (λ k. n ∷ drop k ns) (sym (add-one i))

-- a step over one character of a text
module _ (bs ns rest : List ℕ) (i n : ℕ) (within : i < length ns) (is : n ≡ get_or ns i 0) where
  left_is : is_cut_by rest (drop i ns) ≡ true → is_cut_by rest (n ∷ drop (i + 1) ns) ≡ true
  left_is cut = ap (is_cut_by rest) (sym (next_length ns i n within is)) ∙ cut

  pub cut_on : is_cut_by rest (drop i ns) ≡ true → is_cut_by (drop n rest) (drop (i + 1) ns) ≡ true
  cut_on cut = (first_cut rest (drop (i + 1) ns) n (left_is cut)).others

  pub cut_at : IsUtf8 rest → is_cut_by rest (drop i ns) ≡ true → IsCharBoundary rest n
  cut_at u cut = let first = first_cut rest (drop (i + 1) ns) n (left_is cut) in IsCharBoundary-from_take rest n u first.fits first.text

  abbrev IsLeft : Type 0
  IsLeft = drop i (cut_by bs ns) ≡ cut_by rest (drop i ns)

  left_cons : IsLeft → drop i (cut_by bs ns) ≡ take n rest ∷ cut_by (drop n rest) (drop (i + 1) ns)
  left_cons e = e ∙ ap (cut_by rest) (next_length ns i n within is)

  pub left_on : IsLeft → drop (i + 1) (cut_by bs ns) ≡ cut_by (drop n rest) (drop (i + 1) ns)
  left_on e = sym (drop-drop 1 i (cut_by bs ns)) ∙ ap (drop 1) (left_cons e)

  taken_on : IsLeft → take (i + 1) (cut_by bs ns) ≡ take i (cut_by bs ns) ++ take n rest ∷ []
  taken_on e = take-add i 1 (cut_by bs ns) ∙ ap (λ xs. take i (cut_by bs ns) ++ take 1 xs) (left_cons e)

-- ---- the units of a run

module _ (units : Units) where
  abbrev pub units_in : List (List ℕ) → ℕ
  units_in cs = sum_by (unit_len units) cs

  -- a text has as many as the characters that make it up
  cut_units : (bs ns : List ℕ) → is_cut_by bs ns ≡ true → units_in (cut_by bs ns) ≡ unit_len units bs
  cut_units bs [] e = sym (unit_nil units) ∙ ap (unit_len units) (no_bytes bs e)
  cut_units bs (n ∷ ns) e =
      let first = first_cut bs ns n e in
      sum_by-cons (unit_len units) (take n bs) (cut_by (drop n bs) ns)
      ∙ ap (λ k. unit_len units (take n bs) + k) (cut_units (drop n bs) ns first.others)
      ∙ sym (unit_append units (take n bs) (drop n bs) first.text) ∙ ap (unit_len units) (take-append-drop n bs)

  front_units : (bs ns : List ℕ) (i : ℕ) → is_cut_by bs ns ≡ true → units_in (take i (cut_by bs ns)) ≡ unit_len units (concat (take i (cut_by bs ns)))
  front_units bs ns zero e = sym (unit_nil units)
  front_units bs [] (suc i) e = sym (unit_nil units)
  front_units bs (n ∷ ns) (suc i) e =
      let first = first_cut bs ns n e in
      let others = take i (cut_by (drop n bs) ns) in
      sum_by-cons (unit_len units) (take n bs) others
      ∙ ap (λ k. unit_len units (take n bs) + k) (front_units (drop n bs) ns i first.others)
      ∙ sym (unit_append units (take n bs) (concat others) first.text)

  masked_units : (bs ns : List ℕ) (i : ℕ) → i ≤ length ns → units_in (take i (map (shown_character true) (cut_by bs ns))) ≡ i
  masked_units bs ns zero h = refl
  masked_units bs [] (suc i) h = absurd (omega (arith, h))
  masked_units bs (n ∷ ns) (suc i) h =
      let others = take i (map (shown_character true) (cut_by (drop n bs) ns)) in
      let rest = masked_units (drop n bs) ns i (omega (arith, h)) in
      omega (arith, rest, sum_by-cons (unit_len units) BULLET others, unit_bullet units)

  plain : (r : SentRun) (i : ℕ) → length_to units false r i ≡ units_in (take i (cut_by (run_value r) r.node.character_lengths))
  plain r i = ap (λ cs. units_in (take i cs)) (map-id (cut_by (run_value r) r.node.character_lengths))

  -- what is counted of a run
  pub masked_front : (r : SentRun) (i : ℕ) → i ≤ said_count r → length_to units true r i ≡ i
  masked_front r i h = masked_units (run_value r) r.node.character_lengths i h

  pub plain_front : (r : SentRun) (i : ℕ) → IsCut r → unit_len units (concat (take i (cut_by (run_value r) r.node.character_lengths))) ≡ length_to units false r i
  plain_front r i cut = sym (plain r i ∙ front_units (run_value r) r.node.character_lengths i cut)

  pub plain_run : (r : SentRun) → IsCut r → unit_len units (run_value r) ≡ length_to units false r (said_count r)
  plain_run r cut =
      let all = cut_by (run_value r) r.node.character_lengths in
      sym (plain r (said_count r) ∙ ap units_in (take_all (said_count r) all (omega (arith, cut_length (run_value r) r.node.character_lengths))) ∙ cut_units (run_value r) r.node.character_lengths cut)

  pub plain_step : (r : SentRun) (rest : List ℕ) (i n : ℕ) → i < said_count r → n ≡ get_or r.node.character_lengths i 0 →
      drop i (cut_by (run_value r) r.node.character_lengths) ≡ cut_by rest (drop i r.node.character_lengths) →
      length_to units false r (i + 1) ≡ length_to units false r i + unit_len units (take n rest)
  plain_step r rest i n h is left =
      let cs = cut_by (run_value r) r.node.character_lengths in
      plain r (i + 1) ∙ ap units_in (taken_on (run_value r) r.node.character_lengths rest i n h is left) ∙ sum_by_push (unit_len units) (take i cs) (take n rest)
      ∙ ap (λ k. k + unit_len units (take n rest)) (sym (plain r i))

  -- no more than there are bytes
  units_le_bytes : (bs ns : List ℕ) (masked : Bool) → is_cut_by bs ns ≡ true → units_in (map (shown_character masked) (cut_by bs ns)) ≤ length bs
  units_le_bytes bs [] masked e = omega arith
  units_le_bytes bs (n ∷ ns) masked e =
      let first = first_cut bs ns n e in
      let rest = units_le_bytes (drop n bs) ns masked first.others in
      let low : 0 < n = ltb-true 0 n (and_parts (nat_lt 0 n) _ e).0 in
      let high : n ≤ length bs = first.fits in
      let taken : length (take n bs) ≡ n = length-take-le n bs high in
      let own = unit_le units (take n bs) first.text in
      let one : (b : Bool) → unit_len units (shown_character b (take n bs)) ≤ n = λ b. elim b as (λ m. unit_len units (shown_character m (take n bs)) ≤ n) [
        | true ↦ omega (arith, unit_bullet units, low)
        | false ↦ omega (arith, own, taken)
      ] in
      let here = one masked in
      omega (arith, rest, here, high, length-drop n bs, sum_by-cons (unit_len units) (shown_character masked (take n bs)) (map (shown_character masked) (cut_by (drop n bs) ns)))

  pub run_le_bytes : (r : SentRun) (masked : Bool) → IsCut r → units_in (map (shown_character masked) (cut_by (run_value r) r.node.character_lengths)) ≤ length (run_value r)
  run_le_bytes r masked cut = units_le_bytes (run_value r) r.node.character_lengths masked cut

-- ---- a run of as many bytes as characters

count_fits : (bs ns : List ℕ) → is_cut_by bs ns ≡ true → length ns ≤ length bs
count_fits bs [] e = omega arith
count_fits bs (n ∷ ns) e =
    let first = first_cut bs ns n e in
    let low : 0 < n = ltb-true 0 n (and_parts (nat_lt 0 n) _ e).0 in
    let high = first.fits in
    omega (arith, low, high, count_fits (drop n bs) ns first.others, length-drop n bs)

module _ (units : Units) where
  singles : (bs ns : List ℕ) (i : ℕ) → is_cut_by bs ns ≡ true → length bs ≡ length ns → i ≤ length ns → units_in units (take i (cut_by bs ns)) ≡ i
  singles bs ns zero cut size h = refl
  singles bs [] (suc i) cut size h = absurd (omega (arith, h))
  singles bs (n ∷ ns) (suc i) cut size h =
      let first = first_cut bs ns n cut in
      let low : 0 < n = ltb-true 0 n (and_parts (nat_lt 0 n) _ cut).0 in
      let high : n ≤ length bs = first.fits in
      let left : length ns ≤ length (drop n bs) = count_fits (drop n bs) ns first.others in
      let sized : length bs ≡ length ns + 1 = (let e : length bs ≡ length (n ∷ ns) = size in omega (arith, e)) in
      let one : n ≡ 1 = omega (arith, low, high, left, sized, length-drop n bs) in
      let taken : length (take n bs) ≡ n = length-take-le n bs high in
      let most = unit_le units (take n bs) first.text in
      let least = unit_some units (take n bs) first.text (omega (arith, taken, low)) in
      let rest = singles (drop n bs) ns i first.others (omega (arith, sized, one, length-drop n bs)) (omega (arith, h)) in
      omega (arith, one, taken, most, least, rest, sum_by-cons (unit_len units) (take n bs) (take i (cut_by (drop n bs) ns)))

  pub each_is_unit : (r : SentRun) (masked : Bool) → are_units masked r ≡ true → IsCut r → (i : ℕ) → i ≤ said_count r → length_to units masked r i ≡ i
  each_is_unit r true e cut i h = masked_front units r i h
  each_is_unit r false e cut i h = plain units r i ∙ singles (run_value r) r.node.character_lengths i cut (eqb-true (length (run_value r)) (said_count r) e) h

pub not_masked : (masked : Bool) (r : SentRun) → are_units masked r ≡ false → masked ≡ false
not_masked true r e = e
not_masked false r e = refl

-- ---- the sum of the first lengths of a run

module _ (r : SentRun) (index : ℕ) (cut : IsCut r) (first : List ℕ) (is : first ≡ take index r.node.character_lengths) where
  first_fits : sum_by (λ (n : ℕ). n) first ≤ length (run_value r)
  first_fits = let fits = (front_is (run_value r) r.node.character_lengths index cut).fits in omega (arith, fits, ap (sum_by (λ (n : ℕ). n)) is)

  pub sum_next : (k n : ℕ) → k < length first → n ≡ get_or first k 0 → bytes_to first (k + 1) ≡ bytes_to first k + n
  sum_next k n h e = omega (arith, sum_by_more (λ (n : ℕ). n) first k 0 h, e)

  pub sum_fits : (k : ℕ) → bytes_to first k ≤ length (run_value r)
  sum_fits k = omega (arith, sum_by-take-le (λ (n : ℕ). n) first k, first_fits)

  module _ (value : List ℕ) (end k : ℕ) (of : value ≡ run_value r) (summed : end ≡ bytes_to first k) (all : length first ≤ k) where
    end_is : bytes_to r.node.character_lengths index ≡ end
    end_is = sym (summed ∙ ap (sum_by (λ (n : ℕ). n)) (take_all k first all ∙ is))

    pub front_boundary : IsUtf8 value → IsCharBoundary value end
    front_boundary u =
        subst (IsCharBoundary value) end_is
        (subst (λ bs. IsCharBoundary bs (bytes_to r.node.character_lengths index)) (sym of) (front_ends (run_value r) r.node.character_lengths index (subst IsUtf8 of u) cut))

    pub front_text : (text : List ℕ) → text ≡ take end value → text ≡ concat (take index (cut_by (run_value r) r.node.character_lengths))
    front_text text e = e ∙ ap (take end) of ∙ ap (λ n. take n (run_value r)) (sym end_is) ∙ (front_is (run_value r) r.node.character_lengths index cut).is

-- ---- a step over a character of a run

module _ (units : Units) (r : SentRun) where
  pub one_more : (masked : Bool) → masked ≡ false → (lengths : List ℕ) → lengths ≡ r.node.character_lengths → (rest : List ℕ) (i n : ℕ) → i < length lengths → n ≡ get_or lengths i 0 →
      drop i (cut_by (run_value r) lengths) ≡ cut_by rest (drop i lengths) → length_to units masked r (i + 1) ≡ length_to units masked r i + unit_len units (take n rest)
  one_more masked e lengths of rest i n h is left =
      let step : length_to units false r (i + 1) ≡ length_to units false r i + unit_len units (take n rest) =
      plain_step units r rest i n (subst (λ (ns : List ℕ). i < length ns) of h) (is ∙ ap (λ ns. get_or ns i 0) of) (subst (λ ns. drop i (cut_by (run_value r) ns) ≡ cut_by rest (drop i ns)) of left) in
      omega (arith, step, ap (λ m. length_to units m r (i + 1)) e, ap (λ m. length_to units m r i) e)
