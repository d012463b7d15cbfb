-- The value of a word is the one that it says.
use Rattle.std.proofs.Common.{◌≡◌, ◌≢◌, ℕ, ℤ, pos, negsuc, neg_ℤ, ◌^◌, ◌==◌, ◌&&◌, ◌<◌, ◌↔◌, ◌⊎◌, inl, inr, ⊎_elim, nat_lt, Bool, true, false, true≢false, List, [], ◌∷◌, ◌++◌, codes, length, drop, slice_index_or, bytes_eq, Option, Some, None, option_map, Result, Ok, Err, if◌then◌else◌, arith, ap, ap₂, sym, refl, subst, ◌∙◌}
use mir.Syntax.{w32}
use mir.Val.{of_z, to_z}
use Rattle.std.specs.Char.{digit_value}
use Rattle.std.specs.Result.{OkIff, result_ok}
use Rattle.std.specs.Str.Parse.{AllDigits, IsNumeral, digits_value}
use Rattle.std.proofs.lemmas.Bool.{cases_Bool, cond-true, cond-false}
use Rattle.std.proofs.lemmas.Bool.Decides.{nat_tests}
use Rattle.std.proofs.lemmas.Int.{to_z-of_z}
use Rattle.std.proofs.lemmas.Option.{none-some, same_Some}
use Rattle.std.proofs.lemmas.Slice.Eq.{bytes_eq-Decides}
use Rattle.uuid.specs.Text.{parsed}
use Rattle.model.specs.declared.queries.NamedFilter.{NamedFilter}
use Rattle.model.specs.declared.queries.NamedFilter.TheVariants as filter
use Rattle.model.specs.declared.queries.Side.{Side}
use Rattle.model.specs.declared.queries.Side.TheVariants as side
use Rattle.model.specs.declared.queries.Move.{Move}
use Rattle.schema.specs.TreeIds.{root_tree_id}
use Rattle.schema.specs.declared.TreeId.{TreeId}
use Rattle.script_words.specs.Meaning.{onward}
use Rattle.script_words.specs.NamedIn.{IsNamed, ReadsNamed, first_named}
use Rattle.script_words.specs.NameLists.{all_filters, all_moves, all_sides}
use Rattle.script_words.specs.Names.{filter_name, move_name, side_name}
use Rattle.script_words.specs.Reading.{IsByte, IsCount, IsNarrow, IsNumber, IsShort, IsUnits}
use Rattle.script_words.specs.Says.{SaysNumber, SaysSigned, SaysTree}
use Rattle.script_words.specs.WordValues.{are_digits, byte_of, filter_of, fits_32, fits_64, integer_value, is_numeral, kept_below, move_of, narrow_of, negative_value, number_of, short_of, side_of, signed_of, tree_id, tree_of, units_of, unsigned_value}
use Rattle.script_words.proofs.NamedTables.{first_move}
use Rattle.script_words.proofs.Numerals.{said_no_sign, units_are_numbers}

-- two readings that give the same values are the same
pub same_options : {T : Type 0} (a b : Option T) (P : T → Type 0) → ((x : T) → (a ≡ Some x) ↔ P x) → ((x : T) → (b ≡ Some x) ↔ P x) → a ≡ b
same_options None None P p q = refl
same_options None (Some y) P p q = (p y).1 ((q y).0 refl)
same_options (Some x) b P p q = sym ((q x).1 ((p x).0 refl))

-- ---- tests

if_some : {T : Type 0} (b : Bool) (x y : T) → (if b then Some x else None) ≡ Some y → (b ≡ true) × (x ≡ y)
if_some true x y e = (refl, same_Some x y e)
if_some false x y e = absurd (none-some y e)

and_parts : (a b : Bool) → (a && b) ≡ true → (a ≡ true) × (b ≡ true)
and_parts true true e = (refl, refl)
and_parts true false e = absurd (true≢false (sym e))
and_parts false true e = absurd (true≢false (sym e))
and_parts false false e = absurd (true≢false (sym e))

both_true : (a b : Bool) → a ≡ true → b ≡ true → (a && b) ≡ true
both_true true true s t = refl
both_true true false s t = t
both_true false b s t = absurd (true≢false (sym s))

lt_of : (a b : ℕ) → nat_lt a b ≡ true → a < b
lt_of a b e = grind (arith, nat_tests, e)

of_lt : (a b : ℕ) → a < b → nat_lt a b ≡ true
of_lt a b h = grind (arith, nat_tests, h)

not_lt : (a b : ℕ) → (a < b → ⊥) → nat_lt a b ≡ false
not_lt a b never = elim (cases_Bool (nat_lt a b)) [ inl t ↦ absurd (never (lt_of a b t)) | inr f ↦ f ]

-- ---- numbers

digits_exact : (ds : List ℕ) → (are_digits ds ≡ true) ↔ AllDigits 10 ds
digits_exact [] = ((λ e. tt), (λ h. refl))
digits_exact (d ∷ ds) = (
  (λ e. let k = and_parts (nat_lt (digit_value d) 10) (are_digits ds) e in (lt_of (digit_value d) 10 k.0, (digits_exact ds).0 k.1)),
  (λ h. both_true (nat_lt (digit_value d) 10) (are_digits ds) (of_lt (digit_value d) 10 h.0) ((digits_exact ds).1 h.1)),
)

numeral_exact : (word : List ℕ) → (is_numeral word ≡ true) ↔ IsNumeral 10 word
numeral_exact [] = ((λ e. absurd (true≢false (sym e))), (λ h. absurd (omega (arith, h.0))))
numeral_exact (d ∷ ds) = ((λ e. (omega arith, (digits_exact (d ∷ ds)).0 e)), (λ h. (digits_exact (d ∷ ds)).1 h.1))

pub number_exact : (word : List ℕ) (n : ℕ) → (number_of word ≡ Some n) ↔ (IsCount n × SaysNumber word n)
unfolding number_of
number_exact word n = (
  (λ e.
      let p = if_some (is_numeral word && nat_lt (digits_value 10 word) (2 ^ 64)) (digits_value 10 word) n e in
      let k = and_parts (is_numeral word) (nat_lt (digits_value 10 word) (2 ^ 64)) p.0 in
      (subst IsCount p.1 (lt_of (digits_value 10 word) (2 ^ 64) k.1), ((numeral_exact word).0 k.0, p.1))),
  (λ k. cond-true _ _ _ (both_true (is_numeral word) (nat_lt (digits_value 10 word) (2 ^ 64)) ((numeral_exact word).1 k.1.0) (of_lt (digits_value 10 word) (2 ^ 64) (subst IsCount (sym k.1.1) k.0))) ∙ ap Some k.1.1),
)

pub number_is : (word : List ℕ) (r : Option ℕ) → ((n : ℕ) → (r ≡ Some n) ↔ (IsCount n × SaysNumber word n)) → r ≡ number_of word
number_is word r all = same_options r (number_of word) (λ n. IsCount n × SaysNumber word n) all (number_exact word)

-- ---- numbers with a sign

integer_exact : (word : List ℕ) (z : ℤ) → (integer_value word ≡ Some z) ↔ SaysSigned word z
integer_exact [] z = ((λ e. absurd (none-some z e)), (λ s. absurd (⊎_elim (λ k. omega (arith, k.1.0.0)) (λ k. omega (arith, ap length k.2)) s)))
integer_exact (byte ∷ digits) z = ⊎_elim (λ t. minus t) (λ f. bare f) (cases_Bool (byte == 45))
  where
    minus : (byte == 45) ≡ true → (integer_value (byte ∷ digits) ≡ Some z) ↔ SaysSigned (byte ∷ digits) z
    minus t =
        let first : byte ≡ 45 = grind (arith, nat_tests, t) in
        let is : integer_value (byte ∷ digits) ≡ negative_value digits = cond-true _ _ _ t in (
          (λ e. let p = if_some (is_numeral digits) (neg_ℤ (pos (digits_value 10 digits))) z (sym is ∙ e) in
              inr (digits, digits_value 10 digits, ap (λ d. d ∷ digits) first, ((numeral_exact digits).0 p.0, refl), sym p.1)),
          (λ s. ⊎_elim (λ k. absurd (said_no_sign 45 (omega arith) (byte ∷ digits) k.0 k.1 first))
              (λ k. let same : digits ≡ k.0 = ap (drop 1) k.2 in
              is ∙ cond-true _ _ _ ((numeral_exact digits).1 (subst (IsNumeral 10) (sym same) k.3.0))
              ∙ ap Some (ap (λ w. neg_ℤ (pos (digits_value 10 w))) same ∙ ap (λ n. neg_ℤ (pos n)) k.3.1 ∙ sym k.4)) s),
        )

    bare : (byte == 45) ≡ false → (integer_value (byte ∷ digits) ≡ Some z) ↔ SaysSigned (byte ∷ digits) z
    bare f =
        let is : integer_value (byte ∷ digits) ≡ unsigned_value (byte ∷ digits) = cond-false _ _ _ f in (
          (λ e. let p = if_some (is_numeral (byte ∷ digits)) (pos (digits_value 10 (byte ∷ digits))) z (sym is ∙ e) in
              inl (digits_value 10 (byte ∷ digits), ((numeral_exact (byte ∷ digits)).0 p.0, refl), sym p.1)),
          (λ s. ⊎_elim (λ k. is ∙ cond-true _ _ _ ((numeral_exact (byte ∷ digits)).1 k.1.0) ∙ ap Some (ap pos k.1.1 ∙ sym k.2))
              (λ k. let first : byte ≡ 45 = ap (λ w. slice_index_or w 0 0) k.2 in absurd (grind (arith, nat_tests, f, first))) s),
        )

fits_exact : (z : ℤ) → (fits_64 z ≡ true) ↔ IsNumber z
fits_exact (pos n) = ((λ e. record { sfits = omega (arith, lt_of n (2 ^ 63) e) }), (λ h. of_lt n (2 ^ 63) (omega (arith, h.sfits))))
fits_exact (negsuc n) = ((λ e. record { sfits = omega (arith, lt_of n (2 ^ 63) e) }), (λ h. of_lt n (2 ^ 63) (omega (arith, h.sfits))))

-- of what is read, that is kept which fits
pub kept_exact : {T : Type 0} (keeps : T → Bool) (Fits Says : T → Type 0) → ((x : T) → (keeps x ≡ true) ↔ Fits x) → (o : Option T) → ((x : T) → (o ≡ Some x) ↔ Says x)
    → (x : T) → (onward o (λ y. if keeps y then Some y else None) ≡ Some x) ↔ (Fits x × Says x)
kept_exact keeps Fits Says fits None all x = ((λ e. absurd (none-some x e)), (λ k. absurd (none-some x ((all x).1 k.1))))
kept_exact keeps Fits Says fits (Some y) all x = (
  (λ e. let p = if_some (keeps y) y x e in (subst Fits p.1 ((fits y).0 p.0), (all x).0 (ap Some p.1))),
  (λ k. let same = same_Some y x ((all x).1 k.1) in cond-true _ _ _ ((fits y).1 (subst Fits (sym same) k.0)) ∙ ap Some same),
)

pub signed_exact : (word : List ℕ) (z : ℤ) → (signed_of word ≡ Some z) ↔ (IsNumber z × SaysSigned word z)
unfolding signed_of
signed_exact word z = kept_exact fits_64 IsNumber (SaysSigned word) fits_exact (integer_value word) (integer_exact word) z

pub signed_is : (word : List ℕ) (r : Option ℤ) → ((z : ℤ) → (r ≡ Some z) ↔ (IsNumber z × SaysSigned word z)) → r ≡ signed_of word
signed_is word r all = same_options r (signed_of word) (λ z. IsNumber z × SaysSigned word z) all (signed_exact word)

-- ---- fewer bits

-- what fits the fewer bits fits the more ones
fewer : {Read Fits Wide Says : Type 0} → (Fits → Wide) → Read ↔ (Fits × (Wide × Says)) → Read ↔ (Fits × Says)
fewer wider e = ((λ read. let k = e.0 read in (k.0, k.1.1)), (λ k. e.1 (k.0, (wider k.0, k.1))))

below_exact : (bound n : ℕ) → (nat_lt n bound ≡ true) ↔ (n < bound)
below_exact bound n = ((λ t. lt_of n bound t), (λ low. of_lt n bound low))

pub narrow_exact : (word : List ℕ) (n : ℕ) → (narrow_of word ≡ Some n) ↔ (IsNarrow n × SaysNumber word n)
unfolding narrow_of
narrow_exact word n = fewer (λ low. omega (arith, low)) (kept_exact (λ m. nat_lt m (2 ^ 32)) IsNarrow (λ m. IsCount m × SaysNumber word m) (below_exact (2 ^ 32)) (number_of word) (number_exact word) n)

pub short_exact : (word : List ℕ) (n : ℕ) → (short_of word ≡ Some n) ↔ (IsShort n × SaysNumber word n)
unfolding short_of
short_exact word n = fewer (λ low. omega (arith, low)) (kept_exact (λ m. nat_lt m (2 ^ 16)) IsShort (λ m. IsCount m × SaysNumber word m) (below_exact (2 ^ 16)) (number_of word) (number_exact word) n)

pub byte_exact : (word : List ℕ) (n : ℕ) → (byte_of word ≡ Some n) ↔ (IsByte n × SaysNumber word n)
unfolding byte_of
byte_exact word n = fewer (λ low. omega (arith, low)) (kept_exact (λ m. nat_lt m (2 ^ 8)) IsByte (λ m. IsCount m × SaysNumber word m) (below_exact (2 ^ 8)) (number_of word) (number_exact word) n)

units_exact_fit : (z : ℤ) → (fits_32 z ≡ true) ↔ IsUnits z
units_exact_fit (pos n) = ((λ e. record { sfits = omega (arith, lt_of n (2 ^ 31) e) }), (λ h. of_lt n (2 ^ 31) (omega (arith, h.sfits))))
units_exact_fit (negsuc n) = ((λ e. record { sfits = omega (arith, lt_of n (2 ^ 31) e) }), (λ h. of_lt n (2 ^ 31) (omega (arith, h.sfits))))

pub units_exact : (word : List ℕ) (z : ℤ) → (units_of word ≡ Some z) ↔ (IsUnits z × SaysSigned word z)
unfolding units_of
units_exact word z = fewer (units_are_numbers z) (kept_exact fits_32 IsUnits (λ y. IsNumber y × SaysSigned word y) units_exact_fit (signed_of word) (signed_exact word) z)

pub short_is : (word : List ℕ) (r : Option ℕ) → ((n : ℕ) → (r ≡ Some n) ↔ (IsShort n × SaysNumber word n)) → r ≡ short_of word
short_is word r all = same_options r (short_of word) (λ n. IsShort n × SaysNumber word n) all (short_exact word)

pub byte_is : (word : List ℕ) (r : Option ℕ) → ((n : ℕ) → (r ≡ Some n) ↔ (IsByte n × SaysNumber word n)) → r ≡ byte_of word
byte_is word r all = same_options r (byte_of word) (λ n. IsByte n × SaysNumber word n) all (byte_exact word)

pub units_is : (word : List ℕ) (r : Option ℤ) → ((z : ℤ) → (r ≡ Some z) ↔ (IsUnits z × SaysSigned word z)) → r ≡ units_of word
units_is word r all = same_options r (units_of word) (λ z. IsUnits z × SaysSigned word z) all (units_exact word)

-- one that is read, as it is kept in 32 bits
pub units_read : (word : List ℕ) (z : ℤ) → ((x : ℤ) → (Some z ≡ Some x) ↔ (IsUnits x × SaysSigned word x)) → Some (to_z w32 (of_z w32 z)) ≡ units_of word
units_read word z all = ap Some (to_z-of_z w32 z ((all z).0 refl).0) ∙ units_is word (Some z) all

pub pair_read : (x y : ℤ) (meant : Option (ℤ × ℤ)) → IsUnits x → IsUnits y → Some (x, y) ≡ meant → Some (to_z w32 (of_z w32 x), to_z w32 (of_z w32 y)) ≡ meant
pair_read x y meant hx hy e = ap₂ (λ (a b : ℤ). Some (a, b)) (to_z-of_z w32 x hx) (to_z-of_z w32 y hy) ∙ e

-- as `try_from` has it
pub below_kept : {E : Type 0} (bound n : ℕ) (r : Result ℕ E) → OkIff r (n < bound) n → result_ok r ≡ kept_below bound n
below_kept bound n (Ok x) h = ap Some h.1 ∙ sym (cond-true _ _ _ (of_lt n bound h.0))
below_kept bound n (Err e) h = sym (cond-false _ _ _ (not_lt n bound h))

-- ---- trees

tree_parsed : (o : Option (List ℕ)) (tree : TreeId) → option_map tree_id o ≡ Some tree → o ≡ Some tree.0
tree_parsed None tree e = absurd (none-some tree e)
tree_parsed (Some bytes) tree e = ap Some (ap (λ (t : TreeId). t.0) (same_Some (tree_id bytes) tree e))

pub tree_exact : (word : List ℕ) (tree : TreeId) → (tree_of word ≡ Some tree) ↔ SaysTree word tree
unfolding tree_of
tree_exact word tree = ⊎_elim (λ t. named t) (λ f. other f) (cases_Bool (bytes_eq word (codes "root")))
  where
    named : bytes_eq word (codes "root") ≡ true → (tree_of word ≡ Some tree) ↔ SaysTree word tree
    named t =
        let called : word ≡ codes "root" = (bytes_eq-Decides word (codes "root")).0 t in
        let is : tree_of word ≡ Some root_tree_id = cond-true _ _ _ t in (
          (λ e. inl (called, sym (same_Some root_tree_id tree (sym is ∙ e)))),
          (λ s. ⊎_elim (λ k. is ∙ ap Some (sym k.1)) (λ p. let no : Some tree.0 ≡ parsed (codes "root") = sym p ∙ ap parsed called in cc) s),
        )

    other : bytes_eq word (codes "root") ≡ false → (tree_of word ≡ Some tree) ↔ SaysTree word tree
    other f =
        let is : tree_of word ≡ option_map tree_id (parsed word) = cond-false _ _ _ f in (
          (λ e. inr (tree_parsed (parsed word) tree (sym is ∙ e))),
          (λ s. ⊎_elim (λ k. absurd (true≢false (sym ((bytes_eq-Decides word (codes "root")).1 k.0) ∙ f))) (λ p. is ∙ ap (option_map tree_id) p) s),
        )

pub tree_is : (word : List ℕ) (r : Option TreeId) → ((tree : TreeId) → (r ≡ Some tree) ↔ SaysTree word tree) → r ≡ tree_of word
tree_is word r all = same_options r (tree_of word) (SaysTree word) all (tree_exact word)

-- ---- names

found_is_named : {T : Type 0} (name : T → List ℕ) (word : List ℕ) (values : List T) (value : T) → first_named name word values ≡ Some value → word ≡ name value
unfolding first_named
found_is_named name word [] value e = absurd (none-some value e)
found_is_named name word (first ∷ others) value e = ⊎_elim
    (λ t. sym ((bytes_eq-Decides (name first) word).0 t) ∙ ap name (same_Some first value (sym (cond-true _ _ _ t) ∙ e)))
    (λ f. found_is_named name word others value (sym (cond-false _ _ _ f) ∙ e))
    (cases_Bool (bytes_eq (name first) word))

-- where each value is the first with its name, a reading by names gives the first
pub named_is : {T : Type 0} (name : T → List ℕ) (values : List T) → ((value : T) → first_named name (name value) values ≡ Some value) → (word : List ℕ) (r : Option T) → ReadsNamed name word r → IsNamed name word r → r ≡ first_named name word values
named_is name values first word (Some value) reads only = sym (ap (λ w. first_named name w values) only ∙ first value)
named_is {T} name values first word None reads only = by (first_named name word values) (λ value e. found_is_named name word values value e)
  where
    by : (o : Option T) → ((value : T) → o ≡ Some value → word ≡ name value) → None ≡ o
    by None named = refl
    by (Some value) named = reads value (named value refl)

first_filter : (value : NamedFilter) → first_named filter_name (filter_name value) all_filters ≡ Some value
unfolding first_named
first_filter filter.All = refl
first_filter value = refl

first_side : (value : Side) → first_named side_name (side_name value) all_sides ≡ Some value
unfolding first_named
first_side side.Start = refl
first_side value = refl

pub filter_is : (word : List ℕ) (r : Option NamedFilter) → ReadsNamed filter_name word r → IsNamed filter_name word r → r ≡ filter_of word
filter_is word r reads only = named_is filter_name all_filters first_filter word r reads only

pub side_is : (word : List ℕ) (r : Option Side) → ReadsNamed side_name word r → IsNamed side_name word r → r ≡ side_of word
side_is word r reads only = named_is side_name all_sides first_side word r reads only

pub move_is : (word : List ℕ) (r : Option Move) → ReadsNamed move_name word r → IsNamed move_name word r → r ≡ move_of word
move_is word r reads only = named_is move_name all_moves first_move word r reads only
