-- The fields of a line, each by a step, as a reader goes over them.
use Rattle.std.proofs.Common.{◌≡◌, ◌≢◌, ℕ, List, [], ◌∷◌, ◌++◌, Bool, Bor, true, false, true≢false, if◌then◌else◌, Option, Some, None, is_some, option_copied, option_map, Result, Ok, Err, append_assoc, ap, refl, subst, sym, ◌∙◌}
use Rattle.std.proofs.lemmas.Option.{none-some, same_Some}
use Rattle.script_words.specs.Answering.{AnswersAs, put_next}
use Rattle.script_words.specs.Cuts.{part_before, rest_behind}
use Rattle.script_words.specs.Fields.{CutsField, Spot, after_byte, begun_by, begun_with, each_word, ends_word, fields_of, one_word, value_spot, words_from}
use Rattle.script_words.specs.Fields.Spot.{Front, Name, Plain}
use Rattle.script_words.specs.Meaning.{next_as, next_word, onward, some_word}
use Rattle.script_words.specs.Reading.{Lacks}
use Rattle.script_words.specs.Texts.{next_text, text_at, text_of}
use Rattle.script_words.specs.declared.stops.Stop.{Stop}
use Rattle.script_words.specs.declared.stops.Stop.TheVariants.{BadLine, Memory, ReadFault, WriteFault}
use Rattle.script_words.proofs.FieldCuts.{flag_words, name_words, plain_words}
use Rattle.script_words.proofs.Lacking.{lacks_nothing}
use Rattle.script_words.proofs.TextCuts.{front_of, others_of, text_words}

-- the words behind what is read
abbrev pub with_words : {D : Type 0} → (List ℕ → Bool) → D × Option (List ℕ) → D × List (List ℕ)
with_words takes_text read = (read.0, fields_of takes_text read.1)

abbrev pub map_words : {D : Type 0} → (List ℕ → Bool) → Option (D × Option (List ℕ)) → Option (D × List (List ℕ))
map_words {D} takes_text o = option_map {U = D × List (List ℕ)} (with_words takes_text) o

-- what is read, and then these words
abbrev pub and_words : {D : Type 0} → List (List ℕ) → D → Option (D × List (List ℕ))
and_words others next = Some (next, others)

-- a field that is cut off, by whether it has a value
pub cut_flag : (line left : Option (List ℕ)) (name : Bor (List ℕ)) (has_value : Bool) → has_value ≡ false → CutsField line (Ok (name, has_value)) left → Lacks 61 name.now × (next_word line ≡ Some (name.now, left))
cut_flag line left name true e cut = absurd (true≢false e)
cut_flag line left name false e cut = cut

pub cut_value : (line left : Option (List ℕ)) (name : Bor (List ℕ)) (has_value : Bool) → has_value ≡ true → CutsField line (Ok (name, has_value)) left
    → (text : List ℕ) × (left ≡ Some text) × (line ≡ Some (name.now ++ (61 ∷ text))) × Lacks 61 name.now × Lacks 32 name.now
cut_value line left name true e cut = cut
cut_value line left name false e cut = absurd (true≢false (sym e))

-- what is made of a text, and the words behind it
abbrev put_text : {D : Type 0} → (List ℕ → D) → List ℕ × List (List ℕ) → Option (D × List (List ℕ))
put_text put read = Some (put read.0, read.1)

-- ---- the value that comes next

module _ {D : Type 0} (takes_text : List ℕ → Bool) where
  -- a word
  pub plain_value : {T : Type 0} (meaning : List ℕ → Option T) (put : T → D) (more : List ℕ) → meaning [] ≡ None
      → onward (option_map put (meaning (front_of (words_from takes_text Plain more)))) (and_words (others_of (words_from takes_text Plain more)))
      ≡ map_words takes_text (option_map (put_next put) (next_as meaning (Some more)))
  plain_value {T} meaning put more none =
      ap (λ (words : List (List ℕ)). onward (option_map put (meaning (front_of words))) (and_words (others_of words))) (plain_words takes_text more) ∙ by (part_before 32 more)
    where
      read : (o : Option T) → onward (option_map put o) (and_words (fields_of takes_text (rest_behind 32 more)))
          ≡ map_words takes_text (option_map (put_next put) (onward o (λ value. Some (value, rest_behind 32 more))))
      read None = refl
      read (Some value) = refl

      by : (part : List ℕ) → onward (option_map put (meaning part)) (and_words (fields_of takes_text (rest_behind 32 more)))
          ≡ map_words takes_text (option_map (put_next put) (onward (some_word part (rest_behind 32 more)) (λ word. onward (meaning word.0) (λ value. Some (value, word.1)))))
      by [] = ap (λ (o : Option T). onward (option_map put o) (and_words (fields_of takes_text (rest_behind 32 more)))) none
      by (byte ∷ part) = read (meaning (byte ∷ part))

  -- a text
  pub text_value : (put : List ℕ → D) (more : List ℕ)
      → onward (option_map put (text_of (front_of (words_from takes_text Front more)))) (and_words (others_of (words_from takes_text Front more)))
      ≡ map_words takes_text (option_map (put_next put) (next_text (Some more)))
  text_value put more =
      from_words (text_of (front_of (words_from takes_text Front more))) (others_of (words_from takes_text Front more))
      ∙ ap (λ (o : Option (List ℕ × List (List ℕ))). onward o (put_text put)) (sym (text_words takes_text more))
      ∙ from_line (text_at more)
    where
      from_words : (o : Option (List ℕ)) (others : List (List ℕ)) → onward (option_map put o) (and_words others) ≡ onward (option_map {U = List ℕ × List (List ℕ)} (λ (t : List ℕ). (t, others)) o) (put_text put)
      from_words None others = refl
      from_words (Some t) others = refl

      from_line : (o : Option (List ℕ × Option (List ℕ))) → onward (option_map {U = List ℕ × List (List ℕ)} (λ (t : List ℕ × Option (List ℕ)). (t.0, fields_of takes_text t.1)) o) (put_text put)
          ≡ map_words takes_text (option_map (put_next put) o)
      from_line None = refl
      from_line (Some t) = refl

-- ---- the first word

module _ {D : Type 0} (takes_text : List ℕ → Bool) (step : List ℕ → D → Option D) where
  -- a name with a value, by what is meant by the value that comes next
  pub valued_word : (line name more : List ℕ) (before : D) (meant : Option (D × Option (List ℕ))) → line ≡ name ++ (61 ∷ more) → Lacks 61 name → Lacks 32 name
      → onward (step (name ++ 61 ∷ front_of (words_from takes_text (value_spot takes_text name) more)) before) (and_words (others_of (words_from takes_text (value_spot takes_text name) more))) ≡ map_words takes_text meant
      → one_word step (fields_of takes_text (Some line)) before ≡ map_words takes_text meant
  valued_word line name more before meant e equals space is =
      ap (λ words. one_word step words before) (ap (words_from takes_text (Name [])) e ∙ name_words takes_text [] name more space equals)
      ∙ begun (words_from takes_text (value_spot takes_text name) more)
      ∙ is
    where
      begun : (words : List (List ℕ)) → one_word step (begun_with (name ++ 61 ∷ []) words) before ≡ onward (step (name ++ 61 ∷ front_of words) before) (and_words (others_of words))
      begun [] = refl
      begun (value ∷ others) = ap (λ w. onward (step w before) (and_words others)) (append_assoc name (61 ∷ []) value)

  -- a name without a value
  pub flag_word : (line : Option (List ℕ)) (name : List ℕ) (left : Option (List ℕ)) (before : D) → next_word line ≡ Some (name, left) → Lacks 61 name
      → one_word step (fields_of takes_text line) before ≡ onward (step name before) (and_words (fields_of takes_text left))
  flag_word None name left before e lacks = absurd (none-some (name, left) e)
  flag_word (Some text) name left before e lacks =
      let is = parts (part_before 32 text) (rest_behind 32 text) e in
      ap (λ words. one_word step words before) (flag_words takes_text [] text (subst (Lacks 61) (sym is.0) lacks))
      ∙ ap (λ n. onward (step n before) (and_words (fields_of takes_text (rest_behind 32 text)))) is.0
      ∙ ap (λ l. onward (step name before) (and_words (fields_of takes_text l))) is.1
    where
      parts : (part : List ℕ) (behind : Option (List ℕ)) → some_word part behind ≡ Some (name, left) → (part ≡ name) × (behind ≡ left)
      parts [] behind e = absurd (none-some (name, left) e)
      parts (byte ∷ part) behind e =
          let k = same_Some (byte ∷ part, behind) (name, left) e in
          (ap (λ (w : List ℕ × Option (List ℕ)). w.0) k, ap (λ (w : List ℕ × Option (List ℕ)). w.1) k)

  -- no word at all
  pub no_word : (line : Option (List ℕ)) (before : D) → step [] before ≡ None → next_word line ≡ None → one_word step (fields_of takes_text line) before ≡ None
  no_word None before none e = refl
  no_word (Some text) before none e =
      let empty : part_before 32 text ≡ [] = no_part (part_before 32 text) (rest_behind 32 text) e in
      ap (λ words. one_word step words before) (flag_words takes_text [] text (subst (Lacks 61) (sym empty) (lacks_nothing 61)))
      ∙ ap (λ w. onward (step w before) (and_words (fields_of takes_text (rest_behind 32 text)))) empty
      ∙ ap (λ (o : Option D). onward o (and_words (fields_of takes_text (rest_behind 32 text)))) none
    where
      no_part : (part : List ℕ) (behind : Option (List ℕ)) → some_word part behind ≡ None → part ≡ []
      no_part [] behind e = refl
      no_part (byte ∷ part) behind e = absurd (none-some (byte ∷ part, behind) (sym e))

-- ---- one word after another

module _ {D : Type 0} (step : List ℕ → D → Option D) where
  -- after one word the others mean what all meant
  pub goes_on : (words : List (List ℕ)) (before : D) (next : D × List (List ℕ)) (meant : Option D) → one_word step words before ≡ Some next → each_word step words before ≡ meant → each_word step next.1 next.0 ≡ meant
  unfolding each_word
  goes_on [] before next meant e i = absurd (none-some next e)
  goes_on (word ∷ others) before next meant e i = by (step word before) e i
    where
      by : (o : Option D) → onward o (λ n. Some (n, others)) ≡ Some next → onward o (λ n. each_word step others n) ≡ meant → each_word step next.1 next.0 ≡ meant
      by None e i = absurd (none-some next e)
      by (Some n) e i = let k = same_Some {A = D × List (List ℕ)} (n, others) next e in sym (ap (λ (p : D × List (List ℕ)). each_word step p.1 p.0) k) ∙ i

  -- a word that means nothing makes all mean nothing
  pub stops : (words : List (List ℕ)) (before : D) (meant : Option D) → words ≢ [] → one_word step words before ≡ None → each_word step words before ≡ meant → meant ≡ None
  unfolding each_word
  stops [] before meant some e i = absurd (some refl)
  stops (word ∷ others) before meant some e i = by (step word before) e i
    where
      by : (o : Option D) → onward {U = D × List (List ℕ)} o (λ n. Some (n, others)) ≡ None → onward o (λ n. each_word step others n) ≡ meant → meant ≡ None
      by None e i = sym i
      by (Some n) e i = absurd (none-some (n, others) (sym e))

  pub ended : (before : D) (meant : Option D) → each_word step [] before ≡ meant → meant ≡ Some before
  unfolding each_word
  ended before meant i = sym i

-- what is left of a line has a word
module _ (takes_text : List ℕ → Bool) where
  some_words : (spot : Spot) (text : List ℕ) → words_from takes_text spot text ≡ [] → ⊥
  unfolding words_from
  some_words spot [] e = cc
  some_words spot (byte ∷ text) e = by (ends_word spot byte) e
    where
      begun : (words : List (List ℕ)) → begun_by byte words ≡ [] → ⊥
      begun [] e = cc
      begun (word ∷ others) e = cc

      by : (b : Bool) → (if b then [] ∷ words_from takes_text (Name []) text else begun_by byte (words_from takes_text (after_byte takes_text spot byte) text)) ≡ [] → ⊥
      by true e = cc
      by false e = begun (words_from takes_text (after_byte takes_text spot byte) text) e

  pub some_fields : (rest : Option (Bor (List ℕ))) → true ≡ is_some rest → fields_of takes_text (option_copied rest) ≢ []
  some_fields None t e = true≢false t
  some_fields (Some text) t e = some_words (Name []) text.now e

-- ---- what is answered while they are read

module _ {D : Type 0} (takes_text : List ℕ → Bool) (step : List ℕ → D → Option D) where
  -- a field isn't read, and all mean nothing
  pub none_read : {U V : Type 0} (rest : Option (Bor (List ℕ))) (before : D) (meant : Option D) (stop : Stop) (one : U → D × List (List ℕ)) (all : V → D) → true ≡ is_some rest
      → AnswersAs (one_word step (fields_of takes_text (option_copied rest)) before) (Err stop) one
      → each_word step (fields_of takes_text (option_copied rest)) before ≡ meant → AnswersAs meant (Err stop) all
  none_read rest before meant BadLine one all t a i = stops step (fields_of takes_text (option_copied rest)) before meant (some_fields takes_text rest t) a i
  none_read rest before meant Memory one all t a i = tt
  none_read rest before meant ReadFault one all t a i = absurd a
  none_read rest before meant WriteFault one all t a i = absurd a

  -- all fields are read
  pub all_read : (rest : Option (Bor (List ℕ))) (before : D) (meant : Option D) → false ≡ is_some rest → each_word step (fields_of takes_text (option_copied rest)) before ≡ meant → meant ≡ Some before
  all_read None before meant f i = ended step before meant i
  all_read (Some text) before meant f i = absurd (true≢false (sym f))
