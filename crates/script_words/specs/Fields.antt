-- The fields of a line: its words, of which each is NAME=VALUE, or NAME alone. A text may have spaces in its quotes.
use Rattle.std.specs.Prelude.{ℕ, ◌==◌, Bool, true, false, List, [], ◌∷◌, ◌++◌, Option, Some, None, Result, Ok, Err, ◌≡◌, if◌then◌else◌}
use Rattle.std.specs.Borrow.{Bor}
use Rattle.script_words.specs.Cuts.{part_before, rest_behind}
use Rattle.script_words.specs.Meaning.{next_word, onward}
use Rattle.script_words.specs.Reading.{Lacks}
use Rattle.script_words.specs.declared.stops.Stop.{Stop}
use Rattle.script_words.specs.declared.stops.Stop.TheVariants.{BadLine}

-- Where a line is within a word: in a name, of which this is read; at the front of a text, in its quotes, and there behind a backslash;
-- or elsewhere in a value.
pub data Spot : Type 0 where
  Name : (name : List ℕ) → Spot
  Front : Spot
  Quoted : Spot
  Escaped : Spot
  Plain : Spot

-- where a value begins, by whether the field with this name takes a text
abbrev pub value_spot : (List ℕ → Bool) → List ℕ → Spot
value_spot takes_text name = if takes_text name then Front else Plain

abbrev pub after_byte : (List ℕ → Bool) → Spot → ℕ → Spot
after_byte takes_text (Name name) byte = if byte == 61 then value_spot takes_text name else Name (name ++ byte ∷ [])
after_byte takes_text Front byte = if byte == 34 then Quoted else Plain
after_byte takes_text Quoted byte = if byte == 34 then Plain else if byte == 92 then Escaped else Quoted
after_byte takes_text Escaped byte = Quoted
after_byte takes_text Plain byte = Plain

-- a word ends at a space outside of quotes
abbrev pub ends_word : Spot → ℕ → Bool
ends_word (Name name) byte = byte == 32
ends_word Front byte = byte == 32
ends_word Quoted byte = false
ends_word Escaped byte = false
ends_word Plain byte = byte == 32

abbrev pub begun_by : ℕ → List (List ℕ) → List (List ℕ)
begun_by byte [] = (byte ∷ []) ∷ []
begun_by byte (word ∷ others) = (byte ∷ word) ∷ others

unfoldable pub words_from : (List ℕ → Bool) → Spot → List ℕ → List (List ℕ)
words_from takes_text spot [] = [] ∷ []
words_from takes_text spot (byte ∷ text) =
    if ends_word spot byte then [] ∷ words_from takes_text (Name []) text
    else begun_by byte (words_from takes_text (after_byte takes_text spot byte) text)

-- the fields of what is left of a line
abbrev pub fields_of : (List ℕ → Bool) → Option (List ℕ) → List (List ℕ)
fields_of takes_text None = []
fields_of takes_text (Some text) = words_from takes_text (Name []) text

abbrev pub name_of : List ℕ → List ℕ
name_of word = part_before 61 word

abbrev pub value_of : List ℕ → Option (List ℕ)
value_of word = rest_behind 61 word

-- each word by this step, one after another
unfoldable pub each_word : {D : Type 0} → (List ℕ → D → Option D) → List (List ℕ) → D → Option D
each_word step [] before = Some before
each_word step (word ∷ others) before = onward (step word before) (λ next. each_word step others next)

-- ---- how a reader goes over them

-- what comes next, up to its value: the words that begin with the value of a field with this name
abbrev pub value_words : (List ℕ → Bool) → List ℕ → Option (List ℕ) → List (List ℕ)
value_words takes_text name None = []
value_words takes_text name (Some text) = words_from takes_text (value_spot takes_text name) text

-- the first word by this step, and the others
abbrev pub one_word : {D : Type 0} → (List ℕ → D → Option D) → List (List ℕ) → D → Option (D × List (List ℕ))
one_word step [] before = None
one_word step (word ∷ others) before = onward (step word before) (λ next. Some (next, others))

-- a front of the first word, and the words without it
abbrev pub begun_with : List ℕ → List (List ℕ) → List (List ℕ)
begun_with front [] = front ∷ []
begun_with front (word ∷ others) = (front ++ word) ∷ others

-- A field is cut off: its name, and whether its value comes next. The word begins with the name and an equals sign then, and else is the
-- name; or there is no word, and the line is bad.
abbrev pub CutsField : Option (List ℕ) → Result (Bor (List ℕ) × Bool) Stop → Option (List ℕ) → Type 0
CutsField line (Ok (name, true)) left =
    (more : List ℕ) × (left ≡ Some more) × (line ≡ Some (name.now ++ (61 ∷ more))) × Lacks 61 name.now × Lacks 32 name.now
CutsField line (Ok (name, false)) left = Lacks 61 name.now × (next_word line ≡ Some (name.now, left))
CutsField line (Err stop) left = (stop ≡ BadLine) × (next_word line ≡ None)
