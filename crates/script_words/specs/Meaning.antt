-- The meaning of what is read: one value, or none.
use Rattle.std.specs.Prelude.{ℕ, ◌≡◌, List, [], ◌∷◌, Option, Some, None, Result, Ok, Err, ⊤}
use Rattle.std.specs.Borrow.{Bor}
use Rattle.script_words.specs.Cuts.{part_before, rest_behind}
use Rattle.script_words.specs.declared.stops.Stop.{Stop}
use Rattle.script_words.specs.declared.stops.Stop.TheVariants.{BadLine, Memory, ReadFault, WriteFault}

-- one reading after another
abbrev pub onward : {T U : Type 0} → Option T → (T → Option U) → Option U
onward None more = None
onward (Some value) more = more value

-- The next word of what is left of a line, and what is left after it. It ends at a space, and isn't empty.
abbrev pub some_word : List ℕ → Option (List ℕ) → Option (List ℕ × Option (List ℕ))
some_word [] left = None
some_word (byte ∷ word) left = Some (byte ∷ word, left)

abbrev pub next_word : Option (List ℕ) → Option (List ℕ × Option (List ℕ))
next_word None = None
next_word (Some text) = some_word (part_before 32 text) (rest_behind 32 text)

-- the next word, as the value that it stands for
abbrev pub next_as : {T : Type 0} → (List ℕ → Option T) → Option (List ℕ) → Option (T × Option (List ℕ))
next_as meaning line = onward (next_word line) (λ word. onward (meaning word.0) (λ value. Some (value, word.1)))

-- The word is read, and what comes after it is left; or there is none, and the line is bad.
abbrev pub TakesWord : Option (List ℕ) → Result (Bor (List ℕ)) Stop → Option (List ℕ) → Type 0
TakesWord line (Ok word) left = next_word line ≡ Some (word.now, left)
TakesWord line (Err stop) left = (stop ≡ BadLine) × (next_word line ≡ None)

-- What is meant is read, and what comes after it is left; or nothing is meant, and the line is bad.
abbrev pub Takes : {T : Type 0} → Option (T × Option (List ℕ)) → Result T Stop → Option (List ℕ) → Type 0
Takes meant (Ok value) left = meant ≡ Some (value, left)
Takes meant (Err stop) left = (stop ≡ BadLine) × (meant ≡ None)

-- nothing is left of the line
abbrev pub ended : Option (List ℕ) → Option (Unit {0} × Option (List ℕ))
ended None = Some (tt, None)
ended (Some text) = None

-- so this is meant, and no more
abbrev pub only : {T : Type 0} → T → Option (List ℕ) → Option T
only value line = onward (ended line) (λ end. Some value)

-- the next word, which is the last
abbrev pub last_word : Option (List ℕ) → Option (List ℕ)
last_word line = onward (next_word line) (λ word. only word.0 word.1)

-- What is meant is read; or nothing is meant, and the line is bad.
abbrev pub Gives : {T : Type 0} → Option T → Result T Stop → Type 0
Gives meant (Ok value) = meant ≡ Some value
Gives meant (Err stop) = (stop ≡ BadLine) × (meant ≡ None)

-- the same of a word
abbrev pub GivesWord : Option (List ℕ) → Result (Bor (List ℕ)) Stop → Type 0
GivesWord meant (Ok word) = meant ≡ Some word.now
GivesWord meant (Err stop) = (stop ≡ BadLine) × (meant ≡ None)

-- What is meant is answered; where nothing is meant, that the line is bad; or there is no memory.
abbrev pub Answers : {T U : Type 0} → Option T → Result U Stop → (T → U → Type 0) → Type 0
Answers {T} meant (Ok read) Has = (value : T) × (meant ≡ Some value) × Has value read
Answers meant (Err BadLine) Has = meant ≡ None
Answers meant (Err Memory) Has = ⊤
Answers meant (Err ReadFault) Has = ⊥
Answers meant (Err WriteFault) Has = ⊥
