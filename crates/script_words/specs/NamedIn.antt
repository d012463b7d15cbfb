-- Values by their names: the value beside a word in a table, and what a reading of a name gives.
use Rattle.std.specs.Prelude.{ℕ, List, [], ◌∷◌, Option, Some, None, IfSome, ◌≡◌, if◌then◌else◌}
use Rattle.std.specs.Borrow.{Bor}
use Rattle.std.specs.Str.{bytes_eq}

-- beside the word's first place in it
unfoldable pub named_in : {T : Type 0} → List ℕ → List (Bor (List ℕ) × T) → Option T
named_in word [] = None
named_in word (entry ∷ others) = if bytes_eq entry.0.now word then Some entry.1 else named_in word others

-- the first of these values that has the word as its name
unfoldable pub first_named : {T : Type 0} → (T → List ℕ) → List ℕ → List T → Option T
first_named name word [] = None
first_named name word (value ∷ others) = if bytes_eq (name value) word then Some value else first_named name word others

-- a value is read from its name
abbrev pub ReadsNamed : {T : Type 0} → (T → List ℕ) → List ℕ → Option T → Type 0
ReadsNamed {T} name word result = (value : T) → word ≡ name value → result ≡ Some value

-- what is read has the word as its name
abbrev pub IsNamed : {T : Type 0} → (T → List ℕ) → List ℕ → Option T → Type 0
IsNamed name word result = IfSome result (λ value. word ≡ name value)
