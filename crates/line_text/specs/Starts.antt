-- The words of a line, and their names.
use Rattle.std.specs.Prelude.{ℕ, ◌+◌, ◌==◌, ◌≡◌, ◌<◌, List, fold, take, drop, length, Bool, false, ◌||◌, if◌then◌else◌, Option, MatchOption}
use Rattle.std.specs.Borrow.{Bor}
use Rattle.std.specs.List.{list_any, position_or_len}
use Rattle.std.specs.Str.{bytes_eq}
use Rattle.line_text.specs.declared.starts.Spot.{Spot}
use Rattle.line_text.specs.declared.starts.Spot.TheVariants.{Start, Word, Quoted, Escaped}

-- where a line is after one more byte: a space ends a word, unless it is in quotes; in quotes, a backslash escapes the byte after it
abbrev pub outside : ℕ → Spot
outside byte = if byte == 32 then Start else if byte == 34 then Quoted else Word

abbrev pub after_byte : Spot → ℕ → Spot
after_byte Start byte = outside byte
after_byte Word byte = outside byte
after_byte Quoted byte = if byte == 34 then Word else if byte == 92 then Escaped else Quoted
after_byte Escaped byte = Quoted

-- where it is after this text
abbrev pub spot_after : List ℕ → Spot
spot_after text = fold after_byte Start text

-- a word's name ends at an equals sign
abbrev pub ends_name : ℕ → Bool
ends_name byte = byte == 61 || byte == 32

abbrev pub name_length : List ℕ → ℕ
name_length text = position_or_len ends_name text

-- the name at the front of a text
abbrev pub name_at : List ℕ → List ℕ
name_at text = take (name_length text) text

-- one of these texts is the name
abbrev pub is_among : List (Bor (List ℕ)) → List ℕ → Bool
is_among names name = list_any (λ known. bytes_eq known.now name) names

-- there is a name at the front, and it is none of those that are known
abbrev pub IsUnknown : (List ℕ → Bool) → List ℕ → Type 0
IsUnknown is_known text = (0 < length (name_at text)) × (is_known (name_at text) ≡ false)

-- a word begins here, and its name is none of those
pub record IsUnknownAt (is_known : List ℕ → Bool) (text : List ℕ) (start : ℕ) : Type 0 where
  pub within : start < length text
  pub begins : spot_after (take start text) ≡ Start
  pub unknown : IsUnknown is_known (drop start text)

-- after this byte, a space, the next word begins
abbrev pub IsCutAt : List ℕ → ℕ → Type 0
IsCutAt text end = (end < length text) × (spot_after (take (end + 1) text) ≡ Start)

-- the first place with this property, if there is one
abbrev pub IsFirst : (ℕ → Type 0) → Option ℕ → Type 0
IsFirst P result = MatchOption result ((k : ℕ) → ¬ (P k)) (λ i. P i × ((k : ℕ) → k < i → ¬ (P k)))
