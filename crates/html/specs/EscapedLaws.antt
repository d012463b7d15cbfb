-- What is proved of what is written of a text.
use Rattle.std.specs.Prelude.{◌≡◌, ◌≢◌, ℕ, ◌==◌, nat_eq, List, [], ◌∷◌, ◌++◌, codes, flat_map, Bool, ◌||◌, IsTrue, if◌then◌else◌}
use Rattle.std.specs.List.{starts_with}
use Rattle.html.specs.Escaped.{replacement, escaped}

-- the text that follows begins with one of the six entities
abbrev pub begins_entity : List ℕ → Bool
begins_entity page =
    starts_with nat_eq page (codes "&lt;") || starts_with nat_eq page (codes "&gt;") || starts_with nat_eq page (codes "&amp;")
    || starts_with nat_eq page (codes "&quot;") || starts_with nat_eq page (codes "&#39;") || starts_with nat_eq page (codes "&#13;")

-- a byte that is none of <, >, " and '
abbrev pub IsNoMarkup : ℕ → Type 0
IsNoMarkup byte = (byte ≢ 60) × (byte ≢ 62) × (byte ≢ 34) × (byte ≢ 39)

-- no byte from here on is markup, and each & begins an entity
abbrev pub IsInert : List ℕ → Type 0
IsInert [] = Unit {0}
IsInert (byte ∷ page) = IsNoMarkup byte × (byte ≡ 38 → IsTrue (begins_entity (byte ∷ page))) × IsInert page

-- nothing of what is written of a text is markup
abbrev pub NothingIsMarkup : Type 0
NothingIsMarkup = (text : List ℕ) → IsInert (escaped text)

-- an entity, and the byte that it stands for
pub data IsEntityOf : List ℕ → ℕ → Type 0 where
  less : IsEntityOf (codes "&lt;") 60
  greater : IsEntityOf (codes "&gt;") 62
  ampersand : IsEntityOf (codes "&amp;") 38
  quote : IsEntityOf (codes "&quot;") 34
  apostrophe : IsEntityOf (codes "&#39;") 39
  carriage_return : IsEntityOf (codes "&#13;") 13

-- a byte that a page shows as it is: it begins no entity and no tag, and isn't dropped, as U+0000 is, or made a line feed, as a
-- carriage return is
pub record IsShownAsItIs (byte : ℕ) : Type 0 where
  pub no_entity : byte ≢ 38
  pub no_tag : byte ≢ 60
  pub not_dropped : byte ≢ 0
  pub not_changed : byte ≢ 13

-- a page shows a text: each entity as the byte that it stands for, any other byte as it is; no other page shows any
pub data Shows : List ℕ → List ℕ → Type 0 where
  nothing : Shows [] []
  entity : (name page text : List ℕ) (byte : ℕ) → IsEntityOf name byte → Shows page text → Shows (name ++ page) (byte ∷ text)
  itself : (byte : ℕ) (page text : List ℕ) → IsShownAsItIs byte → Shows page text → Shows (byte ∷ page) (byte ∷ text)

-- a byte of a text as it can be shown: U+FFFD for U+0000, which no page can show
abbrev pub showable_byte : ℕ → List ℕ
showable_byte byte = if byte == 0 then replacement else byte ∷ []

abbrev pub showable : List ℕ → List ℕ
showable text = flat_map showable_byte text

-- what is written of a text shows the text
abbrev pub TextsAreShown : Type 0
TextsAreShown = (text : List ℕ) → Shows (escaped text) (showable text)
