-- The beginning of the rest of a line.
use mir.Syntax.{w32, w64}
use Rattle.std.specs.Prelude.{ℕ, ℤ, ◌<◌, ◌^◌, All, FitsSigned, List, [], ◌∷◌, ◌++◌, length, slice_index_or, Option, Some, None, Result, Ok, MatchResult, option_copied, ◌≡◌, ◌≢◌}
use Rattle.schema.specs.declared.NodeId.{NodeId}
use Rattle.schema.specs.declared.Role.{Role}
use Rattle.schema.specs.declared.Role.TheVariants as role
use Rattle.schema.specs.declared.TreeId.{TreeId}
use Rattle.schema.specs.declared.actions.Action.{Action}
use Rattle.schema.specs.declared.actions.Action.TheVariants as action
use Rattle.schema.specs.declared.geometry.Rect.{Rect}
use Rattle.schema.specs.declared.geometry.Translation.{Translation}
use Rattle.schema.specs.declared.values.Color.{Color}
use Rattle.schema.specs.declared.values.TextDecoration.{TextDecoration}
use Rattle.schema.specs.declared.values.TextPosition.{TextPosition}
use Rattle.schema.specs.declared.values.TextSelection.{TextSelection}
use Rattle.script_words.specs.declared.stops.Stop.{Stop}
use Rattle.script_words.specs.declared.stops.Stop.TheVariants.{Memory}
use Rattle.script_words.specs.declared.words.Words.{Words}

-- the text has no such byte
abbrev pub Lacks : ℕ → List ℕ → Type 0
Lacks c text = (i : ℕ) → i < length text → slice_index_or text i 0 ≢ c

-- a word: no space is in it, and it isn't empty
abbrev pub IsWord : List ℕ → Type 0
IsWord text = Lacks 32 text × (0 < length text)

-- the rest, with this character before it
abbrev pub behind : ℕ → Option (List ℕ) → List ℕ
behind c None = []
behind c (Some rest) = c ∷ rest

-- the rest of a line, with the space before it
abbrev pub after : Option (List ℕ) → List ℕ
after = behind 32

-- this text comes next, and then the rest
abbrev pub Begins : Option (List ℕ) → List ℕ → Option (List ℕ) → Type 0
Begins line text left = line ≡ Some (text ++ after left)

-- a tree's name is sixteen bytes
abbrev pub IsTreeName : TreeId → Type 0
IsTreeName tree = (length tree.0 ≡ 16) × All (λ b. b < 256) tree.0

-- a number that fits 64 bits, or 32
abbrev pub IsCount : ℕ → Type 0
IsCount n = n < 2 ^ 64

abbrev pub IsNumber : ℤ → Type 0
IsNumber z = FitsSigned w64 z

abbrev pub IsUnits : ℤ → Type 0
IsUnits z = FitsSigned w32 z

abbrev pub IsNarrow : ℕ → Type 0
IsNarrow n = n < 2 ^ 32

-- and 16 bits, and eight
abbrev pub IsShort : ℕ → Type 0
IsShort n = n < 2 ^ 16

abbrev pub IsByte : ℕ → Type 0
IsByte n = n < 2 ^ 8

-- an id is a number of 64 bits
abbrev pub IsId : NodeId → Type 0
IsId id = IsCount id.0

-- ---- values whose numbers are within the bounds of their types

abbrev pub IsRect : Rect → Type 0
IsRect r = IsUnits r.x0 × IsUnits r.y0 × IsUnits r.x1 × IsUnits r.y1

abbrev pub IsTranslation : Translation → Type 0
IsTranslation t = IsUnits t.x × IsUnits t.y

abbrev pub IsPosition : TextPosition → Type 0
IsPosition p = IsId p.node × IsCount p.character_index

abbrev pub IsSelection : TextSelection → Type 0
IsSelection s = IsPosition s.anchor × IsPosition s.focus

abbrev pub IsColor : Color → Type 0
IsColor c = IsByte c.red × IsByte c.green × IsByte c.blue × IsByte c.alpha

abbrev pub IsDecoration : TextDecoration → Type 0
IsDecoration d = IsColor d.color

abbrev pub IsAction : Action → Type 0
IsAction a = (code : ℕ) → a ≡ action.Other code → IsByte code

abbrev pub IsRole : Role → Type 0
IsRole r = (code : ℕ) → r ≡ role.Other code → IsShort code

-- a node's name is within them
abbrev pub IsName : NodeId × TreeId → Type 0
IsName name = IsCount name.0.0 × IsTreeName name.1

-- a name of a field: a word without an equals sign
abbrev pub IsFieldName : List ℕ → Type 0
IsFieldName name = IsWord name × Lacks 61 name

-- what is read is such, unless memory runs out
abbrev pub Reads : {T : Type 0} → Result T Stop → (T → Type 0) → Type 0
Reads result P = MatchResult result P (λ stop. stop ≡ Memory)

-- what a reader hasn't read of its line
abbrev pub unread : Words → Option (List ℕ)
unread words = option_copied words.rest

-- Where a line goes on with the text of a value that fits, the value is read, and what follows it is left.
abbrev pub ReadsFit : {T : Type 0} → (T → Type 0) → (T → List ℕ) → Words → Result T Stop → Words → Type 0
ReadsFit {T} Fits text line result left =
    (value : T) (rest : Option (List ℕ)) → Fits value → Begins (unread line) (text value) rest
    → (result ≡ Ok value) × (unread left ≡ rest)

-- The same of any value.
abbrev pub ReadsAny : {T : Type 0} → (T → List ℕ) → Words → Result T Stop → Words → Type 0
ReadsAny {T} text line result left =
    (value : T) (rest : Option (List ℕ)) → Begins (unread line) (text value) rest
    → (result ≡ Ok value) × (unread left ≡ rest)
