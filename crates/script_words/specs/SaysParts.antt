-- The value of a word that has parts separated by commas or a colon.
use Rattle.std.specs.Prelude.{ℕ, ℤ, ◌≡◌, ◌⊎◌, List, [], ◌∷◌, ◌++◌, codes, Option, Some, None}
use Rattle.schema.specs.declared.NodeId.{NodeId}
use Rattle.schema.specs.declared.actions.Action.{Action}
use Rattle.schema.specs.declared.geometry.Rect.{Rect}
use Rattle.schema.specs.declared.geometry.Translation.{Translation}
use Rattle.schema.specs.declared.values.Color.{Color}
use Rattle.schema.specs.declared.values.TextDecoration.{TextDecoration}
use Rattle.schema.specs.declared.values.TextPosition.{TextPosition}
use Rattle.schema.specs.declared.values.TextSelection.{TextSelection}
use Rattle.script_words.specs.Names.{decoration_style_name}
use Rattle.script_words.specs.Reading.{IsAction, IsId, IsShort, IsUnits, behind}
use Rattle.script_words.specs.Says.{SaysAction, SaysNumber, SaysSigned}

-- ---- two parts, or four

-- this character is between a first part and a second one
abbrev pub SaysBoth : List ℕ → ℕ → (List ℕ → Type 0) → (List ℕ → Type 0) → Type 0
SaysBoth word c First Second = (first : List ℕ) × (second : List ℕ) × (word ≡ first ++ (c ∷ second)) × First first × Second second

-- two values with a comma between them, each said in this way; and four of them
abbrev pub SaysTwo : {T : Type 0} → (List ℕ → T → Type 0) → List ℕ → T → T → Type 0
SaysTwo Says word x y = SaysBoth word 44 (λ part. Says part x) (λ part. Says part y)

abbrev pub SaysFour : {T : Type 0} → (List ℕ → T → Type 0) → List ℕ → T → T → T → T → Type 0
SaysFour Says word a b c d =
    SaysBoth word 44 (λ part. Says part a) (λ rest. SaysBoth rest 44 (λ part. Says part b) (λ rest. SaysTwo Says rest c d))

abbrev pub SaysPair : List ℕ → ℤ → ℤ → Type 0
SaysPair = SaysTwo SaysSigned

abbrev pub SaysRect : List ℕ → Rect → Type 0
SaysRect word r = SaysFour SaysSigned word r.x0 r.y0 r.x1 r.y1

abbrev pub SaysTranslation : List ℕ → Translation → Type 0
SaysTranslation word t = SaysPair word t.x t.y

abbrev pub SaysPlace : List ℕ → TextPosition → Type 0
SaysPlace word p = SaysBoth word 58 (λ part. SaysNumber part p.node.0) (λ part. SaysNumber part p.character_index)

abbrev pub SaysSelection : List ℕ → TextSelection → Type 0
SaysSelection word s = SaysTwo SaysPlace word s.anchor s.focus

abbrev pub SaysBytes : List ℕ → ℕ → ℕ → Type 0
SaysBytes = SaysTwo SaysNumber

abbrev pub SaysColor : List ℕ → Color → Type 0
SaysColor word c = SaysFour SaysNumber word c.red c.green c.blue c.alpha

abbrev pub SaysDecoration : List ℕ → TextDecoration → Type 0
SaysDecoration word d = SaysBoth word 44 (λ part. part ≡ decoration_style_name d.style) (λ rest. SaysColor rest d.color)

-- ---- lists

-- the rest, if there is any, consists of parts separated by commas, each standing for its item
abbrev pub SaysItems : {T : Type 0} → (List ℕ → T → Type 0) → Option (List ℕ) → List T → Type 0
SaysItems Says left [] = left ≡ None
SaysItems Says left (item ∷ others) =
    (part : List ℕ) × (more : Option (List ℕ)) × (left ≡ Some (part ++ behind 44 more)) × Says part item × SaysItems Says more others

-- items of lists
abbrev pub SaysId : List ℕ → NodeId → Type 0
SaysId part id = IsId id × SaysNumber part id.0

abbrev pub SaysShort : List ℕ → ℕ → Type 0
SaysShort part n = IsShort n × SaysNumber part n

abbrev pub SaysListed : List ℕ → Action → Type 0
SaysListed part action = IsAction action × SaysAction part action

abbrev pub SaysUnits : List ℕ → ℤ → Type 0
SaysUnits part z = IsUnits z × SaysSigned part z

-- `-` for an empty list
abbrev pub SaysUnitList : List ℕ → List ℤ → Type 0
SaysUnitList word units = ((word ≡ codes "-") × (units ≡ [])) ⊎ SaysItems SaysUnits (Some word) units
