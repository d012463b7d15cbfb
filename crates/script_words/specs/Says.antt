-- The value that a word stands for, in each form that a script may use.
use Rattle.std.specs.Prelude.{ℕ, ℤ, pos, neg_ℤ, ◌≡◌, ◌⊎◌, List, ◌++◌, codes, Some, MatchOption}
use Rattle.std.specs.Str.Parse.{IsNumeral, digits_value}
use Rattle.uuid.specs.Text.{parsed}
use Rattle.schema.specs.RoleNames.{role_name, other_number}
use Rattle.schema.specs.TreeIds.{root_tree_id}
use Rattle.schema.specs.declared.Role.{Role}
use Rattle.schema.specs.declared.TreeId.{TreeId}
use Rattle.schema.specs.declared.actions.Action.{Action}
use Rattle.schema.specs.declared.actions.Action.TheVariants.{Click, Focus, Increment, Decrement, Other}

-- a number's decimal digits, with any zeros before them
abbrev pub SaysNumber : List ℕ → ℕ → Type 0
SaysNumber word n = IsNumeral 10 word × (digits_value 10 word ≡ n)

-- those, or a minus sign and those of the number without its sign
abbrev pub SaysSigned : List ℕ → ℤ → Type 0
SaysSigned word z =
    ((n : ℕ) × SaysNumber word n × (z ≡ pos n))
    ⊎ ((digits : List ℕ) × (n : ℕ) × (word ≡ codes "-" ++ digits) × SaysNumber digits n × (z ≡ neg_ℤ (pos n)))

-- `Other` with a number in brackets
abbrev pub SaysOther : List ℕ → ℕ → Type 0
SaysOther word n = (digits : List ℕ) × (word ≡ codes "Other(" ++ digits ++ codes ")") × SaysNumber digits n

-- a role's name, and of an other one that
abbrev pub SaysRole : List ℕ → Role → Type 0
SaysRole word role = MatchOption (other_number role) (word ≡ role_name role) (SaysOther word)

abbrev pub SaysAction : List ℕ → Action → Type 0
SaysAction word Click = word ≡ codes "Click"
SaysAction word Focus = word ≡ codes "Focus"
SaysAction word Increment = word ≡ codes "Increment"
SaysAction word Decrement = word ≡ codes "Decrement"
SaysAction word (Other code) = SaysOther word code

-- `root`, or a UUID in one of its four forms
abbrev pub SaysTree : List ℕ → TreeId → Type 0
SaysTree word tree = ((word ≡ codes "root") × (tree ≡ root_tree_id)) ⊎ (parsed word ≡ Some tree.0)
