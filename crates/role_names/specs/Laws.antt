-- What holds of the table of roles that are sent by a number.
use Rattle.std.specs.Prelude.{◌≡◌, ◌↔◌, ◌<◌, ℕ, List, length, Some, None, IfSome}
use Rattle.schema.specs.declared.Role.{Role}
use Rattle.schema.specs.RoleNames.{role_name}
use Rattle.role_names.specs.Names.{name_of, word_of, number_named}

-- a number has a name exactly if the name has that number: so no two numbers have one name, and no two names one number
abbrev pub NamesComeBack : Type 0
NamesComeBack = (number : ℕ) (name : List ℕ) → (name_of number ≡ Some name) ↔ (number_named name ≡ Some number)

-- no name of the table is the name of a role that has one of its own
abbrev pub NamesAreNew : Type 0
NamesAreNew = (role : Role) → number_named (role_name role) ≡ None

-- the numbers that have names begin with 256
abbrev pub NumbersBeginAt256 : Type 0
NumbersBeginAt256 = (number : ℕ) → number < 256 → name_of number ≡ None

-- no word is empty
abbrev pub WordsAreThere : Type 0
WordsAreThere = (number : ℕ) → IfSome (word_of number) (λ word. 0 < length word)
