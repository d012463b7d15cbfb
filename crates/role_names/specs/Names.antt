-- The name, the word and the number of a role that is sent by a number.
use Rattle.std.specs.Prelude.{ℕ, List, ◌==◌, Option, option_map, option_and_then, unwrap_or, find}
use Rattle.std.specs.Borrow.{Bor}
use Rattle.std.specs.Str.{bytes_eq}
use Rattle.schema.specs.declared.Role.{Role}
use Rattle.schema.specs.RoleNames.{other_number, role_text}
use Rattle.role_names.specs.OtherRoles.{other_roles}

-- an entry of the table, as its number and texts
abbrev pub entry_of : ℕ × Bor (List ℕ) × Bor (List ℕ) → ℕ × List ℕ × List ℕ
entry_of entry = (entry.0, entry.1.now, entry.2.now)

-- the entry with this number
abbrev pub numbered : ℕ → Option (ℕ × List ℕ × List ℕ)
numbered number = find (λ entry. entry.0 == number) other_roles

-- the entry with this name
abbrev pub named : List ℕ → Option (ℕ × List ℕ × List ℕ)
named name = find (λ entry. bytes_eq entry.1 name) other_roles

-- the name at a number
abbrev pub name_of : ℕ → Option (List ℕ)
name_of number = option_map (λ entry. entry.1) (numbered number)

-- the word at a number
abbrev pub word_of : ℕ → Option (List ℕ)
word_of number = option_map (λ entry. entry.2) (numbered number)

-- the number at a name
abbrev pub number_named : List ℕ → Option ℕ
number_named name = option_map (λ entry. entry.0) (named name)

-- a role's name as it is shown: that of the table where it has one there, and else as the role prints
abbrev pub shown_name : Role → List ℕ
shown_name role = unwrap_or (option_and_then name_of (other_number role)) (role_text role)
