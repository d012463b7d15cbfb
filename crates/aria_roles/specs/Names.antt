-- The roles that a name of ARIA stands for.
use Rattle.std.specs.Prelude.{ℕ, Bool, ◌&&◌, List, Option, option_map, find}
use Rattle.std.specs.Borrow.{Bor}
use Rattle.std.specs.List.{list_any}
use Rattle.std.specs.Str.{bytes_eq, str_eq_ignore_ascii_case}
use Rattle.schema.specs.declared.Role.{Role}
use Rattle.schema.specs.Roles.{same_role}
use Rattle.aria_roles.specs.AriaRoles.{aria_roles}

-- an entry of the table, as its role and its text
abbrev pub entry_of : Role × Bor (List ℕ) → Role × List ℕ
entry_of entry = (entry.0, entry.1.now)

-- the entry that has this name, in any case
abbrev pub named : List ℕ → Option (Role × List ℕ)
named word = find (λ entry. str_eq_ignore_ascii_case entry.1 word) aria_roles

-- the name of the table that a word is, in any case
abbrev pub aria_name : List ℕ → Option (List ℕ)
aria_name word = option_map (λ entry. entry.1) (named word)

-- whether a role has this name in the table
abbrev pub has_aria_name : Role → List ℕ → Bool
has_aria_name role name = list_any (λ entry. same_role entry.0 role && bytes_eq entry.1 name) aria_roles
