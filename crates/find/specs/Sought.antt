-- The role that an argument names.
use Rattle.std.specs.Prelude.{◌≡◌, ℕ, List, Option, Some, None}
use Rattle.schema.specs.declared.Role.{Role}
use Rattle.schema.specs.declared.Role.TheVariants.{Other}
use Rattle.script_words.specs.Reading.{IsRole}
use Rattle.script_words.specs.Says.{SaysRole}

-- a word that is the name of a number names the role of that number; any other names a role as in a script
abbrev pub IsSought : Option ℕ → List ℕ → Role → Type 0
IsSought (Some number) word role = role ≡ Other number
IsSought None word role = IsRole role × SaysRole word role
