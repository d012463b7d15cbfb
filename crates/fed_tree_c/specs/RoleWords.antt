-- The names of roles.
use Rattle.std.specs.Prelude.{◌⊎◌, ℕ, List, Option, option_map}
use Rattle.schema.specs.declared.Role.{Role}
use Rattle.role_names.specs.Names.{shown_name}
use Rattle.fed_tree_c.specs.Answers.{GivesList, IsNoMemory, NO_SUCH}
use Rattle.fed_tree_c.specs.Numbers.{IsRoleNumbered}

-- the name of the role with this number is answered, if there is one, or memory for it ran out
abbrev pub NamesRole : ℕ → ℕ → List ℕ → List ℕ → ℕ → ℕ → Type 0
NamesRole number status old new old_length new_length =
    (role : Option Role) × IsRoleNumbered number role
    × (GivesList NO_SUCH (option_map shown_name role) status old new old_length new_length
    ⊎ IsNoMemory status old new old_length new_length)
