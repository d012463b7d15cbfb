-- The name of a role that has a number.
use Rattle.std.proofs.Common.{◌≡◌, ◌⊎◌, ℕ, List, Option, option_map, Result, IfOk}
use Rattle.std.specs.Prelude.{MatchResult}
use Rattle.schema.specs.declared.Role.{Role}
use Rattle.role_names.specs.Names.{shown_name}
use Rattle.fed_tree_c.specs.Answers.{GivesList, IsNoMemory, NO_SUCH}
use Rattle.fed_tree_c.specs.Numbers.{IsRoleNumbered}
use Rattle.fed_tree_c.specs.RoleWords.{NamesRole}
use Rattle.fed_tree_c.proofs.Asked.{text_answered}

pub role_named : {S E : Type 0} (bytes : S → List ℕ) (number : ℕ) (role : Option Role) (found : Result (Option S) E) (status : ℕ) (old new : List ℕ) (old_length new_length : ℕ)
    → IsRoleNumbered number role → IfOk found (λ o. option_map bytes o ≡ option_map shown_name role)
    → MatchResult found (λ o. GivesList NO_SUCH (option_map bytes o) status old new old_length new_length) (λ e. IsNoMemory status old new old_length new_length)
    → NamesRole number status old new old_length new_length
role_named bytes number role found status old new old_length new_length numbered is given =
    (role, numbered, text_answered NO_SUCH bytes found (option_map shown_name role) status old new old_length new_length is given)
