-- The role that an argument names, by a number's name or as in a script.
use Rattle.std.proofs.Common.{◌≡◌, ℕ, List, Option, Some, None, ap, sym, ◌∙◌}
use Rattle.std.specs.Prelude.{◌↔◌, option_map}
use Rattle.std.proofs.lemmas.Option.{same_Some}
use Rattle.schema.specs.declared.Role.{Role}
use Rattle.schema.specs.declared.Role.TheVariants.{Other}
use Rattle.script_words.specs.Reading.{IsRole}
use Rattle.script_words.specs.Says.{SaysRole}
use Rattle.find.specs.Sought.{IsSought}

pub sought_by_name : (o : Option ℕ) (word : List ℕ) (found role : Role) → Some found ≡ option_map (λ n. Other n) o → (Some found ≡ Some role) ↔ IsSought o word role
sought_by_name None word found role e = absurd (cc)
sought_by_name (Some n) word found role e =
    (λ same. sym (same_Some found role same) ∙ same_Some found (Other n) e, λ is. ap Some (same_Some found (Other n) e ∙ sym is))

pub sought_as_in_script : (o : Option ℕ) (word : List ℕ) (read : Option Role) (role : Role) → None ≡ option_map (λ n. Other n) o →
    (read ≡ Some role) ↔ (IsRole role × SaysRole word role) → (read ≡ Some role) ↔ IsSought o word role
sought_as_in_script None word read role e says = says
sought_as_in_script (Some n) word read role e says = absurd (cc)
