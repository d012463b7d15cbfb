use Rattle.std.proofs.Common.{◌++◌, ℕ, List, map, sym, ◌∙◌, append-nil}
use Rattle.schema.specs.declared.Role.{Role}
use Rattle.line_faults.specs.Known.{role_names}
use Rattle.role_names.specs.Names.{entry_of}
use Rattle.role_names.specs.OtherRoles.{other_roles}
use Rattle.aria_roles.specs.AriaRoles.{aria_roles}
use Rattle.aria_roles.specs.Names.{entry_of as aria_of}
use Rattle.find.proofs.SoughtNames.{all_named}
use Rattle.find.proofs.given.names_sought.Goals as goal

-- the names before those of ARIA
abbrev own : List (List ℕ)
own = role_names ++ map (λ (entry : ℕ × List ℕ × List ℕ). entry.1) other_roles

pub loop-aria-init : goal.loop-aria-init
loop-aria-init c =
    all_named entry_of (λ (entry : ℕ × List ℕ × List ℕ). entry.1) _ role_names c.loop-entry.entry-index c.other_roles-numbered.result.now other_roles c.loop-entry.invariant c.loop-entry-test.false c.other_roles-numbered.ensures
    ∙ sym (append-nil own)

pub returns : goal.returns
returns c = all_named aria_of (λ (entry : Role × List ℕ). entry.1) _ own c.loop-aria.aria-index c.aria_roles-of_aria.result.now aria_roles c.loop-aria.invariant c.loop-aria-test.false c.aria_roles-of_aria.ensures
