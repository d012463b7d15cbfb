use Rattle.std.proofs.Common.{◌≡◌, ◌++◌, map, take}
use Rattle.line_faults.specs.Known.{role_names}
use Rattle.role_names.specs.OtherRoles.{other_roles}
use Rattle.find.proofs.given.names_sought.Given as goal

abbrev pub invariant-loop-name : goal.invariant-loop-name
invariant-loop-name l = map (λ name. name.now) l.names.items ≡ map (λ name. name.now) (take l.name-index l.named)

abbrev pub invariant-loop-entry : goal.invariant-loop-entry
invariant-loop-entry l = map (λ name. name.now) l.names.items ≡ role_names ++ map (λ entry. entry.1.now) (take l.entry-index l.numbered)

abbrev pub invariant-loop-aria : goal.invariant-loop-aria
invariant-loop-aria l = map (λ name. name.now) l.names.items ≡ role_names ++ map (λ entry. entry.1) other_roles ++ map (λ entry. entry.1.now) (take l.aria-index l.of_aria)
