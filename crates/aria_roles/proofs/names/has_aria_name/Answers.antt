use Rattle.std.proofs.Common.{◌∙◌, ap, ℕ, List}
use Rattle.std.specs.Prelude.{◌&&◌}
use Rattle.std.specs.List.{list_any}
use Rattle.std.specs.Str.{bytes_eq}
use Rattle.schema.specs.Roles.{same_role}
use Rattle.schema.specs.declared.Role.{Role}
use Rattle.aria_roles.specs.Names.{entry_of}
use Rattle.aria_roles.proofs.Tables.{any_of}
use Rattle.aria_roles.proofs.names.has_aria_name.Goals as goal

pub returns : goal.returns
returns c =
    let test = λ (entry : Role × List ℕ). same_role entry.0 c.args.role && bytes_eq entry.1 c.args.name.now in
    c.has_name_in.ensures ∙ any_of entry_of test c.aria_roles.result.now ∙ ap (list_any test) c.aria_roles.ensures
