use Rattle.std.proofs.Common.{◌∙◌, ap}
use Rattle.std.specs.Prelude.{option_map, find}
use Rattle.std.specs.Str.{bytes_eq}
use Rattle.role_names.specs.Names.{entry_of}
use Rattle.role_names.proofs.Found.{found_of}
use Rattle.role_names.proofs.names.named.Goals as goal

pub returns : goal.returns
returns c =
    ap (option_map entry_of) c.named_in.ensures
    ∙ found_of entry_of (λ entry. bytes_eq entry.1 c.args.name.now) c.other_roles.result.now
    ∙ ap (find (λ entry. bytes_eq entry.1 c.args.name.now)) c.other_roles.ensures
