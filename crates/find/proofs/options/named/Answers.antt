use Rattle.std.proofs.Common.{◌∙◌, ap}
use Rattle.std.specs.Prelude.{option_map, find}
use Rattle.std.specs.Str.{bytes_eq}
use Rattle.aria_roles.proofs.Tables.{found_of}
use Rattle.find.specs.Options.{entry_of}
use Rattle.find.proofs.options.named.Goals as goal

pub returns : goal.returns
returns c =
    ap (option_map entry_of) c.named_in.ensures ∙ found_of entry_of (λ entry. bytes_eq entry.0 c.args.name.now) c.options.result.now
    ∙ ap (find (λ entry. bytes_eq entry.0 c.args.name.now)) c.options.ensures
