use Rattle.std.proofs.Common.{◌∙◌, ap}
use Rattle.std.specs.Prelude.{option_map, find}
use Rattle.std.specs.Str.{str_eq_ignore_ascii_case}
use Rattle.aria_roles.specs.Names.{entry_of}
use Rattle.aria_roles.proofs.Tables.{found_of}
use Rattle.aria_roles.proofs.names.named.Goals as goal

pub returns : goal.returns
returns c =
    ap (option_map entry_of) c.named_in.ensures
    ∙ found_of entry_of (λ entry. str_eq_ignore_ascii_case entry.1 c.args.word.now) c.aria_roles.result.now
    ∙ ap (find (λ entry. str_eq_ignore_ascii_case entry.1 c.args.word.now)) c.aria_roles.ensures
