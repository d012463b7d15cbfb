use Rattle.std.proofs.Common.{◌≡◌, ◌∙◌, ap}
use Rattle.std.specs.Prelude.{◌==◌, option_map, option_copied, find}
use Rattle.role_names.specs.Names.{entry_of, numbered}
use Rattle.role_names.proofs.Found.{found_of}
use Rattle.role_names.proofs.Tables.{entry_has_word}
use Rattle.role_names.proofs.names.numbered.Goals as goal

pub returns : goal.returns
returns c =
    let entry : option_map entry_of (option_copied c.numbered_in.result) ≡ numbered c.args.number =
    ap (option_map entry_of) c.numbered_in.ensures
    ∙ found_of entry_of (λ entry. entry.0 == c.args.number) c.other_roles.result.now
    ∙ ap (find (λ entry. entry.0 == c.args.number)) c.other_roles.ensures
    in
    record { entry = entry; some = entry_has_word (option_copied c.numbered_in.result) c.args.number entry }
