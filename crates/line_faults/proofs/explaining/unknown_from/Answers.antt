use Rattle.std.proofs.Common.{ℕ, List, subst}
use Rattle.line_text.specs.Starts.{IsFirst, IsUnknownAt, is_among}
use Rattle.line_faults.specs.Known.{is_field}
use Rattle.line_faults.proofs.KnownNames.{is_field_among, rest_from, same_first}
use Rattle.line_faults.proofs.explaining.unknown_from.Goals as goal

pub returns : goal.returns
returns c =
    let P : List ℕ → Type 0 = λ text. IsFirst (IsUnknownAt (is_field c.args.set) text) c.first_unknown.result in
    subst P (rest_from c.args.line.now c.args.at) (same_first (is_among c.field_names.result.now) (is_field c.args.set) (is_field_among c.args.set c.field_names.result.now c.field_names.ensures) _ c.first_unknown.result c.first_unknown.ensures)
