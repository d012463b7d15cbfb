use Rattle.std.proofs.Common.{w64, refl, subst}
use Rattle.std.specs.Result.{OkIff}
use Rattle.std.proofs.lemmas.Int.{to_z-of_z}
use Rattle.script_words.specs.Reading.{IsNumber, IsUnits}
use Rattle.script_words.specs.Says.{SaysSigned}
use Rattle.script_words.proofs.Numerals.{narrowed, none_narrowed, units_are_numbers}
use Rattle.script_words.proofs.words.units.Goals as goal

pub returns-in_err-signed-clause-exact : goal.returns-in_err-signed-clause-exact
returns-in_err-signed-clause-exact c = none_narrowed IsNumber IsUnits (SaysSigned c.args.word.now) c.from_residual.result c.from_residual.ensures units_are_numbers c.in_err-signed.ensures.exact

pub returns-clause-exact : goal.returns-clause-exact
returns-clause-exact c = λ z.
    let read = c.in_ok-signed.field-0 in
    let same = to_z-of_z w64 read ((c.in_ok-signed.ensures.exact read).0 refl).0 in
    rw c.ok.ensures.value (narrowed IsNumber IsUnits (SaysSigned c.args.word.now) read c.try_from.result units_are_numbers c.in_ok-signed.ensures.exact (subst (λ x. OkIff c.try_from.result (IsUnits x) x) same c.try_from.ensures) z)
