use Rattle.std.proofs.Common.{arith}
use Rattle.script_words.specs.Reading.{IsCount, IsShort}
use Rattle.script_words.specs.Says.{SaysNumber}
use Rattle.script_words.proofs.Numerals.{narrowed, none_narrowed}
use Rattle.script_words.proofs.words.short.Goals as goal

pub returns-in_err-number-clause-exact : goal.returns-in_err-number-clause-exact
returns-in_err-number-clause-exact c = none_narrowed IsCount IsShort (SaysNumber c.args.word.now) c.from_residual.result c.from_residual.ensures (λ n low. omega (arith, low)) c.in_err-number.ensures.exact

pub returns-clause-exact : goal.returns-clause-exact
returns-clause-exact c = λ n. rw c.ok.ensures.value (narrowed IsCount IsShort (SaysNumber c.args.word.now) c.in_ok-number.field-0 c.try_from.result (λ n low. omega (arith, low)) c.in_ok-number.ensures.exact c.try_from.ensures n)
