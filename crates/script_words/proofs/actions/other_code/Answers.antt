use Rattle.script_words.specs.Reading.{IsByte}
use Rattle.script_words.proofs.Numerals.{other_said}
use Rattle.std.proofs.Common.{None, Some, ap, ◌∙◌}
use Rattle.script_words.specs.WordValues.{byte_of}
use Rattle.script_words.specs.Meaning.{onward}
use Rattle.script_words.proofs.PartMeanings.{brackets_are}
use Rattle.script_words.proofs.WordMeanings.{byte_is}
use Rattle.script_words.proofs.actions.other_code.Goals as goal

pub returns-clause-exact : goal.returns-clause-exact
returns-clause-exact c = other_said IsByte c.args.word.now c.in_ok-in_brackets.field-0.now c.byte.result c.in_ok-in_brackets.ensures.only c.in_ok-in_brackets.ensures.reads c.byte.ensures.exact

pub returns-clause-means : goal.returns-clause-means
returns-clause-means c = byte_is c.in_ok-in_brackets.field-0.now c.byte.result c.byte.ensures.exact ∙ ap (λ o. onward o byte_of) (brackets_are c.args.word.now (Some c.in_ok-in_brackets.field-0) c.in_ok-in_brackets.ensures.reads c.in_ok-in_brackets.ensures.only)

pub returns-in_err-in_brackets-clause-means : goal.returns-in_err-in_brackets-clause-means
returns-in_err-in_brackets-clause-means c = c.from_residual.ensures ∙ ap (λ o. onward o byte_of) (brackets_are c.args.word.now None c.in_err-in_brackets.ensures.reads c.in_err-in_brackets.ensures.only)
