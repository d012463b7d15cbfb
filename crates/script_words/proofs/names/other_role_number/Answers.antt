use Rattle.script_words.specs.Reading.{IsShort}
use Rattle.script_words.proofs.Numerals.{other_said}
use Rattle.std.proofs.Common.{None, Some, ap, ◌∙◌}
use Rattle.script_words.specs.WordValues.{short_of}
use Rattle.script_words.specs.Meaning.{onward}
use Rattle.script_words.proofs.PartMeanings.{brackets_are}
use Rattle.script_words.proofs.WordMeanings.{short_is}
use Rattle.script_words.proofs.names.other_role_number.Goals as goal

pub returns-clause-exact : goal.returns-clause-exact
returns-clause-exact c = other_said IsShort c.args.word.now c.in_ok-in_brackets.field-0.now c.short.result c.in_ok-in_brackets.ensures.only c.in_ok-in_brackets.ensures.reads c.short.ensures.exact

pub returns-clause-means : goal.returns-clause-means
returns-clause-means c = short_is c.in_ok-in_brackets.field-0.now c.short.result c.short.ensures.exact ∙ ap (λ o. onward o short_of) (brackets_are c.args.word.now (Some c.in_ok-in_brackets.field-0) c.in_ok-in_brackets.ensures.reads c.in_ok-in_brackets.ensures.only)

pub returns-in_err-in_brackets-clause-means : goal.returns-in_err-in_brackets-clause-means
returns-in_err-in_brackets-clause-means c = c.from_residual.ensures ∙ ap (λ o. onward o short_of) (brackets_are c.args.word.now None c.in_err-in_brackets.ensures.reads c.in_err-in_brackets.ensures.only)
