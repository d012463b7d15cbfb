use Rattle.script_words.specs.WordValues.{number_of}
use Rattle.script_words.proofs.WordCuts.{taken_or_bad}
use Rattle.script_words.proofs.WordMeanings.{number_is}
use Rattle.script_words.proofs.words.Words.index.Goals as goal

pub returns-clause-takes : goal.returns-clause-takes
returns-clause-takes c = taken_or_bad number_of _ _ c.in_ok-word.field-0.now c.index.result c.ok_or.result c.in_ok-word.ensures.takes (number_is c.in_ok-word.field-0.now c.index.result c.index.ensures.exact) c.ok_or.ensures.value
