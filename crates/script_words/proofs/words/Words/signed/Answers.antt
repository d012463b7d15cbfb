use Rattle.script_words.specs.WordValues.{signed_of}
use Rattle.script_words.proofs.WordCuts.{taken_or_bad}
use Rattle.script_words.proofs.WordMeanings.{signed_is}
use Rattle.script_words.proofs.words.Words.signed.Goals as goal

pub returns-clause-takes : goal.returns-clause-takes
returns-clause-takes c = taken_or_bad signed_of _ _ c.in_ok-word.field-0.now c.signed.result c.ok_or.result c.in_ok-word.ensures.takes (signed_is c.in_ok-word.field-0.now c.signed.result c.signed.ensures.exact) c.ok_or.ensures.value
