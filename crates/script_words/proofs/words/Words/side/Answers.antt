use Rattle.script_words.specs.WordValues.{side_of}
use Rattle.script_words.proofs.WordCuts.{taken_or_bad}
use Rattle.script_words.proofs.WordMeanings.{side_is}
use Rattle.script_words.proofs.words.Words.side.Goals as goal

pub returns-clause-takes : goal.returns-clause-takes
returns-clause-takes c = taken_or_bad side_of _ _ c.in_ok-word.field-0.now c.side_named.result c.ok_or.result c.in_ok-word.ensures.takes (side_is c.in_ok-word.field-0.now c.side_named.result c.side_named.ensures.reads c.side_named.ensures.only) c.ok_or.ensures.value
