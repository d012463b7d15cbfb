use Rattle.script_words.specs.WordValues.{move_of}
use Rattle.script_words.proofs.WordCuts.{taken_or_bad}
use Rattle.script_words.proofs.WordMeanings.{move_is}
use Rattle.script_words.proofs.words.Words.movement.Goals as goal

pub returns-clause-takes : goal.returns-clause-takes
returns-clause-takes c = taken_or_bad move_of _ _ c.in_ok-word.field-0.now c.move_named.result c.ok_or.result c.in_ok-word.ensures.takes (move_is c.in_ok-word.field-0.now c.move_named.result c.move_named.ensures.reads c.move_named.ensures.only) c.ok_or.ensures.value
