use Rattle.script_words.specs.WordValues.{tree_of}
use Rattle.script_words.proofs.WordCuts.{taken_or_bad}
use Rattle.script_words.proofs.WordMeanings.{tree_is}
use Rattle.script_words.proofs.words.Words.tree.Goals as goal

pub returns-clause-takes : goal.returns-clause-takes
returns-clause-takes c = taken_or_bad tree_of _ _ c.in_ok-word.field-0.now c.tree_named.result c.ok_or.result c.in_ok-word.ensures.takes (tree_is c.in_ok-word.field-0.now c.tree_named.result c.tree_named.ensures.exact) c.ok_or.ensures.value
