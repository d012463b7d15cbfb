use Rattle.script_words.specs.Reading.{IsAction}
use Rattle.script_words.specs.Says.{SaysAction}
use Rattle.script_words.proofs.Numerals.{said_of_read}
use Rattle.script_words.proofs.actions.ActionItem.item.Goals as goal

pub returns-clause-only : goal.returns-clause-only
returns-clause-only c = said_of_read (λ action. IsAction action × SaysAction c.args.word.now action) c.action_named.result c.action_named.ensures.exact
