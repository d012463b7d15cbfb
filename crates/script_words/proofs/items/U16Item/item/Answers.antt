use Rattle.script_words.specs.Reading.{IsShort}
use Rattle.script_words.specs.Says.{SaysNumber}
use Rattle.script_words.proofs.Numerals.{said_of_read}
use Rattle.script_words.proofs.WordMeanings.{short_is}
use Rattle.script_words.proofs.items.U16Item.item.Goals as goal

pub returns-clause-only : goal.returns-clause-only
returns-clause-only c = said_of_read (λ n. IsShort n × SaysNumber c.args.word.now n) c.short.result c.short.ensures.exact

pub returns-clause-means : goal.returns-clause-means
returns-clause-means c = short_is c.args.word.now c.short.result c.short.ensures.exact
