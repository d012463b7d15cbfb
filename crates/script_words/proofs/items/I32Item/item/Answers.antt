use Rattle.script_words.proofs.WordMeanings.{units_is}
use Rattle.script_words.proofs.items.I32Item.item.Goals as goal

pub returns-clause-means : goal.returns-clause-means
returns-clause-means c = units_is c.args.word.now c.units.result c.units.ensures.exact
