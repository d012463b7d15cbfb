use Rattle.std.proofs.Common.{refl, None, Some, ap, ◌∙◌, option_map}
use Rattle.script_words.specs.WordValues.{node_id}
use Rattle.script_words.proofs.WordMeanings.{number_is}
use Rattle.script_words.proofs.items.NodeIdItem.item.Goals as goal

pub returns-clause-only : goal.returns-clause-only
returns-clause-only c = (c.in_ok-number.ensures.exact c.in_ok-number.field-0).0 refl

pub returns-in_err-number-clause-means : goal.returns-in_err-number-clause-means
returns-in_err-number-clause-means c = c.from_residual.ensures ∙ ap (option_map node_id) (number_is c.args.word.now None c.in_err-number.ensures.exact)

pub returns-clause-means : goal.returns-clause-means
returns-clause-means c = ap (option_map node_id) (number_is c.args.word.now (Some c.in_ok-number.field-0) c.in_ok-number.ensures.exact)
