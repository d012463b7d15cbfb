use Rattle.std.proofs.Common.{◌≡◌, rules}
use Rattle.script_nodes.specs.FieldMeaning.{by_kind}
use Rattle.script_words.specs.WordValues.{short_of}
use Rattle.script_words.proofs.WordMeanings.{short_is}
use Rattle.script_nodes.proofs.single_values.font_weight_value.Goals as goal

pub returns-in_err-value-clause-means : goal.returns-in_err-value-clause-means
unfolding by_kind
returns-in_err-value-clause-means c =
    let is : c.short.result ≡ short_of c.in_ok-word.field-0.now = short_is c.in_ok-word.field-0.now c.short.result c.short.ensures.exact in
    search rules

pub returns-clause-means : goal.returns-clause-means
unfolding by_kind
returns-clause-means c =
    let is : c.short.result ≡ short_of c.in_ok-word.field-0.now = short_is c.in_ok-word.field-0.now c.short.result c.short.ensures.exact in
    search rules
