use Rattle.std.proofs.Common.{refl, ap, ◌∙◌, option_map, None, Some}
use Rattle.script_words.specs.PartValues.{place_at, place_of}
use Rattle.script_words.specs.WordValues.{id_of, node_id, number_of}
use Rattle.script_words.proofs.PartMeanings.{no_first, no_parts, no_second, two_parts}
use Rattle.script_words.proofs.WordMeanings.{number_is}
use Rattle.script_words.proofs.words.place.Goals as goal

pub returns-clause-only : goal.returns-clause-only
returns-clause-only c =
    let node = (c.in_ok-number.ensures.exact c.in_ok-number.field-0).0 refl in
    let index = (c.in_ok-index.ensures.exact c.in_ok-index.field-0).0 refl in
    ((node.0, index.0), (c.in_ok-node.node.now, c.in_ok-node.character_index.now, c.in_ok-node.ensures.only, node.1, index.1))

pub returns-in_err-node-clause-means : goal.returns-in_err-node-clause-means
unfolding place_of
returns-in_err-node-clause-means c = c.from_residual.ensures ∙ ap (option_map place_at) (no_parts 58 id_of number_of c.args.word.now c.in_err-node.ensures.parts)

pub returns-in_err-number-clause-means : goal.returns-in_err-number-clause-means
unfolding place_of
returns-in_err-number-clause-means c = c.from_residual-in_err-number.ensures ∙ ap (option_map place_at) (no_first 58 id_of number_of c.args.word.now c.in_ok-node.node.now c.in_ok-node.character_index.now c.in_ok-node.ensures.parts (ap (option_map node_id) (number_is c.in_ok-node.node.now None c.in_err-number.ensures.exact)))

pub returns-in_err-index-clause-means : goal.returns-in_err-index-clause-means
unfolding place_of
returns-in_err-index-clause-means c = c.from_residual-in_err-index.ensures ∙ ap (option_map place_at) (no_second 58 id_of number_of c.args.word.now c.in_ok-node.node.now c.in_ok-node.character_index.now c.in_ok-node.ensures.parts (number_is c.in_ok-node.character_index.now None c.in_err-index.ensures.exact))

pub returns-clause-means : goal.returns-clause-means
unfolding place_of
returns-clause-means c =
    ap (option_map place_at) (two_parts 58 id_of number_of c.args.word.now c.in_ok-node.node.now c.in_ok-node.character_index.now c.in_ok-node.ensures.parts _ _ (ap (option_map node_id) (number_is c.in_ok-node.node.now (Some c.in_ok-number.field-0) c.in_ok-number.ensures.exact)) (number_is c.in_ok-node.character_index.now (Some c.in_ok-index.field-0) c.in_ok-index.ensures.exact))
