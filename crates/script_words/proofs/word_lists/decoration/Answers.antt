use Rattle.std.proofs.Common.{◌∙◌, None, Some, ap, option_map}
use Rattle.script_words.specs.PartValues.{color_of, decoration_by, decoration_of}
use Rattle.script_words.specs.WordValues.{decoration_style_of}
use Rattle.script_words.proofs.PartMeanings.{no_first, no_parts, no_second, two_parts}
use Rattle.script_words.proofs.NamedValues.{decoration_style_is}
use Rattle.script_words.proofs.word_lists.decoration.Goals as goal

pub returns-clause-only : goal.returns-clause-only
returns-clause-only c =
    let color = c.in_ok-color.ensures.only in
    (color.0, (c.in_ok-style.style.now, c.in_ok-style.rest.now, c.in_ok-style.ensures.only, c.in_ok-decoration_style_named.ensures.only, color.1))

pub returns-in_err-style-clause-means : goal.returns-in_err-style-clause-means
unfolding decoration_of
returns-in_err-style-clause-means c = c.from_residual.ensures ∙ ap (option_map decoration_by) (no_parts 44 decoration_style_of color_of c.args.word.now c.in_err-style.ensures.parts)

pub returns-in_err-decoration_style_named-clause-means : goal.returns-in_err-decoration_style_named-clause-means
unfolding decoration_of
returns-in_err-decoration_style_named-clause-means c = c.from_residual-in_err-decoration_style_named.ensures ∙ ap (option_map decoration_by) (no_first 44 decoration_style_of color_of c.args.word.now c.in_ok-style.style.now c.in_ok-style.rest.now c.in_ok-style.ensures.parts (decoration_style_is c.in_ok-style.style.now None c.in_err-decoration_style_named.ensures.reads c.in_err-decoration_style_named.ensures.only))

pub returns-in_err-color-clause-means : goal.returns-in_err-color-clause-means
unfolding decoration_of
returns-in_err-color-clause-means c = c.from_residual-in_err-color.ensures ∙ ap (option_map decoration_by) (no_second 44 decoration_style_of color_of c.args.word.now c.in_ok-style.style.now c.in_ok-style.rest.now c.in_ok-style.ensures.parts c.in_err-color.ensures.means)

pub returns-clause-means : goal.returns-clause-means
unfolding decoration_of
returns-clause-means c =
    ap (option_map decoration_by) (two_parts 44 decoration_style_of color_of c.args.word.now c.in_ok-style.style.now c.in_ok-style.rest.now c.in_ok-style.ensures.parts _ _ (decoration_style_is c.in_ok-style.style.now (Some c.in_ok-decoration_style_named.field-0) c.in_ok-decoration_style_named.ensures.reads c.in_ok-decoration_style_named.ensures.only) c.in_ok-color.ensures.means)
