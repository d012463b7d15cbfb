use Rattle.std.proofs.Common.{ap, ◌∙◌, option_map}
use Rattle.script_words.specs.PartValues.{from_anchor, place_of, selection_of}
use Rattle.script_words.proofs.PartMeanings.{no_first, no_parts, no_second, two_parts}
use Rattle.script_words.proofs.words.selection.Goals as goal

pub returns-clause-only : goal.returns-clause-only
returns-clause-only c =
    let anchor = c.in_ok-place.ensures.only in
    let focus = c.in_ok-place-2.ensures.only in
    ((anchor.0, focus.0), (c.in_ok-anchor.anchor.now, c.in_ok-anchor.focus.now, c.in_ok-anchor.ensures.only, anchor.1, focus.1))

pub returns-in_err-anchor-clause-means : goal.returns-in_err-anchor-clause-means
unfolding selection_of
returns-in_err-anchor-clause-means c = c.from_residual.ensures ∙ ap (option_map from_anchor) (no_parts 44 place_of place_of c.args.word.now c.in_err-anchor.ensures.parts)

pub returns-in_err-place-clause-means : goal.returns-in_err-place-clause-means
unfolding selection_of
returns-in_err-place-clause-means c = c.from_residual-in_err-place.ensures ∙ ap (option_map from_anchor) (no_first 44 place_of place_of c.args.word.now c.in_ok-anchor.anchor.now c.in_ok-anchor.focus.now c.in_ok-anchor.ensures.parts c.in_err-place.ensures.means)

pub returns-in_err-place-2-clause-means : goal.returns-in_err-place-2-clause-means
unfolding selection_of
returns-in_err-place-2-clause-means c = c.from_residual-in_err-place-2.ensures ∙ ap (option_map from_anchor) (no_second 44 place_of place_of c.args.word.now c.in_ok-anchor.anchor.now c.in_ok-anchor.focus.now c.in_ok-anchor.ensures.parts c.in_err-place-2.ensures.means)

pub returns-clause-means : goal.returns-clause-means
unfolding selection_of
returns-clause-means c = ap (option_map from_anchor) (two_parts 44 place_of place_of c.args.word.now c.in_ok-anchor.anchor.now c.in_ok-anchor.focus.now c.in_ok-anchor.ensures.parts _ _ c.in_ok-place.ensures.means c.in_ok-place-2.ensures.means)
