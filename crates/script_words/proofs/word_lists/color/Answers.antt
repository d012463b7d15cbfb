use Rattle.std.proofs.Common.{refl, ◌∙◌, None, Some, ap, option_map}
use Rattle.script_words.specs.PartValues.{both_of, color_by, color_of, two_bytes_of}
use Rattle.script_words.specs.WordValues.{byte_of}
use Rattle.script_words.proofs.PartMeanings.{no_first, no_parts, no_second, two_parts}
use Rattle.script_words.proofs.WordMeanings.{byte_is}
use Rattle.script_words.proofs.word_lists.color.Goals as goal

pub returns-clause-only : goal.returns-clause-only
returns-clause-only c =
    let red = (c.in_ok-byte.ensures.exact c.in_ok-byte.field-0).0 refl in
    let green = (c.in_ok-byte-2.ensures.exact c.in_ok-byte-2.field-0).0 refl in
    let two = c.in_ok-blue.ensures.only in
    ((red.0, green.0, two.0, two.1), (c.in_ok-red.red.now, c.in_ok-red.rest.now, c.in_ok-red.ensures.only, red.1, (c.in_ok-green.green.now, c.in_ok-green.rest.now, c.in_ok-green.ensures.only, green.1, two.2)))

pub returns-in_err-red-clause-means : goal.returns-in_err-red-clause-means
unfolding color_of
returns-in_err-red-clause-means c = c.from_residual.ensures ∙ ap (option_map color_by) (no_parts 44 byte_of (both_of 44 byte_of two_bytes_of) c.args.word.now c.in_err-red.ensures.parts)

pub returns-in_err-green-clause-means : goal.returns-in_err-green-clause-means
unfolding color_of
returns-in_err-green-clause-means c = c.from_residual-in_err-green.ensures ∙ ap (option_map color_by) (no_second 44 byte_of (both_of 44 byte_of two_bytes_of) c.args.word.now c.in_ok-red.red.now c.in_ok-red.rest.now c.in_ok-red.ensures.parts (no_parts 44 byte_of two_bytes_of c.in_ok-red.rest.now c.in_err-green.ensures.parts))

pub returns-in_err-blue-clause-means : goal.returns-in_err-blue-clause-means
unfolding color_of
returns-in_err-blue-clause-means c = c.from_residual-in_err-blue.ensures ∙ ap (option_map color_by) (no_second 44 byte_of (both_of 44 byte_of two_bytes_of) c.args.word.now c.in_ok-red.red.now c.in_ok-red.rest.now c.in_ok-red.ensures.parts (no_second 44 byte_of two_bytes_of c.in_ok-red.rest.now c.in_ok-green.green.now c.in_ok-green.rest.now c.in_ok-green.ensures.parts c.in_err-blue.ensures.means))

pub returns-in_err-byte-clause-means : goal.returns-in_err-byte-clause-means
unfolding color_of
returns-in_err-byte-clause-means c = c.from_residual-in_err-byte.ensures ∙ ap (option_map color_by) (no_first 44 byte_of (both_of 44 byte_of two_bytes_of) c.args.word.now c.in_ok-red.red.now c.in_ok-red.rest.now c.in_ok-red.ensures.parts (byte_is c.in_ok-red.red.now None c.in_err-byte.ensures.exact))

pub returns-in_err-byte-2-clause-means : goal.returns-in_err-byte-2-clause-means
unfolding color_of
returns-in_err-byte-2-clause-means c = c.from_residual-in_err-byte-2.ensures ∙ ap (option_map color_by) (no_second 44 byte_of (both_of 44 byte_of two_bytes_of) c.args.word.now c.in_ok-red.red.now c.in_ok-red.rest.now c.in_ok-red.ensures.parts (no_first 44 byte_of two_bytes_of c.in_ok-red.rest.now c.in_ok-green.green.now c.in_ok-green.rest.now c.in_ok-green.ensures.parts (byte_is c.in_ok-green.green.now None c.in_err-byte-2.ensures.exact)))

pub returns-clause-means : goal.returns-clause-means
unfolding color_of
returns-clause-means c =
    ap (option_map color_by) (two_parts 44 byte_of (both_of 44 byte_of two_bytes_of) c.args.word.now c.in_ok-red.red.now c.in_ok-red.rest.now c.in_ok-red.ensures.parts _ _ (byte_is c.in_ok-red.red.now (Some c.in_ok-byte.field-0) c.in_ok-byte.ensures.exact)
    (two_parts 44 byte_of two_bytes_of c.in_ok-red.rest.now c.in_ok-green.green.now c.in_ok-green.rest.now c.in_ok-green.ensures.parts _ _ (byte_is c.in_ok-green.green.now (Some c.in_ok-byte-2.field-0) c.in_ok-byte-2.ensures.exact) c.in_ok-blue.ensures.means))
