use Rattle.std.proofs.Common.{rules, refl, ◌++◌, ◌∷◌, ◌∙◌, None, Some, ap, option_map}
use Rattle.std.specs.Fmt.{signed_decimal}
use Rattle.script_words.specs.Parts.{pair_text}
use Rattle.script_words.proofs.CommaWords.{units_lack_comma, corners_cut}
use Rattle.script_words.proofs.Numerals.{pair_kept, units_kept}
use Rattle.script_words.specs.PartValues.{both_of, from_corners, pair_of, rect_of}
use Rattle.script_words.specs.WordValues.{units_of}
use Rattle.script_words.proofs.PartMeanings.{no_first, no_parts, no_second, two_parts}
use Rattle.script_words.proofs.WordMeanings.{pair_read, units_is, units_read}
use Rattle.script_words.proofs.words.rect.Goals as goal

pub returns-in_err-x0-clause-reads : goal.returns-in_err-x0-clause-reads
returns-in_err-x0-clause-reads c = λ r h e. absurd (c.in_err-x0.ensures.reads (signed_decimal r.x0) (signed_decimal r.y0 ++ (44 ∷ pair_text r.x1 r.y1)) (units_lack_comma r.x0 h.0) (e ∙ corners_cut r.x0 r.y0 r.x1 r.y1))

pub returns-in_err-y0-clause-reads : goal.returns-in_err-y0-clause-reads
returns-in_err-y0-clause-reads c = λ r h e.
    let k = c.in_ok-x0.ensures.reads (signed_decimal r.x0) (signed_decimal r.y0 ++ (44 ∷ pair_text r.x1 r.y1)) (units_lack_comma r.x0 h.0) (e ∙ corners_cut r.x0 r.y0 r.x1 r.y1) in
    absurd (c.in_err-y0.ensures.reads (signed_decimal r.y0) (pair_text r.x1 r.y1) (units_lack_comma r.y0 h.1) k.1)

pub returns-in_err-x1-clause-reads : goal.returns-in_err-x1-clause-reads
returns-in_err-x1-clause-reads c = λ r h e.
    let k = c.in_ok-x0.ensures.reads (signed_decimal r.x0) (signed_decimal r.y0 ++ (44 ∷ pair_text r.x1 r.y1)) (units_lack_comma r.x0 h.0) (e ∙ corners_cut r.x0 r.y0 r.x1 r.y1) in
    let l = c.in_ok-y0.ensures.reads (signed_decimal r.y0) (pair_text r.x1 r.y1) (units_lack_comma r.y0 h.1) k.1 in
    let m = c.in_err-x1.ensures.reads r.x1 r.y1 h.2 h.3 l.1 in cc

pub returns-in_err-units-clause-reads : goal.returns-in_err-units-clause-reads
returns-in_err-units-clause-reads c = λ r h e.
    let k = c.in_ok-x0.ensures.reads (signed_decimal r.x0) (signed_decimal r.y0 ++ (44 ∷ pair_text r.x1 r.y1)) (units_lack_comma r.x0 h.0) (e ∙ corners_cut r.x0 r.y0 r.x1 r.y1) in
    let n = c.in_err-units.ensures.reads r.x0 h.0 k.0 in cc

pub returns-in_err-units-2-clause-reads : goal.returns-in_err-units-2-clause-reads
returns-in_err-units-2-clause-reads c = λ r h e.
    let k = c.in_ok-x0.ensures.reads (signed_decimal r.x0) (signed_decimal r.y0 ++ (44 ∷ pair_text r.x1 r.y1)) (units_lack_comma r.x0 h.0) (e ∙ corners_cut r.x0 r.y0 r.x1 r.y1) in
    let l = c.in_ok-y0.ensures.reads (signed_decimal r.y0) (pair_text r.x1 r.y1) (units_lack_comma r.y0 h.1) k.1 in
    let o = c.in_err-units-2.ensures.reads r.y0 h.1 l.0 in cc

pub returns-clause-reads : goal.returns-clause-reads
returns-clause-reads c = λ r h e.
    let k = c.in_ok-x0.ensures.reads (signed_decimal r.x0) (signed_decimal r.y0 ++ (44 ∷ pair_text r.x1 r.y1)) (units_lack_comma r.x0 h.0) (e ∙ corners_cut r.x0 r.y0 r.x1 r.y1) in
    let l = c.in_ok-y0.ensures.reads (signed_decimal r.y0) (pair_text r.x1 r.y1) (units_lack_comma r.y0 h.1) k.1 in
    let m = c.in_ok-x1.ensures.reads r.x1 r.y1 h.2 h.3 l.1 in
    let n = c.in_ok-units.ensures.reads r.x0 h.0 k.0 in
    let o = c.in_ok-units-2.ensures.reads r.y0 h.1 l.0 in search rules

pub returns-clause-only : goal.returns-clause-only
returns-clause-only c =
    let x0 = units_kept c.in_ok-x0.x0.now c.in_ok-units.field-0 ((c.in_ok-units.ensures.exact c.in_ok-units.field-0).0 refl) in
    let y0 = units_kept c.in_ok-y0.y0.now c.in_ok-units-2.field-0 ((c.in_ok-units-2.ensures.exact c.in_ok-units-2.field-0).0 refl) in
    let corner = pair_kept c.in_ok-y0.rest.now c.in_ok-x1.x1 c.in_ok-x1.y1 c.in_ok-x1.ensures.only in
    ((x0.0, y0.0, corner.0, corner.1), (c.in_ok-x0.x0.now, c.in_ok-x0.rest.now, c.in_ok-x0.ensures.only, x0.1, (c.in_ok-y0.y0.now, c.in_ok-y0.rest.now, c.in_ok-y0.ensures.only, y0.1, corner.2)))

pub returns-in_err-x0-clause-means : goal.returns-in_err-x0-clause-means
unfolding rect_of
returns-in_err-x0-clause-means c = c.from_residual.ensures ∙ ap (option_map from_corners) (no_parts 44 units_of (both_of 44 units_of pair_of) c.args.word.now c.in_err-x0.ensures.parts)

pub returns-in_err-y0-clause-means : goal.returns-in_err-y0-clause-means
unfolding rect_of
returns-in_err-y0-clause-means c = c.from_residual-in_err-y0.ensures ∙ ap (option_map from_corners) (no_second 44 units_of (both_of 44 units_of pair_of) c.args.word.now c.in_ok-x0.x0.now c.in_ok-x0.rest.now c.in_ok-x0.ensures.parts (no_parts 44 units_of pair_of c.in_ok-x0.rest.now c.in_err-y0.ensures.parts))

pub returns-in_err-x1-clause-means : goal.returns-in_err-x1-clause-means
unfolding rect_of
returns-in_err-x1-clause-means c = c.from_residual-in_err-x1.ensures ∙ ap (option_map from_corners) (no_second 44 units_of (both_of 44 units_of pair_of) c.args.word.now c.in_ok-x0.x0.now c.in_ok-x0.rest.now c.in_ok-x0.ensures.parts (no_second 44 units_of pair_of c.in_ok-x0.rest.now c.in_ok-y0.y0.now c.in_ok-y0.rest.now c.in_ok-y0.ensures.parts c.in_err-x1.ensures.means))

pub returns-in_err-units-clause-means : goal.returns-in_err-units-clause-means
unfolding rect_of
returns-in_err-units-clause-means c = c.from_residual-in_err-units.ensures ∙ ap (option_map from_corners) (no_first 44 units_of (both_of 44 units_of pair_of) c.args.word.now c.in_ok-x0.x0.now c.in_ok-x0.rest.now c.in_ok-x0.ensures.parts (units_is c.in_ok-x0.x0.now None c.in_err-units.ensures.exact))

pub returns-in_err-units-2-clause-means : goal.returns-in_err-units-2-clause-means
unfolding rect_of
returns-in_err-units-2-clause-means c = c.from_residual-in_err-units-2.ensures ∙ ap (option_map from_corners) (no_second 44 units_of (both_of 44 units_of pair_of) c.args.word.now c.in_ok-x0.x0.now c.in_ok-x0.rest.now c.in_ok-x0.ensures.parts (no_first 44 units_of pair_of c.in_ok-x0.rest.now c.in_ok-y0.y0.now c.in_ok-y0.rest.now c.in_ok-y0.ensures.parts (units_is c.in_ok-y0.y0.now None c.in_err-units-2.ensures.exact)))

pub returns-clause-means : goal.returns-clause-means
unfolding rect_of
returns-clause-means c =
    let corner = c.in_ok-x1.ensures.only in
    ap (option_map from_corners) (two_parts 44 units_of (both_of 44 units_of pair_of) c.args.word.now c.in_ok-x0.x0.now c.in_ok-x0.rest.now c.in_ok-x0.ensures.parts _ _ (units_read c.in_ok-x0.x0.now c.in_ok-units.field-0 c.in_ok-units.ensures.exact)
    (two_parts 44 units_of pair_of c.in_ok-x0.rest.now c.in_ok-y0.y0.now c.in_ok-y0.rest.now c.in_ok-y0.ensures.parts _ _ (units_read c.in_ok-y0.y0.now c.in_ok-units-2.field-0 c.in_ok-units-2.ensures.exact) (pair_read c.in_ok-x1.x1 c.in_ok-x1.y1 _ corner.0 corner.1 c.in_ok-x1.ensures.means)))
