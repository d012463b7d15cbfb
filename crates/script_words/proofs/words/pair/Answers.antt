use Rattle.std.proofs.Common.{rules, refl, ◌∙◌, None, Some}
use Rattle.std.specs.Fmt.{signed_decimal}
use Rattle.script_words.proofs.CommaWords.{units_lack_comma, pair_cut}
use Rattle.script_words.proofs.Numerals.{units_kept}
use Rattle.script_words.specs.PartValues.{pair_of}
use Rattle.script_words.specs.WordValues.{units_of}
use Rattle.script_words.proofs.PartMeanings.{no_first, no_parts, no_second, two_parts}
use Rattle.script_words.proofs.WordMeanings.{units_is, units_read}
use Rattle.script_words.proofs.words.pair.Goals as goal

pub returns-in_err-x-clause-reads : goal.returns-in_err-x-clause-reads
returns-in_err-x-clause-reads c = λ x y hx hy e. absurd (c.in_err-x.ensures.reads (signed_decimal x) (signed_decimal y) (units_lack_comma x hx) (e ∙ pair_cut x y))

pub returns-in_err-units-clause-reads : goal.returns-in_err-units-clause-reads
returns-in_err-units-clause-reads c = λ x y hx hy e.
    let k = c.in_ok-x.ensures.reads (signed_decimal x) (signed_decimal y) (units_lack_comma x hx) (e ∙ pair_cut x y) in
    let l = c.in_err-units.ensures.reads x hx k.0 in cc

pub returns-in_err-units-2-clause-reads : goal.returns-in_err-units-2-clause-reads
returns-in_err-units-2-clause-reads c = λ x y hx hy e.
    let k = c.in_ok-x.ensures.reads (signed_decimal x) (signed_decimal y) (units_lack_comma x hx) (e ∙ pair_cut x y) in
    let l = c.in_err-units-2.ensures.reads y hy k.1 in cc

pub returns-clause-reads : goal.returns-clause-reads
returns-clause-reads c = λ x y hx hy e.
    let k = c.in_ok-x.ensures.reads (signed_decimal x) (signed_decimal y) (units_lack_comma x hx) (e ∙ pair_cut x y) in
    let l = c.in_ok-units.ensures.reads x hx k.0 in
    let m = c.in_ok-units-2.ensures.reads y hy k.1 in search rules

pub returns-clause-only : goal.returns-clause-only
returns-clause-only c =
    let x = units_kept c.in_ok-x.x.now c.in_ok-units.field-0 ((c.in_ok-units.ensures.exact c.in_ok-units.field-0).0 refl) in
    let y = units_kept c.in_ok-x.y.now c.in_ok-units-2.field-0 ((c.in_ok-units-2.ensures.exact c.in_ok-units-2.field-0).0 refl) in
    (x.0, y.0, (c.in_ok-x.x.now, c.in_ok-x.y.now, c.in_ok-x.ensures.only, x.1, y.1))

pub returns-in_err-x-clause-means : goal.returns-in_err-x-clause-means
unfolding pair_of
returns-in_err-x-clause-means c = c.from_residual.ensures ∙ no_parts 44 units_of units_of c.args.word.now c.in_err-x.ensures.parts

pub returns-in_err-units-clause-means : goal.returns-in_err-units-clause-means
unfolding pair_of
returns-in_err-units-clause-means c = c.from_residual-in_err-units.ensures ∙ no_first 44 units_of units_of c.args.word.now c.in_ok-x.x.now c.in_ok-x.y.now c.in_ok-x.ensures.parts (units_is c.in_ok-x.x.now None c.in_err-units.ensures.exact)

pub returns-in_err-units-2-clause-means : goal.returns-in_err-units-2-clause-means
unfolding pair_of
returns-in_err-units-2-clause-means c = c.from_residual-in_err-units-2.ensures ∙ no_second 44 units_of units_of c.args.word.now c.in_ok-x.x.now c.in_ok-x.y.now c.in_ok-x.ensures.parts (units_is c.in_ok-x.y.now None c.in_err-units-2.ensures.exact)

pub returns-clause-means : goal.returns-clause-means
unfolding pair_of
returns-clause-means c =
    two_parts 44 units_of units_of c.args.word.now c.in_ok-x.x.now c.in_ok-x.y.now c.in_ok-x.ensures.parts _ _ (units_read c.in_ok-x.x.now c.in_ok-units.field-0 c.in_ok-units.ensures.exact) (units_read c.in_ok-x.y.now c.in_ok-units-2.field-0 c.in_ok-units-2.ensures.exact)
