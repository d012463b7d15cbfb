use Rattle.std.proofs.Common.{◌≡◌, refl, ap, ◌∙◌, arith}
use Rattle.model.specs.FlatText.{start_of}
use Rattle.text_boundaries.specs.RunNumbers.{number_in}
use Rattle.texts.specs.Positions.{position_text}
use Rattle.text_boundaries.proofs.FlatRuns.{first_number}
use Rattle.texts.proofs.TextSizes.{offset_fits, one_less}
use Rattle.texts.proofs.position.TextPosition.offset.Goals as goal

pub loop-previous-init : goal.loop-previous-init
loop-previous-init c = record { same = refl; summed = omega arith }

pub overflow_add-before : goal.overflow_add-before
overflow_add-before c =
    let p = c.args.self in
    let fits = offset_fits p in
    let summed = one_less p c.loop-previous.run c.in-Some.previous c.loop-previous.before c.character_count-before.result c.loop-previous.invariant.same c.in-Some.ensures c.character_count-before.ensures c.loop-previous.invariant.summed in
    omega (arith, fits, summed)

pub loop-previous-preserved : goal.loop-previous-preserved
loop-previous-preserved c =
    let p = c.args.self in
    record {
      same = c.in-Some.ensures.root ∙ c.loop-previous.invariant.same;
      summed = one_less p c.loop-previous.run c.in-Some.previous c.loop-previous.before c.character_count-before.result c.loop-previous.invariant.same c.in-Some.ensures c.character_count-before.ensures c.loop-previous.invariant.summed;
    }

pub returns : goal.returns
returns c =
    let p = c.args.self in
    let none : start_of (position_text p) (number_in c.loop-previous.run) ≡ 0 = ap (start_of (position_text p)) (first_number c.loop-previous.run c.in_default.ensures) in
    omega (arith, none, c.loop-previous.invariant.summed)
