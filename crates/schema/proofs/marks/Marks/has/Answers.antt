-- The bit that is looked at is the mark's.
use Rattle.std.proofs.Common.{◌<◌, ◌==◌, ap, sym, ◌∙◌, subst}
use Rattle.std.specs.Int.{bit_at}
use Rattle.std.proofs.lemmas.Nat.Bits.{shr_and_one}
use Rattle.schema.specs.Marks.{mark_number, has_mark}
use Rattle.schema.proofs.MarkBits.{at_number}
use Rattle.schema.proofs.marks.Marks.has.Goals as goal

pub returns : goal.returns
returns c =
    let small : mark_number c.args.mark < 51 = subst (λ k. k < 51) c.number.ensures.value c.number.ensures.small in
    ap (λ b. b == 1) (shr_and_one c.self.inside.bits c.number.result)
    ∙ ap (λ k. bit_at c.self.inside.bits k == 1) c.number.ensures.value
    ∙ sym (at_number (λ j. bit_at c.self.inside.bits j == 1) (mark_number c.args.mark) small) ∙ ap (has_mark c.args.mark) c.self.view_is
