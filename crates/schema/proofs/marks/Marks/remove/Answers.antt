-- The bit that is cleared is the mark's.
use Rattle.std.proofs.Common.{false, ◌*◌, ◌^◌, ◌%◌, ◌<◌, ap, ◌∙◌, subst}
use Rattle.std.specs.Int.{bit_not, w64}
use Rattle.std.specs.Int.RustNames.{bit_and}
use Rattle.schema.specs.Marks.{mark_number, mark_data, put_mark}
use Rattle.schema.proofs.MarkBits.{removed}
use Rattle.schema.proofs.marks.Marks.remove.Goals as goal

pub returns : goal.returns
returns c =
    let small : mark_number c.args.mark < 51 = subst (λ k. k < 51) c.number.ensures.value c.number.ensures.small in
    ap (λ k. mark_data (bit_and c.self.inside.bits (bit_not w64 (1 * 2 ^ k % 2 ^ 64)))) c.number.ensures.value
    ∙ removed c.self.inside.bits c.args.mark small ∙ ap (put_mark c.args.mark false) c.self.view_is
