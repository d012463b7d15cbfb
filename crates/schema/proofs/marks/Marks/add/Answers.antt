-- The new bit is the mark's.
use Rattle.std.proofs.Common.{true, ◌*◌, ◌^◌, ◌%◌, ◌<◌, arith, ap, ◌∙◌, subst}
use Rattle.std.specs.Int.RustNames.{bit_or}
use Rattle.std.proofs.Math.Nat.{mod-eq_of_lt}
use Rattle.std.proofs.Math.Pow.{pow-lt}
use Rattle.std.proofs.lemmas.Nat.{or_lt}
use Rattle.schema.specs.Marks.{mark_number, mark_data, put_mark}
use Rattle.schema.proofs.MarkBits.{added}
use Rattle.schema.proofs.marks.Marks.add.Goals as goal

pub invariant_of-self : goal.invariant_of-self
invariant_of-self c =
    let power : 2 ^ c.number.result < 2 ^ 51 = pow-lt c.number.ensures.small in
    let small : 1 * 2 ^ c.number.result < 2 ^ 64 = omega (arith, power) in
    let fits : 1 * 2 ^ c.number.result % 2 ^ 64 < 2 ^ 51 = omega (arith, power, mod-eq_of_lt small) in
    or_lt 51 c.self.inside.bits _ c.self.invariant fits

pub returns : goal.returns
returns c =
    let small : mark_number c.args.mark < 51 = subst (λ k. k < 51) c.number.ensures.value c.number.ensures.small in
    ap (λ k. mark_data (bit_or c.self.inside.bits (1 * 2 ^ k % 2 ^ 64))) c.number.ensures.value
    ∙ added c.self.inside.bits c.args.mark small ∙ ap (put_mark c.args.mark true) c.self.view_is
