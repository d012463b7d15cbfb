-- The one bit fits, so that none is cut off.
use Rattle.std.proofs.Common.{◌≡◌, ◌*◌, ◌^◌, ◌<◌, arith, ap, ◌∙◌}
use Rattle.std.specs.Int.RustNames.{bit_or}
use Rattle.std.proofs.Math.Nat.{mod-eq_of_lt}
use Rattle.std.proofs.Math.Pow.{pow-lt}
use Rattle.schema.proofs.actions.with_top_bit.Goals as goal

pub returns : goal.returns
returns c =
    let power : 2 ^ c.args.place < 2 ^ 8 = pow-lt c.requires in let small : 1 * 2 ^ c.args.place < 2 ^ 8 = omega (arith, power) in
    let one : 1 * 2 ^ c.args.place ≡ 2 ^ c.args.place = omega arith in
    ap (λ n. bit_or c.args.bits n) (mod-eq_of_lt small ∙ one)
