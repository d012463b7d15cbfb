-- The one bit fits, so that none is cut off.
use Rattle.std.proofs.Common.{◌≡◌, ◌*◌, ◌^◌, ◌<◌, arith, ap, ◌∙◌}
use Rattle.std.specs.Int.RustNames.{bit_or}
use Rattle.std.proofs.Math.Nat.{mod-eq_of_lt, mod-lt}
use Rattle.std.proofs.Math.Pow.{pow-lt}
use Rattle.std.proofs.lemmas.Nat.{or_lt, pow_pos}
use Rattle.schema.proofs.actions.Word.with.Goals as goal

pub returns-clause-value : goal.returns-clause-value
returns-clause-value c =
    let power : 2 ^ c.args.place < 2 ^ 128 = pow-lt c.requires in let small : 1 * 2 ^ c.args.place < 2 ^ 128 = omega (arith, power) in
    let one : 1 * 2 ^ c.args.place ≡ 2 ^ c.args.place = omega arith in
    c.new.ensures ∙ ap (λ n. bit_or c.bits.result n) (mod-eq_of_lt small ∙ one) ∙ ap (λ b. bit_or b (2 ^ c.args.place)) c.bits.ensures.value

pub returns-clause-fits : goal.returns-clause-fits
returns-clause-fits c =
    let small = or_lt 128 c.bits.result _ c.bits.ensures.fits (mod-lt (1 * 2 ^ c.args.place) (pow_pos 128)) in omega (arith, c.new.ensures, small)
