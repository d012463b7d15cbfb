-- The bit is set in its word.
use Rattle.std.proofs.Common.{◌≡◌, ◌+◌, ◌-◌, ◌*◌, ◌^◌, ◌<◌, ap, sym, ◌∙◌, arith}
use Rattle.std.specs.Int.RustNames.{bit_or}
use Rattle.schema.proofs.ActionBits.{or_low, or_high}
use Rattle.schema.specs.Actions.{ActionWordsData, set_with}
use Rattle.schema.proofs.actions.ActionWords.add.Goals as goal

pub returns-then-number-lt128 : goal.returns-then-number-lt128
returns-then-number-lt128 c =
    let low = c.self.inside.low in let high = c.self.inside.high in let top = c.args.top in let n = c.number-number.result in
    ap (λ w. (top * 2 ^ 128 + high) * 2 ^ 128 + w) c.with-self-inside.ensures.value
    ∙ or_low 128 (top * 2 ^ 128 + high) low n c.if-number-lt128.true c.self.invariant.0
    ∙ ap (λ (w : ActionWordsData). bit_or (set_with top w) (2 ^ n)) c.self.view_is ∙ ap (λ k. bit_or (set_with top c.args.self.now) (2 ^ k)) c.number-number.ensures.value

pub returns-then-number-lt256 : goal.returns-then-number-lt256
returns-then-number-lt256 c =
    let low = c.self.inside.low in let high = c.self.inside.high in let top = c.args.top in let n = c.number-number.result in
    let inside : n - 128 < 128 = omega (arith, c.if-number-lt256.true) in
    let place : 128 + (n - 128) ≡ n = omega (arith, c.if-number-lt128.false) in
    ap (λ w. (top * 2 ^ 128 + w) * 2 ^ 128 + low) c.with-self-inside-then-number-lt256.ensures.value
    ∙ ap (λ w. w * 2 ^ 128 + low) (or_low 128 top high (n - 128) inside c.self.invariant.1)
    ∙ or_high 128 (top * 2 ^ 128 + high) low (n - 128) c.self.invariant.0
    ∙ ap (λ k. bit_or ((top * 2 ^ 128 + high) * 2 ^ 128 + low) (2 ^ k)) place
    ∙ ap (λ (w : ActionWordsData). bit_or (set_with top w) (2 ^ n)) c.self.view_is ∙ ap (λ k. bit_or (set_with top c.args.self.now) (2 ^ k)) c.number-number.ensures.value

pub returns : goal.returns
returns c =
    let low = c.self.inside.low in let high = c.self.inside.high in let top = c.args.top in let n = c.number-number.result in
    let place : 128 + (128 + (n - 256)) ≡ n = omega (arith, c.if-number-lt256.false) in
    ap (λ (w : ActionWordsData). set_with c.with_top_bit.result w) (sym c.self.view_is)
    ∙ ap (λ w. (w * 2 ^ 128 + high) * 2 ^ 128 + low) c.with_top_bit.ensures
    ∙ ap (λ w. w * 2 ^ 128 + low) (or_high 128 top high (n - 256) c.self.invariant.1)
    ∙ or_high 128 (top * 2 ^ 128 + high) low (128 + (n - 256)) c.self.invariant.0
    ∙ ap (λ k. bit_or ((top * 2 ^ 128 + high) * 2 ^ 128 + low) (2 ^ k)) place
    ∙ ap (λ (w : ActionWordsData). bit_or (set_with top w) (2 ^ n)) c.self.view_is ∙ ap (λ k. bit_or (set_with top c.args.self.now) (2 ^ k)) c.number-number.ensures.value
