-- The bit is looked for in its word.
use Rattle.std.proofs.Common.{◌≡◌, ◌+◌, ◌-◌, ◌*◌, ◌^◌, ◌==◌, ◌<◌, ◌≤◌, ap, sym, ◌∙◌, arith}
use Rattle.std.specs.Int.{bit_at}
use Rattle.std.proofs.lemmas.Nat.Bits.{shr_and_one, bit_at_cat_low, bit_at_cat_high}
use Rattle.schema.specs.Actions.{ActionWordsData, set_with}
use Rattle.schema.proofs.actions.ActionWords.contains.Goals as goal

pub returns-then-number-lt128 : goal.returns-then-number-lt128
returns-then-number-lt128 c =
    let low = c.self.inside.low in let top = c.args.top in let n = c.number-number.result in
    c.has.ensures ∙ ap (λ x. x == 1) (sym (bit_at_cat_low _ 128 low n c.if-number-lt128.true))
    ∙ ap (λ (w : ActionWordsData). bit_at (set_with top w) n == 1) c.self.view_is ∙ ap (λ k. bit_at (set_with top c.args.self.now) k == 1) c.number-number.ensures.value

pub returns-then-number-lt256 : goal.returns-then-number-lt256
returns-then-number-lt256 c =
    let low = c.self.inside.low in let high = c.self.inside.high in let top = c.args.top in let n = c.number-number.result in
    let inside : n - 128 < 128 = omega (arith, c.if-number-lt256.true) in
    c.has-then-number-lt256.ensures ∙ ap (λ x. x == 1) (sym (bit_at_cat_high (top * 2 ^ 128 + high) 128 low n c.self.invariant.0 c.if-number-lt128.false ∙ bit_at_cat_low top 128 high (n - 128) inside))
    ∙ ap (λ (w : ActionWordsData). bit_at (set_with top w) n == 1) c.self.view_is ∙ ap (λ k. bit_at (set_with top c.args.self.now) k == 1) c.number-number.ensures.value

pub returns : goal.returns
returns c =
    let low = c.self.inside.low in let high = c.self.inside.high in let top = c.args.top in let n = c.number-number.result in
    let above : 128 ≤ n - 128 = omega (arith, c.if-number-lt256.false) in
    let place : n - 128 - 128 ≡ n - 256 = omega arith in
    ap (λ x. x == 1) (shr_and_one top (n - 256) ∙ sym (bit_at_cat_high (top * 2 ^ 128 + high) 128 low n c.self.invariant.0 c.if-number-lt128.false ∙ bit_at_cat_high top 128 high (n - 128) c.self.invariant.1 above ∙ ap (λ k. bit_at top k) place))
    ∙ ap (λ (w : ActionWordsData). bit_at (set_with top w) n == 1) c.self.view_is ∙ ap (λ k. bit_at (set_with top c.args.self.now) k == 1) c.number-number.ensures.value
