use Rattle.std.proofs.Common.{◌≡◌, true, false, sym, ◌∙◌, arith}
use borrow.Author.Count.{below_more}
use Rattle.texts.proofs.FormatStarts.{IsAlikeAt, one_format, other_format}
use Rattle.texts.proofs.formats.has_same_format.Goals as goal

pub returns-then-not-are_same : goal.returns-then-not-are_same
returns-then-not-are_same c =
    other_format c.args.a c.args.b c.requires c.loop-what.what-index c.loop-what-test.true
    (λ s. let off : true ≡ false = sym (c.are_same.ensures.1 s) ∙ c.if-not-are_same.true in cc)

pub loop-what-preserved : goal.loop-what-preserved
loop-what-preserved c = below_more (IsAlikeAt c.args.a c.args.b) c.loop-what.what-index c.loop-what.invariant (c.are_same.ensures.0 c.if-not-are_same.false)

pub returns : goal.returns
returns c = one_format c.args.a c.args.b c.requires (λ k lt. c.loop-what.invariant k (let done = c.loop-what-test.false in omega (arith, lt, done)))
