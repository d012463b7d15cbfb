use Rattle.std.proofs.Common.{w64, ap, ◌∙◌}
use Rattle.std.specs.Result.{result_ok}
use Rattle.std.proofs.lemmas.Fmt.{parse-signed_decimal}
use Rattle.script_words.proofs.Decimals.{no_plus_signed, small}
use Rattle.script_words.proofs.Numerals.{plus_says_nothing, signed_said}
use Rattle.script_words.proofs.words.signed.Goals as goal

pub returns-then-starts_with : goal.returns-then-starts_with
returns-then-starts_with c = record {
  reads = λ z fits e. absurd (no_plus_signed z fits c.args.word.now e c.starts_with.result c.starts_with.ensures.cases c.if-starts_with.true);
  exact = plus_says_nothing c.args.word.now c.starts_with.result c.starts_with.ensures.cases c.if-starts_with.true;
}

pub returns : goal.returns
returns c = record {
  reads = λ z fits e. c.ok.ensures.value ∙ ap result_ok (parse-signed_decimal w64 z c.args.word.now c.parse.result fits (small z fits) e c.parse.ensures.value.0);
  exact = λ z. rw c.ok.ensures.value (signed_said c.args.word.now c.starts_with.result c.parse.result c.starts_with.ensures.cases c.if-starts_with.false c.parse.ensures.value.0 z);
}
