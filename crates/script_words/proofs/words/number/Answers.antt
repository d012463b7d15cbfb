use Rattle.std.proofs.Common.{ap, ◌∙◌}
use Rattle.std.specs.Result.{result_ok}
use Rattle.std.proofs.lemmas.Fmt.{parse-decimal}
use Rattle.script_words.proofs.Decimals.{no_plus}
use Rattle.script_words.proofs.words.number.Goals as goal

pub returns-then-starts_with-clause-reads : goal.returns-then-starts_with-clause-reads
returns-then-starts_with-clause-reads c = λ n low e. absurd (no_plus n low c.args.word.now e c.starts_with.result c.starts_with.ensures.cases c.if-starts_with.true)

pub returns-clause-reads : goal.returns-clause-reads
returns-clause-reads c = λ n low e. c.ok.ensures.value ∙ ap result_ok (parse-decimal 64 n c.args.word.now c.parse.result low low e c.parse.ensures.value.0)
