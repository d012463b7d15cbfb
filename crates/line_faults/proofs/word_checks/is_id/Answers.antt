use Rattle.std.proofs.Common.{ℕ, List}
use Rattle.script_words.specs.Reading.{IsCount}
use Rattle.script_words.specs.Says.{SaysNumber}
use Rattle.line_faults.proofs.KnownNames.{text_known}
use Rattle.line_faults.proofs.word_checks.is_id.Goals as goal

pub returns : goal.returns
returns c =
    let P : ℕ → List ℕ → Type 0 = λ n text. IsCount n × SaysNumber text n in
    let known = text_known c.args.word.now _ c.number.result P c.is_some.result c.in-Ok.ensures.cases.1 c.in-Ok.ensures.cases.0 c.is_some.ensures c.number.ensures.exact in
    ((λ t. let h = known.0 t in (h.0, (h.1.0, h.1.1.0, h.1.1.1))), (λ h. known.1 (h.0, (h.1.0, (h.1.1, h.1.2)))))
