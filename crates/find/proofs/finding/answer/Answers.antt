use Rattle.std.proofs.Common.{[], inl, inr, subst}
use Rattle.std.proofs.KnownBytes.{Appends-kept}
use Rattle.script_lines.specs.Ends.{Tells}
use Rattle.find.specs.Finding.{printed_when, status_if}
use Rattle.find.specs.Noted.{noted_of}
use Rattle.find.proofs.finding.answer.Goals as goal

pub returns-in-Ok-clause-answers : goal.returns-in-Ok-clause-answers
returns-in-Ok-clause-answers g c =
    let before = g.O.Write.contents c.args.output.now in
    let printed = g.O.Write.contents c.print_answer.new.output in
    let after = g.O.Write.contents c.end_answer.new.output in
    let told_before = g.E.Write.contents c.args.errors.now in
    let told_after = g.E.Write.contents c.end_answer.new.errors in
    let read = c.args.read.now in
    let text = printed_when c.args.wanted.now.when c.args.wanted.now read.updates (noted_of read.notes) read.session in
    inl (
      Appends-kept before printed after text c.in-Ok.ensures.printed c.end_answer.ensures.printed,
      subst (λ is. Tells told_before told_after [] (status_if is) c.end_answer.result) c.in-Ok.ensures.enough c.end_answer.ensures.told,
    )

pub returns-in-Err-clause-answers : goal.returns-in-Err-clause-answers
returns-in-Err-clause-answers g c = inr (c.in-Err.stop, c.end_run.ensures.told)
