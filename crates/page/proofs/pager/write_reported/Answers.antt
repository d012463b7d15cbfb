use Rattle.std.proofs.Common.{◌≡◌, inl, refl}
use Rattle.html.specs.Written.{AppendsBeginning}
use Rattle.page.proofs.Drawn.{told_err, told_ok}
use Rattle.page.proofs.pager.write_reported.Goals as goal

pub returns-in-Ok-clause-written : goal.returns-in-Ok-clause-written
returns-in-Ok-clause-written g c = told_ok _ c.report_outcome.result _ _ c.report_outcome.ensures c.in-Ok.ensures.written

pub returns-in-Ok-clause-cut : goal.returns-in-Ok-clause-cut
returns-in-Ok-clause-cut g c =
    told_err (AppendsBeginning (g.O.Write.contents c.args.output.now) (g.O.Write.contents c.write_text.new.output) c.args.text.now × (g.E.Write.contents c.report_outcome.new.errors ≡ g.E.Write.contents c.args.errors.now))
    _ c.report_outcome.result _ _ c.report_outcome.ensures c.in-Ok.ensures.written

pub returns-in-Err-clause-cut : goal.returns-in-Err-clause-cut
returns-in-Err-clause-cut g c = let h = c.in-Err.ensures.cut in (h.0, inl (h.1, refl))
