use Rattle.page.specs.Reports.{report_of}
use Rattle.page.specs.declared.reported.Reporter.{Reporter}
use Rattle.page.proofs.Reporting.{same_output, all_told}
use Rattle.page.proofs.reported.step_reported.Goals as goal

pub returns-clause-output : goal.returns-clause-output
returns-clause-output g c =
    let done = c.step.ensures.done in
    same_output (λ (s : Reporter g.row.O.Denot). s.out.ghost_name) (λ (s : Reporter g.row.O.Denot). s.state) (λ (s : Reporter g.row.O.Denot). report_of (g.O.Write.contents s.out.now) s.tally s.marks)
    (λ (s : Reporter g.row.O.Denot). s.before) (λ (s : Reporter g.row.O.Denot). s.after) (λ (s : Reporter g.row.O.Denot). s.fault)
    c.args.reporter.now c.step.new.handler done.0 done.2

pub returns-clause-step : goal.returns-clause-step
returns-clause-step g c =
    let done = c.step.ensures.done in (
      done.0,
      done.1,
      all_told (λ (s : Reporter g.row.O.Denot). s.out.ghost_name) (λ (s : Reporter g.row.O.Denot). s.state) (λ (s : Reporter g.row.O.Denot). report_of (g.O.Write.contents s.out.now) s.tally s.marks)
          (λ (s : Reporter g.row.O.Denot). s.before) (λ (s : Reporter g.row.O.Denot). s.after) (λ (s : Reporter g.row.O.Denot). s.fault)
          c.args.session.now c.step.new.self c.args.command c.step.result c.args.reporter.now c.step.new.handler done.0 done.1 done.2,
    )
