use Rattle.std.proofs.Common.{Result, refl, sym, subst}
use Rattle.std.specs.Io.KnownBytes.{Appends}
use Rattle.std.specs.declared.alloc.AllocError.{AllocError}
use Rattle.model.specs.Events.{Told}
use Rattle.session.specs.Replied.{IsStep}
use Rattle.session.specs.declared.commands.Reply.{Reply}
use Rattle.page.specs.Reports.{Reports, list_ended, report_of}
use Rattle.page.specs.declared.tally.Tally.{Tally}
use Rattle.page.proofs.Reporting.{no_fault}
use Rattle.page.proofs.reported.report_step.Goals as goal

pub returns : goal.returns
returns g c =
    let done = c.step_reported-reply.ensures.step in
    let reporter = c.step_reported-reply.new.reporter in
    let told = no_fault reporter.fault c.in_default.is done.2 in
    let tells = told.1 (tt, tt) in
    let before = g.O.Write.contents c.args.out.now in
    let after = g.O.Write.contents c.end_list.new.out in
    let report = report_of (g.O.Write.contents reporter.out.now) reporter.tally reporter.marks in
    record {
      events = done.0;
      reply = c.in_ok-reply.field-0;
      step = subst (λ (r : Result Reply AllocError). IsStep c.args.session.now c.args.command c.step_reported-reply.new.session done.0 r) c.in_ok-reply.was done.1;
      unmarked = c.new.result;
      empty = c.new.ensures.empty;
      told = report;
      tells = subst (λ (tally : Tally). Told (Reports c.args.state) (report_of before tally c.new.result) done.0 report) c.none.ensures tells;
      counted = refl;
      marked = refl;
      ends = subst (λ x. Appends (g.O.Write.contents x) after (list_ended reporter.tally)) (c.out-1.given.1 (sym c.step_reported-reply.ensures.output)) c.in_ok-end_list.ensures;
      comes = c.outcome_of-outcome.ensures;
    }
