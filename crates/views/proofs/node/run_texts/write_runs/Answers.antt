use Rattle.std.proofs.Common.{sym, ap}
use Rattle.views.specs.Nodes.{world_at, id_at}
use Rattle.views.specs.Runs.{sent_of, sents_after}
use Rattle.views.specs.RunTexts.{shown_of, shown_of_all, shown_text, sents_from}
use Rattle.views.proofs.RunTexts.{from_first, from_next}
use Rattle.model.specs.TextRuns.{sent_runs}
use Rattle.views.specs.ValueCalls.{run_calls, calls_of_runs}
use Rattle.views.proofs.Calling.{begins, called_on, broken_off, all_called, left_is}
use Rattle.views.proofs.Writing.{starts, goes_on, stops, ends, rest_is, err_with}
use Rattle.views.proofs.node.run_texts.write_runs.Goals as goal

pub loop-rest-init : goal.loop-rest-init
loop-rest-init g c =
    let all = sym (from_first c.args.root c.first-rest.result c.first-rest.ensures).0 in
    record {
      way = rest_is (ap (shown_of_all c.args.masked) all) (starts (shown_text c.args.masked (world_at c.args.root) (id_at c.args.root)) c.args.writer.now);
      calls = left_is g.W.TextWrite.steps (ap (calls_of_runs c.args.masked) all) (begins g.W.TextWrite.steps (calls_of_runs c.args.masked (sent_runs (world_at c.args.root) (id_at c.args.root))) c.args.writer.now);
    }

pub returns-in_err-write_run-clause-err : goal.returns-in_err-write_run-clause-err
returns-in_err-write_run-clause-err g c =
    let run = c.in-Some.run' in
    err_with c.from_residual.result
    (stops (shown_of c.args.masked (sent_of run)) (shown_of_all c.args.masked (sents_after run)) (rest_is (ap (λ o. shown_of_all c.args.masked (sents_from o)) c.in-Some.is) c.loop-rest.invariant.way) c.in_err-write_run.ensures.err)

pub returns-in_err-write_run-clause-stopped : goal.returns-in_err-write_run-clause-stopped
returns-in_err-write_run-clause-stopped g c =
    let run = c.in-Some.run' in
    err_with c.from_residual.result
    (broken_off g.W.TextWrite.steps (run_calls c.args.masked (sent_of run)) (calls_of_runs c.args.masked (sents_after run))
    (left_is g.W.TextWrite.steps (ap (λ o. calls_of_runs c.args.masked (sents_from o)) c.in-Some.is) c.loop-rest.invariant.calls) c.in_err-write_run.ensures.calls.stopped)

pub loop-rest-preserved : goal.loop-rest-preserved
loop-rest-preserved g c =
    let run = c.in-Some.run' in
    record {
      way = rest_is (ap (shown_of_all c.args.masked) (sym (from_next run c.next-rest.result c.next-rest.ensures).0))
          (goes_on (rest_is (ap (λ o. shown_of_all c.args.masked (sents_from o)) c.in-Some.is) c.loop-rest.invariant.way) c.in_ok-write_run.ensures.ok);
      calls = left_is g.W.TextWrite.steps (ap (calls_of_runs c.args.masked) (sym (from_next run c.next-rest.result c.next-rest.ensures).0))
          (called_on g.W.TextWrite.steps (run_calls c.args.masked (sent_of run))
          (left_is g.W.TextWrite.steps (ap (λ o. calls_of_runs c.args.masked (sents_from o)) c.in-Some.is) c.loop-rest.invariant.calls) c.in_ok-write_run.ensures.calls.called);
    }

pub returns-clause-ok : goal.returns-clause-ok
returns-clause-ok g c = ends (rest_is (ap (λ o. shown_of_all c.args.masked (sents_from o)) c.in_default.is) c.loop-rest.invariant.way)

pub returns-clause-called : goal.returns-clause-called
returns-clause-called g c =
    all_called g.W.TextWrite.steps (left_is g.W.TextWrite.steps (ap (λ o. calls_of_runs c.args.masked (sents_from o)) c.in_default.is) c.loop-rest.invariant.calls)
