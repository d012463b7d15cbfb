use Rattle.std.proofs.Common.{sym, ap, ◌∙◌}
use Rattle.std.specs.Prelude.{option_map}
use Rattle.text_boundaries.specs.RunNumbers.{number_in}
use Rattle.texts.proofs.PointPlaces.{no_runs_empty, none_passes, from_last, passes_here, passes_before, passes_nowhere}
use Rattle.texts.proofs.points.last_at.Goals as goal

pub returns-in_err-run-clause-found : goal.returns-in_err-run-clause-found
returns-in_err-run-clause-found c =
    ap (option_map number_in) c.from_residual.ensures ∙ sym (none_passes c.args.root c.args.test c.args.point (no_runs_empty c.args.root c.in_err-run.ensures))

pub loop-test-init : goal.loop-test-init
loop-test-init c = record {
  same = c.in_ok-run.ensures.root;
  sought = from_last c.args.root c.args.test c.args.point c.in_ok-run.run' c.in_ok-run.ensures.root c.in_ok-run.ensures.order;
}

pub returns-then-passes-clause-found : goal.returns-then-passes-clause-found
returns-then-passes-clause-found c =
    sym (c.loop-test.invariant.sought
    ∙ passes_here c.args.root c.args.test c.args.point c.loop-test.run c.loop-test.invariant.same (sym c.passes.ensures ∙ c.if-passes.true))

pub returns-in_default-clause-found : goal.returns-in_default-clause-found
returns-in_default-clause-found c =
    sym (c.loop-test.invariant.sought
    ∙ passes_nowhere c.args.root c.args.test c.args.point c.loop-test.run c.loop-test.invariant.same c.in_default.ensures (sym c.passes.ensures ∙ c.if-passes.false))

pub loop-test-preserved : goal.loop-test-preserved
loop-test-preserved c = record {
  same = c.in-Some.ensures.root ∙ c.loop-test.invariant.same;
  sought = c.loop-test.invariant.sought
      ∙ passes_before c.args.root c.args.test c.args.point c.loop-test.run c.loop-test.invariant.same c.in-Some.previous c.in-Some.ensures (sym c.passes.ensures ∙ c.if-passes.false);
}
