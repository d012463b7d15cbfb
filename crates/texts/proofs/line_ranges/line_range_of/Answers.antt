use Rattle.std.proofs.Common.{◌≡◌, Some, sym, ap, ◌∙◌, arith}
use Rattle.std.specs.Prelude.{slice_get}
use Rattle.model.specs.FlatText.{lines, start_at, end_at}
use Rattle.model.specs.Ranges.{Range}
use Rattle.views.specs.Nodes.{world_at, id_at}
use Rattle.views.specs.Runs.{IsFirstOf}
use Rattle.text_boundaries.specs.RunNumbers.{number_in}
use Rattle.texts.specs.Positions.{node_text}
use Rattle.texts.proofs.LineWalks.{ended, went_on}
use Rattle.texts.proofs.TextEnds.{run_found, some_run}
use Rattle.texts.proofs.LineRanges.{line_is_there}
use Rattle.texts.proofs.LineSteps.{at_first_line, line_rises, line_there, no_more_lines, last_line, next_at_line, fewer_left}
use Rattle.texts.proofs.line_ranges.line_range_of.Goals as goal

pub unwrap-first-requires : goal.unwrap-first-requires
unwrap-first-requires c = some_run (IsFirstOf c.args.root) c.args.root c.first.result c.requires c.first.ensures

pub loop-line-init : goal.loop-line-init
loop-line-init c =
    let first = run_found IsFirstOf c.args.root c.first.result c.unwrap-first.result c.first.ensures c.unwrap-first.ensures in
    record { at = at_first_line c.args.root c.requires c.unwrap-first.result first; upto = omega arith }

pub range_to-requires-clause-order : goal.range_to-requires-clause-order
range_to-requires-clause-order c =
    line_rises c.args.root c.requires c.loop-line.line c.loop-line.first c.last_of.result c.loop-line.invariant.at c.last_of.ensures.same c.last_of.ensures.found

pub returns-then-line-index : goal.returns-then-line-index
returns-then-line-index c =
    let n = c.args.root in
    let at = c.loop-line.invariant.at in
    let upto = c.loop-line.invariant.upto in
    let past = c.if-line-index.true in
    let here : c.loop-line.line ≡ c.args.index = omega (arith, upto, past) in
    let there = line_there n c.requires c.loop-line.line c.loop-line.first c.last_of.result at c.last_of.ensures.same c.last_of.ensures.found in
    let is = line_is_there (node_text n) c.args.index (number_in c.loop-line.first) (number_in c.last_of.result) (sym (ap (slice_get (lines (node_text n))) here) ∙ there) in
    record {
      world = c.range_to.ensures.world ∙ ap world_at at.same;
      root = c.range_to.ensures.root ∙ ap id_at at.same;
      at = ap Some (c.range_to.ensures.at ∙ ap (λ m. let r : Range = record { start = start_at (number_in c.loop-line.first); end = end_at (node_text m) (number_in c.last_of.result) } in r) at.same) ∙ is;
    }

pub range_past-requires-clause-size : goal.range_past-requires-clause-size
range_past-requires-clause-size c =
    no_more_lines c.args.root c.requires c.loop-line.line c.loop-line.first c.step_line.ensures.last c.loop-line.invariant.at c.step_line.ensures.same c.step_line.ensures.found (ended c.step_line.result c.step_line.ensures c.if-not-step_line.true)

pub range_past-requires-clause-last : goal.range_past-requires-clause-last
range_past-requires-clause-last c =
    last_line c.args.root c.requires c.loop-line.line c.loop-line.first c.step_line.ensures.last c.loop-line.invariant.at c.step_line.ensures.same c.step_line.ensures.found (ended c.step_line.result c.step_line.ensures c.if-not-step_line.true)

pub loop-line-smaller : goal.loop-line-smaller
loop-line-smaller c =
    fewer_left c.args.root c.requires c.loop-line.line c.loop-line.first c.step_line.ensures.last c.loop-line.invariant.at c.step_line.ensures.same c.step_line.ensures.found c.step_line.new.run (went_on c.step_line.result c.step_line.ensures c.if-not-step_line.false)

pub loop-line-preserved : goal.loop-line-preserved
loop-line-preserved c =
    let below = c.if-line-index.false in
    record {
      at = next_at_line c.args.root c.requires c.loop-line.line c.loop-line.first c.step_line.ensures.last c.loop-line.invariant.at c.step_line.ensures.same c.step_line.ensures.found c.step_line.new.run (went_on c.step_line.result c.step_line.ensures c.if-not-step_line.false);
      upto = omega (arith, below);
    }
