use Rattle.std.proofs.Common.{◌-◌, sym, ◌∙◌, arith}
use Rattle.views.specs.Runs.{IsFirstOf}
use Rattle.texts.proofs.TextEnds.{run_found, some_run}
use Rattle.texts.proofs.GlobalIndexes.{is_cut_in, none_before, one_on, all_before, held, held_by_end, held_by_none}
use Rattle.texts.proofs.indexes.position_from.Goals as goal

pub unwrap-run-requires : goal.unwrap-run-requires
unwrap-run-requires c = some_run (IsFirstOf c.args.root) c.args.root c.first.result c.requires c.first.ensures

pub loop-left-init : goal.loop-left-init
loop-left-init c =
    let first = run_found IsFirstOf c.args.root c.first.result c.unwrap-run.result c.first.ensures c.unwrap-run.ensures in
    let none = none_before c.args.units c.args.root c.needs_masking-masked.result c.needs_masking-masked.ensures c.unwrap-run.result first.order in
    record { same = first.root; summed = omega (arith, none) }

pub count_run-count-requires : goal.count_run-count-requires
count_run-count-requires c = is_cut_in c.args.root c.loop-left.run c.loop-left.invariant.same c.requires

pub holder-index-requires-clause-cut : goal.holder-index-requires-clause-cut
holder-index-requires-clause-cut c = is_cut_in c.args.root c.loop-left.run c.loop-left.invariant.same c.requires

pub returns-then-left-count-clause-at : goal.returns-then-left-count-clause-at
returns-then-left-count-clause-at c =
    let inv = c.loop-left.invariant in
    let index = c.holder-index.ensures in
    sym (held c.args.units c.args.root c.needs_masking-masked.result c.needs_masking-masked.ensures c.loop-left.run c.holder-index.result c.loop-left.left c.args.index inv.same inv.summed index.within index.above index.below)

pub loop-left-preserved : goal.loop-left-preserved
loop-left-preserved c =
    let inv = c.loop-left.invariant in
    record {
      same = c.in-Some.ensures.root ∙ inv.same;
      summed = one_on c.args.units c.args.root c.needs_masking-masked.result c.needs_masking-masked.ensures c.loop-left.run c.in-Some.next c.loop-left.left c.count_run-count.result c.args.index
          inv.same c.in-Some.ensures c.count_run-count.ensures (omega (arith, c.if-left-count.false)) inv.summed;
    }

pub returns-then-left-gt0-clause-at : goal.returns-then-left-gt0-clause-at
returns-then-left-gt0-clause-at c =
    let inv = c.loop-left.invariant in
    let masked = c.needs_masking-masked.ensures in
    let summed = all_before c.args.units c.args.root c.needs_masking-masked.result masked c.loop-left.run c.loop-left.left c.count_run-count.result c.args.index
    inv.same c.in_default.ensures c.count_run-count.ensures (omega (arith, c.if-left-count.false)) inv.summed in
    sym (held_by_none c.args.units c.args.root c.needs_masking-masked.result masked (c.loop-left.left - c.count_run-count.result) c.args.index summed c.if-left-gt0.true)

pub returns-clause-at : goal.returns-clause-at
returns-clause-at c =
    let inv = c.loop-left.invariant in
    let masked = c.needs_masking-masked.ensures in
    let summed = all_before c.args.units c.args.root c.needs_masking-masked.result masked c.loop-left.run c.loop-left.left c.count_run-count.result c.args.index
    inv.same c.in_default.ensures c.count_run-count.ensures (omega (arith, c.if-left-count.false)) inv.summed in
    sym (held_by_end c.args.units c.args.root c.needs_masking-masked.result masked c.loop-left.run c.character_count-index.result (c.loop-left.left - c.count_run-count.result) c.args.index
    inv.same c.in_default.ensures c.character_count-index.ensures summed (omega (arith, c.if-left-gt0.false)))
