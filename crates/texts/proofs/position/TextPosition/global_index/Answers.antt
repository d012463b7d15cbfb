use Rattle.std.proofs.Common.{refl, ap, ◌∙◌, arith}
use Rattle.model.specs.FlatText.{needs_masking}
use Rattle.views.specs.Nodes.{world_at, id_at}
use Rattle.texts.specs.Positions.{root_at}
use Rattle.texts.proofs.GlobalIndexes.{is_cut_in, in_run, index_fits, one_back, none_before}
use Rattle.texts.proofs.position.TextPosition.global_index.Goals as goal

pub loop-previous-init : goal.loop-previous-init
loop-previous-init c =
    let p = c.args.self in
    let is = c.needs_masking-masked.ensures ∙ ap (λ n. needs_masking (world_at n) (id_at n)) c.root.ensures in
    let own = in_run c.args.units (root_at p) p.run refl c.needs_masking-masked.result is p.index p.within in
    record { same = refl; summed = omega (arith, own, c.count_front-before.ensures) }

pub count_front-before-requires-clause-cut : goal.count_front-before-requires-clause-cut
count_front-before-requires-clause-cut c = is_cut_in (root_at c.args.self) c.args.self.run refl c.args.self.text

pub count_run-before-requires : goal.count_run-before-requires
count_run-before-requires c = is_cut_in (root_at c.args.self) c.in-Some.previous (c.in-Some.ensures.root ∙ c.loop-previous.invariant.same) c.args.self.text

pub overflow_add-before : goal.overflow_add-before
overflow_add-before c =
    let p = c.args.self in
    let is = c.needs_masking-masked.ensures ∙ ap (λ n. needs_masking (world_at n) (id_at n)) c.root.ensures in
    let fits = index_fits c.args.units p in
    let summed = one_back c.args.units (root_at p) c.needs_masking-masked.result is c.loop-previous.run c.in-Some.previous c.loop-previous.before c.count_run-before.result _ c.loop-previous.invariant.same c.in-Some.ensures c.count_run-before.ensures c.loop-previous.invariant.summed in
    omega (arith, fits, summed)

pub loop-previous-preserved : goal.loop-previous-preserved
loop-previous-preserved c =
    let p = c.args.self in
    let is = c.needs_masking-masked.ensures ∙ ap (λ n. needs_masking (world_at n) (id_at n)) c.root.ensures in
    record {
      same = c.in-Some.ensures.root ∙ c.loop-previous.invariant.same;
      summed = one_back c.args.units (root_at p) c.needs_masking-masked.result is c.loop-previous.run c.in-Some.previous c.loop-previous.before c.count_run-before.result _ c.loop-previous.invariant.same c.in-Some.ensures c.count_run-before.ensures c.loop-previous.invariant.summed;
    }

pub returns : goal.returns
returns c =
    let p = c.args.self in
    let is = c.needs_masking-masked.ensures ∙ ap (λ n. needs_masking (world_at n) (id_at n)) c.root.ensures in
    let none = none_before c.args.units (root_at p) c.needs_masking-masked.result is c.loop-previous.run c.in_default.ensures in
    omega (arith, none, c.loop-previous.invariant.summed)
