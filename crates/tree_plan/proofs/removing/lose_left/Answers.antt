use Rattle.std.proofs.Common.{◌≡◌, ◌∷◌, [], None, length, slice_index_or, refl, ap, ◌∙◌, arith}
use Rattle.model.specs.declared.FullNodeId.{FullNodeId}
use Rattle.model.specs.Surgery.{Seat}
use Rattle.model.proofs.Members.{contains_first}
use Rattle.tree_plan.specs.Removing.{IsPlacedOrFound, LosesAll}
use Rattle.tree_plan.specs.Cases.{sent}
use Rattle.tree_plan.proofs.IdMaps.{none_done, read_step, done_step, done_weaker, done_all}
use Rattle.tree_plan.proofs.RemovingSteps.{placed_stays, left_goes, left_end}
use Rattle.tree_plan.proofs.removing.lose_left.Goals as goal

-- what a read past the end would give
abbrev nothing : FullNodeId × Seat
nothing = (record { tree = 0; node = record { 0 = 0 } }, None)

pub loop-item-init : goal.loop-item-init
loop-item-init g c = record {
  found = c.requires.found;
  trees = refl;
  done = none_done c.args.case.now.compared.now.left (λ id s. IsPlacedOrFound g.before (sent c.args.case.now) c.args.removing.now id);
}

pub lose-requires : goal.lose-requires
lose-requires g c =
    let w = g.before in let u = sent c.args.case.now in
    let m = c.args.case.now.compared.now.left in
    let e = slice_index_or c.entries-item-items.result.now c.loop-item.item-index nothing in
    let is = read_step m c.entries-item-items.ensures.ascends c.entries-item-items.result.now c.entries-item-items.ensures.all c.loop-item.item-index nothing c.loop-item-test.true in
    (record { case = c.requires.case; found = c.loop-item.invariant.found }, left_goes w u c.args.case.now.compared.now c.requires.case.comparison e.1 e.0 is)

pub loop-item-preserved : goal.loop-item-preserved
loop-item-preserved g c =
    let w = g.before in let u = sent c.args.case.now in
    let m = c.args.case.now.compared.now.left in
    let k = c.loop-item.item-index in
    let a = c.loop-item.removing in
    let b = c.lose.new.removing in
    let e = slice_index_or c.entries-item-items.result.now k nothing in
    let one : LosesAll w u (e.0 ∷ []) a b = c.in_ok-lose.ensures.ok in
    record {
      found = one.found;
      trees = one.trees ∙ c.loop-item.invariant.trees;
      done = done_step m (λ id s. IsPlacedOrFound w u b id) c.entries-item-items.result.now c.entries-item-items.ensures.all k nothing c.loop-item-test.true
          (done_weaker m (λ id s. IsPlacedOrFound w u a id) k c.loop-item.invariant.done (λ id s. IsPlacedOrFound w u b id) (λ id s. placed_stays w u a b one.extends id)) (one.lost e.0 (contains_first e.0 []));
    }

pub returns-clause-ok : goal.returns-clause-ok
returns-clause-ok g c =
    let w = g.before in let u = sent c.args.case.now in
    let m = c.args.case.now.compared.now.left in
    let b = c.loop-item.removing in
    let same : length c.entries-item-items.result.now ≡ length m = ap length c.entries-item-items.ensures.all in
    left_end w u c.args.case.now.compared.now c.requires.case.comparison c.args.removing.now b c.loop-item.invariant.found c.loop-item.invariant.trees
    (done_all m (λ id s. IsPlacedOrFound w u b id) c.loop-item.item-index (omega (arith, c.loop-item-test.false)) c.loop-item.invariant.done)
