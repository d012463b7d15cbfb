use Rattle.std.proofs.Common.{◌≡◌, ◌≤◌, Some, inr, length, slice_get, subst, ◌∙◌, arith}
use Rattle.tree_plan.specs.Cases.{sent}
use Rattle.tree_plan.proofs.IdMaps.{contains_at, read_at}
use Rattle.tree_plan.proofs.Passing.{looks_more}
use Rattle.tree_plan.proofs.RemovingSteps.{dropping_fresh, dropping_more, dropping_end}
use Rattle.tree_plan.proofs.removing.drop_lost.Given as given
use Rattle.tree_plan.proofs.removing.drop_lost.Goals as goal
use Rattle.tree_plan.proofs.removing.drop_lost.Goals.{After-name-item}

-- the name of a turn
read : (g : given.Over) (c : After-name-item g) → slice_get c.args.case.now.compared.now.lost.items c.loop-name.name-index ≡ Some c.name-item.result
read g c = read_at c.deref-name-items.result.now _ c.deref-name-items.ensures.value c.loop-name.name-index c.name-item.result c.loop-name-test.true c.name-item.is

pub drop_tree-requires : goal.drop_tree-requires
drop_tree-requires g c κs short =
    let w = g.before in let u = sent c.args.case.now in
    let is = read g (goal.at.drop_tree-requires g c).After-name-item in
    let case = c.requires.1.1.0.case in
    let lost = (case.comparison.lost c.name-item.result).0 (contains_at _ c.loop-name.name-index _ is) in
    let dropping = c.loop-name.invariant.dropping in
    let fresh = dropping_fresh w u _ c.loop-name.name-index _ c.args.removing.now c.loop-name.removing case.comparison.lost_once is dropping in
    (short, (c.loop-name.invariant.looks.0 ∙ c.requires.1.0, (record { case = case; found = dropping.found }, ((lost.0, lost.2, inr lost.1), fresh))))

pub loop-name-preserved : goal.loop-name-preserved
loop-name-preserved g c =
    record {
      looks = looks_more g.L.LookUps.world g.L.LookUps.asked c.args.look_ups.now c.loop-name.look_ups c.drop_tree.new.look_ups c.loop-name.name-index 1 _ (omega arith) c.loop-name.invariant.looks c.drop_tree.ensures.looks;
      dropping = dropping_more _ _ c.args.case.now.compared.now.lost.items c.loop-name.name-index c.name-item.result c.args.removing.now c.loop-name.removing c.drop_tree.new.removing (read g (goal.at.loop-name-preserved g c).After-name-item) c.loop-name.invariant.dropping c.in_ok-drop_tree.ensures.ok;
    }

pub returns-clause-ok : goal.returns-clause-ok
returns-clause-ok g c =
    let w = g.before in let u = sent c.args.case.now in
    let d = c.args.case.now.compared.now in
    let k = c.loop-name.name-index in
    let all : length d.lost.items ≤ k = subst (λ xs. length xs ≤ k) c.deref-name-items.ensures.value c.loop-name-test.false in
    let within : k ≤ length d.lost.items = subst (λ xs. k ≤ length xs) c.deref-name-items.ensures.value c.loop-name.auto.name-index-end in
    dropping_end w u d c.requires.1.1.0.case.comparison k c.args.removing.now c.loop-name.removing all within c.loop-name.invariant.dropping
