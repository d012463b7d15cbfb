use Rattle.std.proofs.Common.{refl}
use Rattle.std.proofs.lemmas.Result.{on_ok_weaker}
use Rattle.model.specs.Surgery.{IsGraftedByNamed}
use Rattle.tree_plan.specs.declared.removing.Removing.{Removing}
use Rattle.tree_plan.specs.Passes.{IsOfName}
use Rattle.tree_plan.specs.Cases.{sent}
use Rattle.tree_plan.proofs.RemovingSteps.{grafted_has, grafted_not, dropped_not, pushed_found, pushed_goes, dropped_empty, dropped_root}
use Rattle.std.proofs.Common.{subst}
use Rattle.tree_plan.proofs.removing.drop_tree.Goals as goal

pub returns-then-contains_key-clause-ok : goal.returns-then-contains_key-clause-ok
returns-then-contains_key-clause-ok g c =
    let w = g.before in let u = sent c.args.case.now in
    dropped_not w u c.args.name.now c.args.removing.now c.requires.1.1.0.found (grafted_has w u c.args.case.now.compared.now c.requires.1.1.0.case.comparison c.args.name.now c.if-contains_key.ensures)

pub returns-in_default-clause-ok : goal.returns-in_default-clause-ok
returns-in_default-clause-ok g c =
    let w = g.before in let u = sent c.args.case.now in
    let a = c.args.removing.now in
    let b : Removing = record a { trees = c.push.new.self } in
    let of : IsOfName w c.args.name.now c.tree_record-tree.result = subst (λ v. IsOfName v c.args.name.now c.tree_record-tree.result) c.requires.1.0 c.tree_record-tree.ensures.«record» in
    let other : ¬ (IsGraftedByNamed w u c.args.name.now) = grafted_not w u c.args.case.now.compared.now c.requires.1.1.0.case.comparison c.args.name.now c.if-contains_key.ensures in
    dropped_empty w u c.args.name.now c.tree_record-tree.result c.cut.result of a b c.requires.1.1.0.found c.requires.1.1.1.1 c.requires.1.1.1.0 other c.cut.ensures refl refl c.in_ok-push.ensures.items
    c.root_of.result c.root_of.ensures c.in_default.is

pub lose-requires : goal.lose-requires
lose-requires g c =
    let w = g.before in let u = sent c.args.case.now in
    let a = c.args.removing.now in
    let b : Removing = record a { trees = c.push.new.self } in
    let of : IsOfName w c.args.name.now c.tree_record-tree.result = subst (λ v. IsOfName v c.args.name.now c.tree_record-tree.result) c.requires.1.0 c.tree_record-tree.ensures.«record» in
    let other : ¬ (IsGraftedByNamed w u c.args.name.now) = grafted_not w u c.args.case.now.compared.now c.requires.1.1.0.case.comparison c.args.name.now c.if-contains_key.ensures in (
      record { case = c.requires.1.1.0.case; found = pushed_found w u c.args.name.now c.tree_record-tree.result c.cut.result of a b c.requires.1.1.0.found c.requires.1.1.1.1 c.requires.1.1.1.0 other c.cut.ensures refl refl c.in_ok-push.ensures.items },
      pushed_goes w u c.args.name.now c.tree_record-tree.result c.cut.result of a b c.requires.1.1.0.found c.requires.1.1.1.1 c.requires.1.1.1.0 other c.cut.ensures refl refl c.in_ok-push.ensures.items c.in-Some.root c.root_of.result c.root_of.ensures c.in-Some.is,
    )

pub returns-clause-ok : goal.returns-clause-ok
returns-clause-ok g c =
    let w = g.before in let u = sent c.args.case.now in
    let a = c.args.removing.now in
    let b : Removing = record a { trees = c.push.new.self } in
    let of : IsOfName w c.args.name.now c.tree_record-tree.result = subst (λ v. IsOfName v c.args.name.now c.tree_record-tree.result) c.requires.1.0 c.tree_record-tree.ensures.«record» in
    let other : ¬ (IsGraftedByNamed w u c.args.name.now) = grafted_not w u c.args.case.now.compared.now c.requires.1.1.0.case.comparison c.args.name.now c.if-contains_key.ensures in
    on_ok_weaker c.lose.result (dropped_root w u c.args.name.now c.tree_record-tree.result c.cut.result of a b c.requires.1.1.0.found c.requires.1.1.1.1 c.requires.1.1.1.0 other c.cut.ensures refl refl c.in_ok-push.ensures.items c.lose.new.removing c.in-Some.root c.root_of.result c.root_of.ensures c.in-Some.is) c.lose.ensures.ok
