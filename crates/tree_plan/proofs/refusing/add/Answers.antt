use Rattle.std.proofs.Common.{sym}
use Rattle.tree_plan.specs.declared.refusing.Search.{Search}
use Rattle.tree_plan.proofs.RefusingSteps.{adds_there, adds_new}
use Rattle.tree_plan.proofs.refusing.add.Goals as goal

pub returns-then-contains-clause-ok : goal.returns-then-contains-clause-ok
returns-then-contains-clause-ok c = adds_there c.args.id c.args.search.now c.requires.search (sym c.if-contains.ensures)

pub returns-clause-ok : goal.returns-clause-ok
returns-clause-ok c =
    let b : Search = record { seen = c.insert.new.self; queue = c.push.new.self } in
    adds_new c.args.id c.args.search.now b c.requires.search c.in_ok-insert.ensures.updates.0 c.in_ok-push.ensures.items
