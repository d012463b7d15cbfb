use Rattle.std.proofs.Common.{◌≡◌, ◌+◌, false, not, inl, inr, sym, ap, refl, ◌∙◌}
use Rattle.std.specs.Prelude.{is_some, if◌then◌else◌}
use Rattle.std.specs.BTreeSet.{btree_set_len, contains}
use Rattle.model.specs.FullIds.{full_cmp}
use Rattle.model.proofs.Surgery.FaultsStand.{gone_stands}
use Rattle.tree_plan.specs.declared.removing.Removing.{Removing}
use Rattle.tree_plan.specs.Cases.{sent}
use Rattle.tree_plan.proofs.RemovingSteps.{entered_has, entered_not, named_has, named_not, loses_there, loses_new}
use Rattle.tree_plan.proofs.removing.lose.Goals as goal

pub returns-then-is_some-clause-ok : goal.returns-then-is_some-clause-ok
returns-then-is_some-clause-ok g c =
    let w = g.before in let u = sent c.args.case.now in
    loses_there w u c.args.id c.args.removing.now c.requires.0.found (inl (entered_has w u c.args.case.now.compared.now c.requires.0.case.comparison c.args.id (c.if-is_some.ensures ∙ ap is_some c.get_near.ensures)))

pub returns-then-contains_key-clause-err : goal.returns-then-contains_key-clause-err
returns-then-contains_key-clause-err g c =
    let w = g.before in let u = sent c.args.case.now in let d = c.args.case.now.compared.now in
    gone_stands w u c.requires.0.case.old c.requires.0.case.comparison.compared.opened c.args.id (named_has w u d c.requires.0.case.comparison c.args.id c.if-contains_key.ensures)
    (c.requires.1 (entered_not w u d c.requires.0.case.comparison c.args.id (c.if-is_some.ensures ∙ ap is_some c.get_near.ensures)))

pub returns-then-contains-clause-ok : goal.returns-then-contains-clause-ok
returns-then-contains-clause-ok g c =
    let w = g.before in let u = sent c.args.case.now in
    loses_there w u c.args.id c.args.removing.now c.requires.0.found (inr ((c.requires.0.found.gone c.args.id).0 (sym c.if-contains.ensures)))

pub returns-clause-ok : goal.returns-clause-ok
returns-clause-ok g c =
    let w = g.before in let u = sent c.args.case.now in let d = c.args.case.now.compared.now in
    let a = c.args.removing.now in
    let b : Removing = record { gone = c.insert.new.self; queue = c.push.new.self; trees = a.trees } in
    let absent : contains full_cmp a.gone c.args.id ≡ false = sym c.if-contains.ensures in
    let added = c.in_ok-insert.ensures.added in
    let count : btree_set_len b.gone ≡ btree_set_len a.gone + 1 = c.in_ok-insert.ensures.len ∙ ap (λ x. btree_set_len a.gone + (if x then 1 else 0)) (added ∙ ap not absent) in
    loses_new w u c.args.id a b c.requires.0.found (c.requires.1 (entered_not w u d c.requires.0.case.comparison c.args.id (c.if-is_some.ensures ∙ ap is_some c.get_near.ensures))) (named_not w u d c.requires.0.case.comparison c.args.id c.if-contains_key.ensures)
    absent c.in_ok-insert.ensures.updates.0 count c.in_ok-push.ensures.items refl
