use Rattle.std.proofs.Common.{refl, sym, ap, ◌∙◌}
use Rattle.tree_plan.specs.Writing.{own_record}
use Rattle.tree_plan.proofs.Walked.{events_walked}
use Rattle.tree_plan.proofs.Written.{written_new, written_decision, written_small}
use Rattle.tree_plan.proofs.writing.write.Goals as goal

pub returns-in-Some-clause-ok : goal.returns-in-Some-clause-ok
returns-in-Some-clause-ok g c =
    let is = rw c.in-Some.is at c.in_ok-walk.ensures.ok in
    written_decision g.step c.args.found c.requires.1.0 is.0 is.1.ascends is.1.becomes
    c.own_record-own.result (c.own_record-own.ensures ∙ ap (λ u. own_record u.name u.focus c.args.found.opened) (sym c.requires.0))
    (record { nodes = c.into_entries-changes.result; trees = c.in_ok-trees.trees; events = c.in_ok-told.told; focus = c.args.focused.now.effective; looked = c.args.looked })
    (c.into_entries-changes.ensures.all ∙ is.1.tells.nodes_are) c.in_ok-trees.ensures.ok
    c.args.focused.now c.requires.1.1 c.in_ok-told.ensures.quiet (λ later. events_walked g.step is.0 c.in-Some.walked c.args.focused.now c.in_ok-told.told.items is.1 (c.in_ok-told.ensures.told later)) refl

pub returns-in-Some-clause-new : goal.returns-in-Some-clause-new
returns-in-Some-clause-new g c =
    let is = rw c.in-Some.is at c.in_ok-walk.ensures.ok in
    written_new g.step c.args.found c.requires.1.0 is.0 is.1.ascends is.1.becomes
    c.own_record-own.result (c.own_record-own.ensures ∙ ap (λ u. own_record u.name u.focus c.args.found.opened) (sym c.requires.0))
    (record { nodes = c.into_entries-changes.result; trees = c.in_ok-trees.trees; events = c.in_ok-told.told; focus = c.args.focused.now.effective; looked = c.args.looked })
    (c.into_entries-changes.ensures.all ∙ is.1.tells.nodes_are) c.in_ok-trees.ensures.ok

pub returns-in-Some-clause-small : goal.returns-in-Some-clause-small
returns-in-Some-clause-small g c =
    let is = rw c.in-Some.is at c.in_ok-walk.ensures.ok in
    written_small g.step c.args.found c.requires.1.0 is.0 is.1.ascends is.1.becomes
    c.own_record-own.result (c.own_record-own.ensures ∙ ap (λ u. own_record u.name u.focus c.args.found.opened) (sym c.requires.0))
    (record { nodes = c.into_entries-changes.result; trees = c.in_ok-trees.trees; events = c.in_ok-told.told; focus = c.args.focused.now.effective; looked = c.args.looked })
    (c.into_entries-changes.ensures.all ∙ is.1.tells.nodes_are) c.in_ok-trees.ensures.ok
    c.args.focused.now c.requires.1.1 c.in_ok-told.ensures.quiet (λ later. events_walked g.step is.0 c.in-Some.walked c.args.focused.now c.in_ok-told.told.items is.1 (c.in_ok-told.ensures.told later))
    (rw c.in-Some.is at c.in_ok-walk.ensures.entered) (rw c.in-Some.is at c.in_ok-walk.ensures.gone)

pub returns-clause-ok : goal.returns-clause-ok
returns-clause-ok g c =
    written_decision g.step c.args.found c.requires.1.0 c.in_ok-verdicts.verdicts c.in_ok-nodes.ensures.ordered c.in_ok-verdicts.ensures.ok
    c.own_record-own.result (c.own_record-own.ensures ∙ ap (λ u. own_record u.name u.focus c.args.found.opened) (sym c.requires.0))
    (record { nodes = c.in_ok-nodes.nodes; trees = c.in_ok-trees.trees; events = c.in_ok-events.events; focus = c.args.focused.now.effective; looked = c.args.looked })
    c.in_ok-nodes.ensures.ok c.in_ok-trees.ensures.ok c.args.focused.now c.requires.1.1 c.in_ok-events.ensures.quiet c.in_ok-events.ensures.told refl

pub returns-clause-new : goal.returns-clause-new
returns-clause-new g c =
    written_new g.step c.args.found c.requires.1.0 c.in_ok-verdicts.verdicts c.in_ok-nodes.ensures.ordered c.in_ok-verdicts.ensures.ok
    c.own_record-own.result (c.own_record-own.ensures ∙ ap (λ u. own_record u.name u.focus c.args.found.opened) (sym c.requires.0))
    (record { nodes = c.in_ok-nodes.nodes; trees = c.in_ok-trees.trees; events = c.in_ok-events.events; focus = c.args.focused.now.effective; looked = c.args.looked })
    c.in_ok-nodes.ensures.ok c.in_ok-trees.ensures.ok

pub returns-clause-small : goal.returns-clause-small
returns-clause-small g c =
    written_small g.step c.args.found c.requires.1.0 c.in_ok-verdicts.verdicts c.in_ok-nodes.ensures.ordered c.in_ok-verdicts.ensures.ok
    c.own_record-own.result (c.own_record-own.ensures ∙ ap (λ u. own_record u.name u.focus c.args.found.opened) (sym c.requires.0))
    (record { nodes = c.in_ok-nodes.nodes; trees = c.in_ok-trees.trees; events = c.in_ok-events.events; focus = c.args.focused.now.effective; looked = c.args.looked })
    c.in_ok-nodes.ensures.ok c.in_ok-trees.ensures.ok c.args.focused.now c.requires.1.1 c.in_ok-events.ensures.quiet c.in_ok-events.ensures.told
    c.in_ok-verdicts.ensures.entered c.in_ok-verdicts.ensures.gone
