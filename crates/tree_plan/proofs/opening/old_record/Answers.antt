use Rattle.std.proofs.Common.{◌≡◌, ◌∙◌, length, sym, subst, arith}
use Rattle.model.specs.World.{World}
use Rattle.model.specs.Update.{IsFirst}
use Rattle.tree_changes.specs.declared.look_ups.TreeRecord.{TreeRecord}
use Rattle.tree_plan.specs.Passes.{IsOfName}
use Rattle.tree_plan.proofs.Opens.{blank, first_blank, none_known}
use Rattle.tree_plan.proofs.opening.old_record.Goals as goal

pub returns-clause-record : goal.returns-clause-record
returns-clause-record g c =
    let w : World = g.L.LookUps.world c.args.look_ups.now in
    let counted : c.known_trees.result ≡ length w.known = c.known_trees.ensures.count in
    let first : IsFirst w = none_known w.known (let zero : c.known_trees.result ≡ 0 = omega arith in sym counted ∙ zero) in
    let name = c.args.update.now.tree_id in
    let same : blank name ≡ c.no_record.result = cc in
    let P : TreeRecord → Type 0 = IsOfName w name in
    subst P same (first_blank w c.known_trees.ensures.old first name)
