use Rattle.std.proofs.Common.{sym, ◌∙◌}
use Rattle.views.specs.Runs.{sent_of, sents_after}
use Rattle.views.proofs.DefectRuns.{own_found, too_long, not_small}
use Rattle.views.proofs.runs.well_formed.defect_from.Goals as goal

pub returns-in-Some : goal.returns-in-Some
returns-in-Some c =
    let at = c.loop-defect in
    sym (at.invariant ∙ own_found c.args.tree c.args.password at.size (sent_of at.run) (sents_after at.run) c.in-Some.defect (sym c.in-Some.ensures))

pub returns-in_default-checked_add : goal.returns-in_default-checked_add
returns-in_default-checked_add c =
    let at = c.loop-defect in
    sym (at.invariant
    ∙ too_long c.args.tree c.args.password at.size (sent_of at.run) (sym c.in_default.ensures) (sents_after at.run)
    (not_small at.size (sent_of at.run) (λ h. c.in_default-checked_add.ensures (rw c.value.ensures h))))
