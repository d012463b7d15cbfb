use Rattle.std.proofs.Common.{◌≡◌, MatchOption, true, false, subst, ◌∙◌}
use Rattle.schema.specs.UpdateData.{UpdateData}
use Rattle.model.specs.World.{World, Reached}
use Rattle.model.specs.Update.{merged_world}
use Rattle.model.proofs.Surgery.FocusWalk.{walked_keeps}
use Rattle.tree_plan.specs.Aims.{IsEnd, Answers, IsStaying}
use Rattle.tree_plan.specs.Cases.{sent}
use Rattle.tree_plan.proofs.FocusWays.{end_effective, end_new, after_new, end_ungrafted}
use Rattle.tree_plan.proofs.focusing.find_focus.Given as given
use Rattle.tree_plan.proofs.focusing.find_focus.Goals as goal
use Rattle.tree_plan.proofs.focusing.find_focus.Goals.{In_ok-end}

-- the focus ends there, and the node is reached
ended : (g : given.Over) (c : In_ok-end g) →
    let m = merged_world (g.L.LookUps.world c.args.look_ups.now) (sent c.args.case.now) in
    IsEnd m c.in_ok-end.end × Reached m c.in_ok-end.end.id
ended g c =
    let u : UpdateData = sent c.args.case.now in
    let e = c.in_ok-end.end in
    let first = c.focus_before-before.ensures.looks.0 in
    (subst (λ v. IsEnd (merged_world v u) e) first c.in_ok-end.ensures.end, subst (λ v. Reached (merged_world v u) e.id) first c.in_ok-end.ensures.reached)

pub returns-clause-ok : goal.returns-clause-ok
returns-clause-ok g c =
    let w : World = g.L.LookUps.world c.args.look_ups.now in
    let u : UpdateData = sent c.args.case.now in
    let e = c.in_ok-end.end in
    let end = ended g (goal.at.returns-clause-ok g c).In_ok-end in
    let last : g.L.LookUps.world c.end_after.new.look_ups ≡ w = c.end_after.ensures.world ∙ c.focus_before-before.ensures.looks.0 in
    record {
      before = c.focus_before-before.ensures.focus;
      effective = λ new r. end_effective new e (end_new w u c.requires.case.old c.args.case.now.compared.now c.args.removed.now c.requires.case.comparison c.requires.removal c.requires.passed new r e end.0 end.1);
      after = λ new r. after_new w u c.requires.case.old c.args.case.now.compared.now c.args.removed.now c.requires.case.comparison c.requires.removal c.requires.passed new r e end.0 end.1 c.focus_after-after.result
          (subst (λ (v : World). MatchOption c.focus_after-after.result (v.host_focused ≡ false) (λ id. (v.host_focused ≡ true) × Answers (IsStaying v c.args.case.now.compared.now c.args.removed.now) e id)) last c.focus_after-after.ensures.focus);
    }

pub returns-clause-keeps : goal.returns-clause-keeps
returns-clause-keeps g c =
    let end = ended g (goal.at.returns-clause-keeps g c).In_ok-end in
    walked_keeps _ _ c.requires.case.old c.requires.passed c.in_ok-end.end.id end.0.0 end.1 (end_ungrafted _ c.in_ok-end.end end.0)
