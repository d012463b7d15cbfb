use Rattle.std.proofs.Common.{refl, sym, subst}
use Rattle.std.specs.Prelude.{IfOk}
use Rattle.schema.specs.UpdateData.{update_data}
use Rattle.model.specs.Update.{merged_world}
use Rattle.model.proofs.Update.RebuildIsThere.{rebuild_exists}
use Rattle.tree_changes.specs.Decisions.{IsWithinWork}
use Rattle.tree_plan.specs.Deciding.{AreFindings, HasBegun, IsCount}
use Rattle.tree_plan.proofs.Within.{within_by}
use Rattle.tree_plan.proofs.deciding.decide_by_passes.Goals as goal

pub conclude-requires : goal.conclude-requires
conclude-requires g c κs within = (
  within,
  (
    refl,
    (
      refl,
      (
        (rebuild_exists (merged_world (g.L.LookUps.world c.find.new.look_ups) (update_data c.args.update.now))).1,
        subst (λ w. AreFindings w (update_data c.args.update.now) c.in_ok-findings.findings) (sym c.find.ensures.world) c.in_ok-findings.ensures.ok,
      ),
    ),
  ),
)

pub returns-clause-work : goal.returns-clause-work
returns-clause-work g c =
    let u = update_data c.args.update.now in
    let w = g.L.LookUps.world c.find.new.look_ups in
    let rebuilt = rebuild_exists (merged_world w u) in
    let before = c.args.before in
    let start = g.L.LookUps.asked c.args.look_ups.now in
    let middle = g.L.LookUps.asked c.find.new.look_ups in
    let after = g.L.LookUps.asked c.conclude.new.look_ups in
    let found = c.in_ok-findings.findings in
    subst (λ v. IfOk c.conclude.result (λ d. IsWithinWork v u d before after)) c.find.ensures.world
    (within_by w u rebuilt.0 before start middle after found (subst (λ v. AreFindings v u found) (sym c.find.ensures.world) c.in_ok-findings.ensures.ok) rebuilt.1
    (subst (λ v. HasBegun v u before start) (sym c.find.ensures.world) c.requires.begun)
    (subst (λ v. IsCount v u found start middle) (sym c.find.ensures.world) c.in_ok-findings.ensures.count)
    c.conclude.result c.conclude.ensures.kept c.conclude.ensures.new c.conclude.ensures.small c.conclude.ensures.count)
