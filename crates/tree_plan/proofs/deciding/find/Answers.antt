use Rattle.std.proofs.Common.{ap, subst, ◌∙◌, arith}
use Rattle.schema.specs.UpdateData.{update_data}
use Rattle.model.specs.Differences.{told_root}
use Rattle.model.specs.Work.{named_ids}
use Rattle.model.specs.Surgery.{AreSteps}
use Rattle.tree_plan.specs.Passes.{HoldsRemoved, HoldsRegrafted}
use Rattle.tree_plan.proofs.deciding.find.Goals as goal

pub returns-clause-ok : goal.returns-clause-ok
returns-clause-ok g c =
    let u = update_data c.args.update.now in
    let found = c.in_ok-regrafted.regrafted in
    record {
      old = c.requires.old;
      opening = c.requires.opening;
      comparison = c.in_ok-compared.ensures.ok;
      removal = subst (λ v. HoldsRemoved v u c.in_ok-removed.removed) c.compare.ensures.world c.in_ok-removed.ensures.ok;
      regrafting = subst (λ v. HoldsRegrafted v u found.trees.items found.moved_in) (c.find_removed.ensures.world ∙ c.compare.ensures.world) c.in_ok-regrafted.ensures.ok;
      told = c.told_root-told.ensures ∙ ap (λ i. told_root i u.info) c.requires.opening.index;
    }

pub returns-clause-count : goal.returns-clause-count
returns-clause-count g c =
    let u = update_data c.args.update.now in
    let compares = c.in_ok-compared.ensures.count in
    let removes = c.in_ok-removed.ensures.count in
    let regrafts = c.in_ok-regrafted.ensures.counts in
    record {
      steps = removes.steps;
      are_steps = subst (λ v. AreSteps v u (named_ids v u) removes.steps) c.compare.ensures.world removes.are_steps;
      cut = removes.cut;
      gained = c.in_ok-regrafted.ensures.trees;
      named = omega (arith, compares.1, removes.asked.1, regrafts.1);
      asked = omega (arith, compares.0, removes.asked.0, regrafts.0);
    }
