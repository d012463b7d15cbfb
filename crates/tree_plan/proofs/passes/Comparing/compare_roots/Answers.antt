use Rattle.std.proofs.Common.{◌≡◌, ◌≢◌, None, Some, false, rules, ap, ◌∙◌}
use Rattle.std.proofs.lemmas.Result.{on_ok_weaker}
use Rattle.tree_plan.specs.declared.passes.Comparing.{Comparing}
use Rattle.tree_plan.specs.Comparisons.{spots_of}
use Rattle.tree_plan.proofs.Gathering.{gathers_one}
use Rattle.tree_plan.proofs.Leaving.{spots_pushed, plain_pushed}
use Rattle.tree_plan.proofs.passes.Comparing.compare_roots.Goals as goal

pub returns-clause-left : goal.returns-clause-left
returns-clause-left c =
    let apart : Some c.args.new ≢ c.args.old = search rules in
    let kept : c.arrive.new.self.left ≡ c.push_spot.new.list = ap (λ (x : Comparing). x.left) c.arrive.ensures.rest in
    on_ok_weaker c.arrive.result (λ _. gathers_one None (Some c.args.new) c.args.old c.args.self.now.left c.arrive.new.self.left apart (kept ∙ c.in_ok-push_spot.ensures.ok)) c.arrive.ensures.ok

pub returns-clause-entered : goal.returns-clause-entered
returns-clause-entered c =
    let apart : c.args.old ≢ Some c.args.new = search rules in
    let before = c.args.self.now.entered in
    on_ok_weaker c.arrive.result (λ is. gathers_one None c.args.old (Some c.args.new) (spots_of before) (spots_of c.arrive.new.self.entered) apart (ap spots_of is ∙ spots_pushed before c.args.new None false)) c.arrive.ensures.ok

pub returns-clause-unshifted : goal.returns-clause-unshifted
returns-clause-unshifted c = on_ok_weaker c.arrive.result (plain_pushed c.args.self.now.entered c.arrive.new.self.entered c.args.new None) c.arrive.ensures.ok
