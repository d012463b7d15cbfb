use Rattle.std.proofs.Common.{◌≡◌, ◌≢◌, ◌++◌, Option, Some, List, map, option_map, option_to_list, rules, sym, ap, ◌∙◌}
use Rattle.std.proofs.lemmas.Result.{on_ok_weaker}
use Rattle.model.specs.declared.FullNodeId.{FullNodeId}
use Rattle.model.specs.World.{Place, in_tree}
use Rattle.tree_plan.proofs.Leaving.{leaves_same, leaves_here}
use Rattle.tree_plan.proofs.passes.Comparing.leave_one.Goals as goal

pub returns-then-eq-clause-left : goal.returns-then-eq-clause-left
returns-then-eq-clause-left c =
    let parent = c.args.lists.now.parent in
    let old : List FullNodeId = map (in_tree parent.tree) c.args.lists.now.before.now in
    let new : List FullNodeId = map (in_tree parent.tree) c.args.lists.now.after.now in
    let same : c.child_at-was.result ≡ c.child_at-is.result = search rules in
    leaves_same parent old new c.args.index c.args.self.now.left c.args.self.now.entered (sym c.child_at-was.ensures ∙ same ∙ c.child_at-is.ensures)

pub returns-clause-left : goal.returns-clause-left
returns-clause-left c =
    let parent = c.args.lists.now.parent in
    let k = c.args.index in
    let old : List FullNodeId = map (in_tree parent.tree) c.args.lists.now.before.now in
    let new : List FullNodeId = map (in_tree parent.tree) c.args.lists.now.after.now in
    let apart : c.child_at-was.result ≢ c.child_at-is.result = search rules in
    let place : Place = (parent, k) in
    on_ok_weaker c.push_spot.result (λ (pushed : c.push_spot.new.list ≡ c.args.self.now.left ++ option_to_list (option_map (λ id. (id, Some place)) c.child_at-was.result)).
    leaves_here parent old new k c.args.self.now.left c.push_spot.new.list c.args.self.now.entered
    (λ same. apart (c.child_at-was.ensures ∙ same ∙ sym c.child_at-is.ensures))
    (pushed ∙ ap (λ (o : Option FullNodeId). c.args.self.now.left ++ option_to_list (option_map (λ id. (id, Some place)) o)) c.child_at-was.ensures)) c.push_spot.ensures.ok
