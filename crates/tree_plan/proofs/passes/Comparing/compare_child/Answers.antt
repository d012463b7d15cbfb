use Rattle.std.proofs.Common.{◌≡◌, ◌≢◌, Some, get_or, slice_get, sym, ap, ◌∙◌, arith}
use Rattle.std.proofs.lemmas.Option.{slice_get-get_or}
use Rattle.schema.specs.declared.NodeId.{NodeId}
use Rattle.tree_plan.specs.declared.passes.Comparing.{Comparing}
use Rattle.tree_plan.specs.Comparisons.{ids_before, ids_after}
use Rattle.tree_plan.proofs.Leaving.{child_stays, child_enters, child_shifts, child_there, child_elsewhere}
use Rattle.tree_plan.proofs.passes.Comparing.compare_child.Goals as goal
use Rattle.tree_plan.proofs.passes.Comparing.compare_child.Goals.{After-full_id-id}

-- what a read past the end would give
abbrev nothing : NodeId
nothing = record { 0 = 0 }

-- the child is at the index in the new list, and not in the old one
here : (c : After-full_id-id) → slice_get (ids_after c.args.lists.now) c.args.index ≡ Some c.full_id-id.result
here c =
    let after = c.args.lists.now.after.now in
    child_there c.args.lists.now.parent.tree after c.args.index (get_or after c.args.index nothing) (slice_get-get_or after c.args.index nothing c.requires) ∙ ap Some (sym c.full_id-id.ensures)

other_before : (c : After-full_id-id) → slice_get (ids_before c.args.lists.now) c.args.index ≢ Some c.full_id-id.result
other_before c was =
    let n : NodeId = get_or c.args.lists.now.after.now c.args.index nothing in
    let other : slice_get c.args.lists.now.before.now c.args.index ≢ Some n = λ is. let t = c.is_at.ensures.1 is in let f = c.if-is_at.false in cc in
    child_elsewhere c.args.lists.now.parent.tree c.args.lists.now.before.now c.args.index n other (was ∙ ap Some c.full_id-id.ensures)

pub returns-then-is_at-clause-ok : goal.returns-then-is_at-clause-ok
returns-then-is_at-clause-ok c =
    let tree = c.args.lists.now.parent.tree in
    let k = c.args.index in
    let old = ids_before c.args.lists.now in
    let new = ids_after c.args.lists.now in
    let n : NodeId = get_or c.args.lists.now.after.now k nothing in
    let is : slice_get c.args.lists.now.after.now k ≡ Some n = slice_get-get_or c.args.lists.now.after.now k nothing c.requires in
    let was : slice_get c.args.lists.now.before.now k ≡ Some n = c.is_at.ensures.0 c.if-is_at.true in
    let same : slice_get old k ≡ slice_get new k = child_there tree c.args.lists.now.before.now k n was ∙ sym (child_there tree c.args.lists.now.after.now k n is) in
    child_stays c.args.lists.now.parent old new k c.args.next c.max.result c.args.self.now c.leave.new.self same (λ i low high. omega arith)
    c.in_ok-leave.ensures.left (ap (λ (x : Comparing). x.entered) c.leave.ensures.rest)

pub returns-in_default-clause-ok : goal.returns-in_default-clause-ok
returns-in_default-clause-ok c =
    let at = (goal.at.returns-in_default-clause-ok c).After-full_id-id in
    let lists = c.args.lists.now in
    child_enters lists.parent (ids_before lists) (ids_after lists) c.args.index c.args.next c.args.self.now c.arrive.new.self c.full_id-id.result (here at) (other_before at)
    (ap (λ (x : Comparing). x.left) c.arrive.ensures.rest) c.in_ok-arrive.ensures.ok

pub returns-clause-ok : goal.returns-clause-ok
returns-clause-ok c =
    let at = (goal.at.returns-clause-ok c).After-full_id-id in
    let lists = c.args.lists.now in
    let tree = lists.parent.tree in
    let place = c.in-Some.place in
    let n : NodeId = get_or lists.after.now c.args.index nothing in
    let found : slice_get lists.before.now place ≡ Some n = c.in-Some.ensures.found.0 in
    let was : slice_get (ids_before lists) place ≡ Some c.full_id-id.result = child_there tree lists.before.now place n found ∙ ap Some (sym c.full_id-id.ensures) in
    child_shifts lists.parent (ids_before lists) (ids_after lists) c.args.index c.args.next place c.args.self.now c.leave-2.new.self c.arrive-2.new.self c.full_id-id.result (here at) (other_before at) was
    (λ now. child_elsewhere tree lists.after.now place n c.in-Some.ensures.found.1 (now ∙ ap Some c.full_id-id.ensures))
    c.in_ok-leave-2.ensures.left (ap (λ (x : Comparing). x.entered) c.leave-2.ensures.rest) (ap (λ (x : Comparing). x.left) c.arrive-2.ensures.rest) c.in_ok-arrive-2.ensures.ok
