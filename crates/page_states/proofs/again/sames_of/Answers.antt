use Rattle.std.proofs.Common.{◌-◌, ◌∷◌, List, length, drop, sym, ap, subst, ◌∙◌}
use Rattle.std.specs.Prelude.{is_some, reverse}
use Rattle.page_states.specs.declared.again.Same.{Same}
use Rattle.page_states.specs.declared.again.Subtree.{Subtree}
use Rattle.page_states.specs.declared.rows.Shown.{Shown}
use Rattle.page_states.specs.Again.{Finds, IsAllIn, IsBoxIn, IsRowIn}
use Rattle.page_states.specs.Subtrees.{has_box, has_row, AreSames, AreSubtrees, HasSame}
use Rattle.page_states.proofs.Subtrees.{finds_all, one_before, reverse_push, tells_more}
use Rattle.page_states.proofs.again.sames_of.Goals as goal

pub loop-step-preserved : goal.loop-step-preserved
loop-step-preserved c =
    let kept = c.args.kept.now in let shown = c.args.shown.now in let next = c.index-shown-count.result in
    let rest : List Shown = drop (length shown - c.loop-step.step) shown in
    let subtrees = reverse c.loop-step.later.items in
    let inv = c.loop-step.invariant in let own = c.own_same.result in let same : Same = c.with_children-same.result in
    let by = c.with_children-same.ensures in
    let is_row = c.own_same.ensures.row in let is_box = c.own_same.ensures.drawn in
    let split = one_before shown c.loop-step.step next c.loop-step-test.true c.index-shown-count.is in
    let has : HasSame kept rest next same = record {
      row = subst (Finds (IsAllIn (IsRowIn kept) rest next)) (sym by.row) (finds_all (IsRowIn kept) has_row next rest subtrees inv.later.row own.row is_row);
      drawn = subst (Finds (IsAllIn (IsBoxIn kept) rest next)) (sym by.drawn) (finds_all (IsBoxIn kept) has_box next rest subtrees inv.later.drawn own.drawn is_box);
    } in
    let made : Subtree = record { depth = next.place.depth; same = same } in
    let later = reverse_push c.with_children-same.new.later.items c.push.new.self.items made c.in_ok-push.ensures.items ∙ ap (λ l. made ∷ l) by.left in
    let more = reverse_push c.loop-step.sames.items c.push-in-loop-step.new.self.items same c.in_ok-push-2.ensures.items in
    record {
      sames = subst (λ l. AreSames kept l (reverse c.push-in-loop-step.new.self.items)) (sym split) (subst (AreSames kept (next ∷ rest)) (sym more) (has, inv.sames));
      later = subst (λ l. AreSubtrees kept l (reverse c.push.new.self.items)) (sym split) (subst (AreSubtrees kept (next ∷ rest)) (sym later) (record {
        row = tells_more (IsRowIn kept) has_row next rest subtrees inv.later.row own.row is_row same (ap is_some by.row);
        drawn = tells_more (IsBoxIn kept) has_box next rest subtrees inv.later.drawn own.drawn is_box same (ap is_some by.drawn);
      }));
    }
