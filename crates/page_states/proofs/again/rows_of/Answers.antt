use Rattle.std.proofs.Common.{◌≡◌, ◌++◌, ◌∷◌, [], map, rules, sym, ap, subst, ◌∙◌}
use Rattle.std.specs.List.{FoldsTo}
use Rattle.std.specs.Prelude.{reverse}
use Rattle.std.proofs.lemmas.Fn.{FoldsTo-push}
use Rattle.std.proofs.lemmas.List.{map-append}
use Rattle.page_states.specs.declared.rows.Row.{Row}
use Rattle.page_states.specs.Again.{no_folds, row_shown, Leads}
use Rattle.page_states.specs.Subtrees.{AreSames}
use Rattle.page_states.proofs.Subtrees.{reverse_push}
use Rattle.page_states.proofs.Writing.{one_taken}
use Rattle.page_states.proofs.again.rows_of.Goals as goal

pub loop-one-preserved : goal.loop-one-preserved
loop-one-preserved c =
    let kept = c.args.kept.now in let inv = c.loop-one.invariant in
    let one = c.in-Some.one in let same = c.in-Some-pop.same in
    let old = c.loop-one.rows.items in let folds = c.loop-one.folds in
    let before = c.loop-one.one-iterator.rest.items in let after = c.next.new.self.rest.items in
    let row : Row = record { shown = one; ways = c.next-ways.result } in
    let left : before ≡ one ∷ after = search rules in
    let first = reverse_push c.pop.new.self.items c.loop-one.sames.items same c.in-Some-pop.ensures.items in
    let has : AreSames kept (one ∷ after) (same ∷ reverse c.pop.new.self.items) =
    subst (AreSames kept (one ∷ after)) first (subst (λ l. AreSames kept l (reverse c.loop-one.sames.items)) left inv.sames) in
    let leads : Leads kept (folds, before) row (c.after-folds.result, after) = record {
      next = left;
      row = (same.row, has.0.row, c.next-ways.ensures.row);
      drawn = (same.drawn, has.0.drawn, c.next-ways.ensures.drawn);
      row_top = c.after-folds.ensures.row;
      drawn_top = c.after-folds.ensures.drawn;
    } in
    record {
      shown = ap (map row_shown) c.in_ok-push.ensures.items ∙ map-append row_shown old (row ∷ []) ∙ ap (λ l. l ++ one ∷ []) inv.shown;
      all = one_taken c.args.shown.items c.loop-one.yielded before after one inv.all left;
      sames = has.1;
      ways =
          subst (λ rows. FoldsTo (Leads kept) (no_folds, c.args.shown.items) rows (c.after-folds.result, after)) (sym c.in_ok-push.ensures.items)
          (FoldsTo-push (Leads kept) (no_folds, c.args.shown.items) old (folds, before) row (c.after-folds.result, after) inv.ways leads);
    }
