use Rattle.std.proofs.Common.{◌≡◌, ◌∷◌, rules}
use Rattle.std.proofs.lemmas.Fn.{FoldsTo-push}
use Rattle.page_states.specs.Again.{Puts}
use Rattle.page_states.proofs.Writing.{one_taken}
use Rattle.page_states.proofs.again.keep_all.Goals as goal

pub loop-row-preserved : goal.loop-row-preserved
loop-row-preserved c =
    let inv = c.loop-row.invariant in
    let row = c.in-Some.row in
    let before = c.loop-row.row-iterator.rest.items in let after = c.next.new.self.rest.items in
    let left : before ≡ row ∷ after = search rules in
    record {
      kept = FoldsTo-push (Puts c.args.number c.args.has_picture) c.args.kept.now c.loop-row.yielded c.loop-row.kept row c.keep.new.kept inv.kept c.in_ok-keep.ensures;
      all = one_taken c.args.rows.items c.loop-row.yielded before after row inv.all left;
    }
