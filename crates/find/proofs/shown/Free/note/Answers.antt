use Rattle.std.proofs.Common.{sym, subst, ◌∙◌}
use Rattle.find.specs.declared.shown.Free.{Free}
use Rattle.find.specs.Free.{AreFree, is_restricted}
use Rattle.find.proofs.Freed.{noted_free}
use Rattle.find.proofs.shown.Free.note.Goals as goal

pub returns : goal.returns
returns c = λ w here free q at.
    let old = c.args.self.now in
    let new : Free = record { known = c.insert.new.self } in
    noted_free w old new c.id.result c.is_free_below-is_free.result c.in_ok-insert.ensures.updates
    (λ is. sym (λ i. is_restricted (here i) (sym c.id.ensures i)) ∙ c.is_free_below-is_free.ensures (subst (λ v. AreFree v old) (sym here) free) is) free q at
