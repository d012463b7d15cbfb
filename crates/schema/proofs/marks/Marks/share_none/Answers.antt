-- A bit of the group is in neither.
use Rattle.std.proofs.Common.{◌≡◌, subst, false}
use Rattle.std.specs.Int.{bit_at}
use Rattle.std.proofs.lemmas.Bool.{eqb-true}
use Rattle.schema.specs.Marks.{mark_number, has_mark}
use Rattle.schema.proofs.MarkBits.{none_shared}
use Rattle.schema.proofs.marks.Marks.share_none.Goals as goal

pub returns : goal.returns
returns c t mark there =
    let both = none_shared c.self.inside.bits c.other.inside.bits c.args.group mark (eqb-true _ 0 t) (eqb-true (bit_at c.args.group (mark_number mark)) 1 there) in
    (subst (λ m. has_mark mark m ≡ false) c.self.view_is both.0, subst (λ m. has_mark mark m ≡ false) c.other.view_is both.1)
