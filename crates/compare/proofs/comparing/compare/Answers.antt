use Rattle.std.proofs.KnownBytes.{Appends-nil}
use Rattle.compare.specs.Rows.{rows_of, whole}
use Rattle.compare.proofs.ShownRows.{whole_text, told_different, told_equal}
use Rattle.compare.proofs.comparing.compare.Goals as goal

pub returns-then-is_same : goal.returns-then-is_same
returns-then-is_same g c =
    let before = rows_of c.args.old.now in
    let after = rows_of c.args.new.now in
    let first = whole_text c.in_ok-before.before.items c.deref.result.now c.in_ok-shown_before.shown_before.items c.deref-3.result.now before c.deref.ensures.value c.in_ok-before.ensures c.in_ok-shown_before.ensures c.deref-3.ensures.value in
    let second = whole_text c.in_ok-after.after.items c.deref-2.result.now c.in_ok-shown_after.shown_after.items c.deref-4.result.now after c.deref-2.ensures.value c.in_ok-after.ensures c.in_ok-shown_after.ensures c.deref-4.ensures.value in
    (told_equal c.is_same.result c.deref-3.result.now c.deref-4.result.now (whole before) (whole after) c.is_same.ensures c.if-is_same.true first second, Appends-nil (g.O.Write.contents c.args.out.now))

pub returns : goal.returns
returns g c =
    let before = rows_of c.args.old.now in
    let after = rows_of c.args.new.now in
    let first = whole_text c.in_ok-before.before.items c.deref.result.now c.in_ok-shown_before.shown_before.items c.deref-3.result.now before c.deref.ensures.value c.in_ok-before.ensures c.in_ok-shown_before.ensures c.deref-3.ensures.value in
    let second = whole_text c.in_ok-after.after.items c.deref-2.result.now c.in_ok-shown_after.shown_after.items c.deref-4.result.now after c.deref-2.ensures.value c.in_ok-after.ensures c.in_ok-shown_after.ensures c.deref-4.ensures.value in
    (told_different c.is_same.result c.deref-3.result.now c.deref-4.result.now (whole before) (whole after) c.is_same.ensures c.if-is_same.false first second, c.in_ok-write_changes.ensures)
