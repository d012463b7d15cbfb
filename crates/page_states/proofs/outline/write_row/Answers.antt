use Rattle.std.proofs.Common.{◌≡◌, ◌++◌, Bool, ap, subst, ◌∙◌}
use Rattle.std.specs.Io.KnownBytes.{Appends}
use Rattle.std.proofs.KnownBytes.{Appends-trans}
use Rattle.std.proofs.lemmas.Result.{on_ok_weaker}
use Rattle.page_states.specs.Nesting.{folds, within}
use Rattle.page_states.specs.Rows.{mark_text, row_begun, row_end, whole_text}
use Rattle.page_states.proofs.outline.write_row.Goals as goal

pub returns : goal.returns
returns g c =
    let row = c.args.row.now in
    let place = row.shown.place in
    let contents = g.O.Write.contents in
    let begun = row_begun c.args.number place (folds row) in
    let mark = mark_text place.mark in
    let text = row.shown.look.row.items in
    let end = row_end (folds row) (within row) in
    let opened = subst (λ (b : Bool). Appends (contents c.args.out.now) (contents c.begin_row.new.out) (row_begun c.args.number place b)) c.folds-is_folding.ensures c.in_ok-begin_row.ensures in
    let written = subst (Appends (contents c.write_mark.new.out) (contents c.write_all.new.self)) c.deref.ensures.value c.in_ok-write_all.ensures.bytes in
    let one = Appends-trans _ _ _ begun mark opened c.in_ok-write_mark.ensures in
    let two = Appends-trans _ _ _ (begun ++ mark) text one written in
    let ended : c.as_bytes.result.now ≡ end =
    c.as_bytes.ensures.value ∙ c.row_end.ensures ∙ ap (λ (b : Bool). row_end b c.within.result) c.folds-is_folding.ensures ∙ ap (row_end (folds row)) c.within.ensures in
    on_ok_weaker {Q = Appends (contents c.args.out.now) (contents c.write_all-2.new.self) (whole_text c.args.number row)} _ (λ last. Appends-trans _ _ _ (begun ++ mark ++ text) end two (subst (Appends (contents c.write_all.new.self) (contents c.write_all-2.new.self)) ended last)) c.write_all-2.ensures.bytes
