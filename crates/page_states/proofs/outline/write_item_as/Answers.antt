use Rattle.std.proofs.Common.{◌-◌, sym, subst}
use Rattle.std.specs.Prelude.{OnOk}
use Rattle.std.specs.Io.KnownBytes.{Appends}
use Rattle.std.proofs.KnownBytes.{Appends-trans}
use Rattle.std.proofs.lemmas.Result.{on_ok_weaker}
use Rattle.page_states.specs.declared.again.Way.{Way}
use Rattle.page_states.specs.Nesting.{within}
use Rattle.page_states.specs.Rows.{again_text, ends_text, item_text, whole_text}
use Rattle.page_states.proofs.outline.write_item_as.Goals as goal

pub returns-in_ok-end_lists_for-in-Again : goal.returns-in_ok-end_lists_for-in-Again
returns-in_ok-end_lists_for-in-Again g c =
    let row = c.args.row.now in
    let number = c.args.number in
    let before = g.O.Write.contents c.args.out.now in
    let after = g.O.Write.contents c.write_again.new.out in
    let ended = ends_text (c.args.lists - within row) in
    subst (λ (way : Way). OnOk c.write_again.result (Appends before after (item_text number c.args.lists row way))) (sym c.in-Again.is)
    (on_ok_weaker _ (Appends-trans _ _ _ ended (again_text number row c.in-Again.state) c.in_ok-end_lists_for-in-Again.ensures) c.write_again.ensures)

pub returns-in_ok-end_lists_for-in-Whole : goal.returns-in_ok-end_lists_for-in-Whole
returns-in_ok-end_lists_for-in-Whole g c =
    let row = c.args.row.now in
    let number = c.args.number in
    let before = g.O.Write.contents c.args.out.now in
    let after = g.O.Write.contents c.write_row.new.out in
    let ended = ends_text (c.args.lists - within row) in
    subst (λ (way : Way). OnOk c.write_row.result (Appends before after (item_text number c.args.lists row way))) (sym c.in-Whole.is)
    (on_ok_weaker _ (Appends-trans _ _ _ ended (whole_text number row) c.in_ok-end_lists_for-in-Whole.ensures) c.write_row.ensures)
