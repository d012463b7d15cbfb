use Rattle.std.proofs.Common.{◌++◌, codes, false, subst}
use Rattle.std.specs.Io.KnownBytes.{Appends}
use Rattle.std.proofs.KnownBytes.{Appends-trans}
use Rattle.std.proofs.lemmas.Result.{on_ok_weaker}
use Rattle.views.specs.Nodes.{id_at}
use Rattle.page_states.specs.Rows.{as_in_text, row_begun}
use Rattle.page_states.specs.Written.{anchor_text}
use Rattle.page_states.proofs.outline.write_again.Goals as goal

pub returns : goal.returns
returns g c =
    let row = c.args.row.now in
    let place = row.shown.place in
    let contents = g.O.Write.contents in
    let begun = row_begun c.args.number place false in
    let text = row.shown.look.row.items in
    let link = codes " <a href=\"#" in
    let anchor = anchor_text c.args.state (id_at place.node) in
    let written = subst (Appends (contents c.begin_row.new.out) (contents c.write_all.new.self)) c.deref.ensures.value c.in_ok-write_all.ensures.bytes in
    let led = subst (λ i. Appends (contents c.write_all-2.new.self) (contents c.write_anchor.new.out) (anchor_text c.args.state i)) c.id.ensures c.in_ok-write_anchor.ensures in
    let one = Appends-trans _ _ _ begun text c.in_ok-begin_row.ensures written in
    let two = Appends-trans _ _ _ (begun ++ text) link one c.in_ok-write_all-2.ensures.bytes in
    let three = Appends-trans _ _ _ (begun ++ text ++ link) anchor two led in
    on_ok_weaker _ (Appends-trans _ _ _ (begun ++ text ++ link ++ anchor) (as_in_text c.args.state) three) c.end_again.ensures
