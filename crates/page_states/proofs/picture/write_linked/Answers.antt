use Rattle.std.proofs.Common.{◌++◌, codes, subst}
use Rattle.std.specs.Io.KnownBytes.{Appends}
use Rattle.std.proofs.KnownBytes.{Appends-trans}
use Rattle.std.proofs.lemmas.Result.{on_ok_weaker}
use Rattle.views.specs.Nodes.{id_at}
use Rattle.page_states.specs.Pictures.{box_link, row_state}
use Rattle.page_states.proofs.picture.write_linked.Goals as goal

pub returns : goal.returns
returns g c =
    let row = c.args.row.now in
    let contents = g.O.Write.contents in
    let link = box_link (row_state c.args.number row.ways.row) (id_at row.shown.place.node) in
    let text = row.shown.look.drawn.items in
    let written = subst (Appends (contents c.begin_row_link.new.out) (contents c.write_all.new.self)) c.deref.ensures.value c.in_ok-write_all.ensures.bytes in
    let one = Appends-trans _ _ _ link text c.in_ok-begin_row_link.ensures written in
    on_ok_weaker _ (Appends-trans _ _ _ (link ++ text) (codes "</a>") one) c.write_all-2.ensures.bytes
