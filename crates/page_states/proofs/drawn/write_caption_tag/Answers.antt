use Rattle.std.proofs.Common.{◌++◌, codes, subst}
use Rattle.std.specs.Io.KnownBytes.{Appends}
use Rattle.std.proofs.KnownBytes.{Appends-trans}
use Rattle.std.proofs.lemmas.Result.{on_ok_weaker}
use Rattle.page_states.specs.Drawn.{size_text}
use Rattle.page_states.proofs.drawn.write_caption_tag.Goals as goal

pub returns : goal.returns
returns g c =
    let contents = g.O.Write.contents in
    let begun = codes "<text " in
    let place = c.args.place.now in
    let written = subst (Appends (contents c.write_all.new.self) (contents c.write_all-2.new.self)) c.as_bytes.ensures.value c.in_ok-write_all-2.ensures.bytes in
    let before = Appends-trans _ _ _ begun place c.in_ok-write_all.ensures.bytes written in
    on_ok_weaker _ (Appends-trans _ _ _ (begun ++ place) (size_text c.args.size) before) c.write_size.ensures
