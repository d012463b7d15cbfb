use Rattle.std.proofs.Common.{◌++◌, codes}
use Rattle.std.proofs.KnownBytes.{Appends-trans}
use Rattle.std.proofs.lemmas.Result.{on_ok_weaker}
use Rattle.page_states.specs.Written.{anchor_text}
use Rattle.page_states.proofs.picture.write_use.Goals as goal

pub returns : goal.returns
returns g c =
    let begun = codes "<use href=\"#b" in
    let anchor = anchor_text c.args.state c.args.id in
    let before = Appends-trans _ _ _ begun anchor c.in_ok-write_all.ensures.bytes c.in_ok-write_anchor.ensures in
    on_ok_weaker _ (Appends-trans _ _ _ (begun ++ anchor) (codes "\"/>\n") before) c.write_all-2.ensures.bytes
