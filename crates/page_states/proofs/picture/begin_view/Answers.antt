use Rattle.std.proofs.Common.{◌++◌, codes}
use Rattle.std.proofs.KnownBytes.{Appends-trans}
use Rattle.std.proofs.lemmas.Result.{on_ok_weaker}
use Rattle.page_states.specs.Pictures.{view_box}
use Rattle.page_states.proofs.picture.begin_view.Goals as goal

pub returns : goal.returns
returns g c =
    let begun = codes "<svg aria-hidden=\"true\" viewBox=\"" in
    let box = view_box c.args.frame in
    let before = Appends-trans _ _ _ begun box c.in_ok-write_all.ensures.bytes c.in_ok-write_view_box.ensures in
    on_ok_weaker _ (Appends-trans _ _ _ (begun ++ box) (codes "\">\n") before) c.write_all-2.ensures.bytes
