use Rattle.std.proofs.Common.{[], ◌∷◌, codes}
use Rattle.std.specs.Fmt.{decimal}
use Rattle.std.proofs.lemmas.Result.{on_err_weaker, on_ok_weaker}
use Rattle.std.proofs.KnownBytes.{Appends-trans}
use Rattle.html.proofs.Beginnings.{at_err, of_joined, past}
use Rattle.page.proofs.sections.write_update.Goals as goal

pub returns-in_err-write_bytes-clause-cut : goal.returns-in_err-write_bytes-clause-cut
returns-in_err-write_bytes-clause-cut g c =
    at_err _ (of_joined _ _ (codes "Update ") ((decimal c.args.number) ∷ []) c.in_err-write_bytes.ensures.cut)

pub returns-clause-cut : goal.returns-clause-cut
returns-clause-cut g c =
    let before = c.in_ok-write_bytes.ensures.written in
    on_err_weaker _ (past _ _ _ (codes "Update ") (decimal c.args.number) before) c.write_number.ensures.cut

pub returns-clause-written : goal.returns-clause-written
returns-clause-written g c =
    let before = c.in_ok-write_bytes.ensures.written in
    on_ok_weaker c.write_number.result (Appends-trans _ _ _ (codes "Update ") (decimal c.args.number) before) c.write_number.ensures.written
