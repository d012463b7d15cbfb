use Rattle.std.proofs.Common.{[], ◌∷◌, ◌++◌, codes}
use Rattle.std.specs.Fmt.{decimal}
use Rattle.std.proofs.lemmas.Result.{on_err_weaker, on_ok_weaker}
use Rattle.std.proofs.KnownBytes.{Appends-trans}
use Rattle.html.proofs.Beginnings.{at_err, of_joined, past}
use Rattle.page.proofs.sections.begin_stop.Goals as goal

pub returns-in_err-write_bytes-clause-cut : goal.returns-in_err-write_bytes-clause-cut
returns-in_err-write_bytes-clause-cut g c =
    at_err _ (of_joined _ _ (codes "<p class=\"refused\">Line ") ((decimal c.args.line) ∷ (codes ": ") ∷ []) c.in_err-write_bytes.ensures.cut)

pub returns-in_err-write_number-clause-cut : goal.returns-in_err-write_number-clause-cut
returns-in_err-write_number-clause-cut g c =
    let before = c.in_ok-write_bytes.ensures.written in
    at_err _ (of_joined _ _ (codes "<p class=\"refused\">Line " ++ decimal c.args.line) ((codes ": ") ∷ []) (past _ _ _ (codes "<p class=\"refused\">Line ") (decimal c.args.line) before c.in_err-write_number.ensures.cut))

pub returns-clause-cut : goal.returns-clause-cut
returns-clause-cut g c =
    let before = (Appends-trans _ _ _ (codes "<p class=\"refused\">Line ") (decimal c.args.line) c.in_ok-write_bytes.ensures.written c.in_ok-write_number.ensures.written) in
    on_err_weaker _ (past _ _ _ (codes "<p class=\"refused\">Line " ++ decimal c.args.line) (codes ": ") before) c.write_bytes-2.ensures.cut

pub returns-clause-written : goal.returns-clause-written
returns-clause-written g c =
    let before = (Appends-trans _ _ _ (codes "<p class=\"refused\">Line ") (decimal c.args.line) c.in_ok-write_bytes.ensures.written c.in_ok-write_number.ensures.written) in
    on_ok_weaker c.write_bytes-2.result (Appends-trans _ _ _ (codes "<p class=\"refused\">Line " ++ decimal c.args.line) (codes ": ") before) c.write_bytes-2.ensures.written
