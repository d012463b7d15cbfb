use Rattle.std.proofs.Common.{[], ◌∷◌, ◌++◌, codes}
use Rattle.std.proofs.lemmas.Result.{on_err_weaker, on_ok_weaker}
use Rattle.std.proofs.KnownBytes.{Appends-trans}
use Rattle.html.proofs.Beginnings.{at_err, of_joined, past}
use Rattle.page.specs.States.{stop_begun}
use Rattle.page.proofs.sections.write_reason.Goals as goal

pub returns-in_err-begin_stop-clause-cut : goal.returns-in_err-begin_stop-clause-cut
returns-in_err-begin_stop-clause-cut g c =
    at_err _ (of_joined _ _ (stop_begun c.args.line) (c.args.reason.now ∷ (codes "</p>\n") ∷ []) c.in_err-begin_stop.ensures.cut)

pub returns-in_err-write_plain-clause-cut : goal.returns-in_err-write_plain-clause-cut
returns-in_err-write_plain-clause-cut g c =
    let before = c.in_ok-begin_stop.ensures.written in
    at_err _ (of_joined _ _ (stop_begun c.args.line ++ c.args.reason.now) ((codes "</p>\n") ∷ []) (past _ _ _ (stop_begun c.args.line) (c.args.reason.now) before c.in_err-write_plain.ensures.cut))

pub returns-clause-cut : goal.returns-clause-cut
returns-clause-cut g c =
    let before = (Appends-trans _ _ _ (stop_begun c.args.line) (c.args.reason.now) c.in_ok-begin_stop.ensures.written c.in_ok-write_plain.ensures.written) in
    on_err_weaker _ (past _ _ _ (stop_begun c.args.line ++ c.args.reason.now) (codes "</p>\n") before) c.write_bytes.ensures.cut

pub returns-clause-written : goal.returns-clause-written
returns-clause-written g c =
    let before = (Appends-trans _ _ _ (stop_begun c.args.line) (c.args.reason.now) c.in_ok-begin_stop.ensures.written c.in_ok-write_plain.ensures.written) in
    on_ok_weaker c.write_bytes.result (Appends-trans _ _ _ (stop_begun c.args.line ++ c.args.reason.now) (codes "</p>\n") before) c.write_bytes.ensures.written
