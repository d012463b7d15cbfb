use Rattle.std.proofs.Common.{[], ◌∷◌, ◌++◌}
use Rattle.std.proofs.lemmas.Result.{on_err_weaker, on_ok_weaker}
use Rattle.std.proofs.KnownBytes.{Appends-trans}
use Rattle.html.proofs.Beginnings.{at_err, of_joined, past}
use Rattle.page.specs.Heads.{heading_one, marks_legend, page_links}
use Rattle.page.proofs.head.write_legend.Goals as goal

pub returns-in_err-write_bytes-clause-cut : goal.returns-in_err-write_bytes-clause-cut
returns-in_err-write_bytes-clause-cut g c =
    at_err _ (of_joined _ _ (heading_one) (marks_legend ∷ page_links ∷ []) c.in_err-write_bytes.ensures.cut)

pub returns-in_err-write_marks-clause-cut : goal.returns-in_err-write_marks-clause-cut
returns-in_err-write_marks-clause-cut g c =
    let before = c.in_ok-write_bytes.ensures.written in
    at_err _ (of_joined _ _ (heading_one ++ marks_legend) (page_links ∷ []) (past _ _ _ (heading_one) (marks_legend) before c.in_err-write_marks.ensures.cut))

pub returns-clause-cut : goal.returns-clause-cut
returns-clause-cut g c =
    let before = (Appends-trans _ _ _ (heading_one) (marks_legend) c.in_ok-write_bytes.ensures.written c.in_ok-write_marks.ensures.written) in
    on_err_weaker _ (past _ _ _ (heading_one ++ marks_legend) (page_links) before) c.write_bytes-2.ensures.cut

pub returns-clause-written : goal.returns-clause-written
returns-clause-written g c =
    let before = (Appends-trans _ _ _ (heading_one) (marks_legend) c.in_ok-write_bytes.ensures.written c.in_ok-write_marks.ensures.written) in
    on_ok_weaker c.write_bytes-2.result (Appends-trans _ _ _ (heading_one ++ marks_legend) (page_links) before) c.write_bytes-2.ensures.written
