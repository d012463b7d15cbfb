use Rattle.std.proofs.Common.{[], ◌∷◌, ◌++◌, codes}
use Rattle.std.proofs.lemmas.Result.{on_err_weaker, on_ok_weaker}
use Rattle.std.proofs.KnownBytes.{Appends-trans}
use Rattle.html.proofs.Beginnings.{at_err, of_joined, past}
use Rattle.page.proofs.head.write_marks.Goals as goal

pub returns-in_err-write_bytes-clause-cut : goal.returns-in_err-write_bytes-clause-cut
returns-in_err-write_bytes-clause-cut g c =
    at_err _ (of_joined _ _ (codes "<p class=\"legend\"><em class=\"a\">added</em> <em class=\"u\">updated</em> ") ((codes "<em class=\"r\">removed</em> <em class=\"f\">focus</em> ") ∷ (codes "<em class=\"h\">hidden or clipped</em></p>\n") ∷ []) c.in_err-write_bytes.ensures.cut)

pub returns-in_err-write_bytes-2-clause-cut : goal.returns-in_err-write_bytes-2-clause-cut
returns-in_err-write_bytes-2-clause-cut g c =
    let before = c.in_ok-write_bytes.ensures.written in
    at_err _ (of_joined _ _ (codes "<p class=\"legend\"><em class=\"a\">added</em> <em class=\"u\">updated</em> " ++ codes "<em class=\"r\">removed</em> <em class=\"f\">focus</em> ") ((codes "<em class=\"h\">hidden or clipped</em></p>\n") ∷ []) (past _ _ _ (codes "<p class=\"legend\"><em class=\"a\">added</em> <em class=\"u\">updated</em> ") (codes "<em class=\"r\">removed</em> <em class=\"f\">focus</em> ") before c.in_err-write_bytes-2.ensures.cut))

pub returns-clause-cut : goal.returns-clause-cut
returns-clause-cut g c =
    let before = (Appends-trans _ _ _ (codes "<p class=\"legend\"><em class=\"a\">added</em> <em class=\"u\">updated</em> ") (codes "<em class=\"r\">removed</em> <em class=\"f\">focus</em> ") c.in_ok-write_bytes.ensures.written c.in_ok-write_bytes-2.ensures.written) in
    on_err_weaker _ (past _ _ _ (codes "<p class=\"legend\"><em class=\"a\">added</em> <em class=\"u\">updated</em> " ++ codes "<em class=\"r\">removed</em> <em class=\"f\">focus</em> ") (codes "<em class=\"h\">hidden or clipped</em></p>\n") before) c.write_bytes-3.ensures.cut

pub returns-clause-written : goal.returns-clause-written
returns-clause-written g c =
    let before = (Appends-trans _ _ _ (codes "<p class=\"legend\"><em class=\"a\">added</em> <em class=\"u\">updated</em> ") (codes "<em class=\"r\">removed</em> <em class=\"f\">focus</em> ") c.in_ok-write_bytes.ensures.written c.in_ok-write_bytes-2.ensures.written) in
    on_ok_weaker c.write_bytes-3.result (Appends-trans _ _ _ (codes "<p class=\"legend\"><em class=\"a\">added</em> <em class=\"u\">updated</em> " ++ codes "<em class=\"r\">removed</em> <em class=\"f\">focus</em> ") (codes "<em class=\"h\">hidden or clipped</em></p>\n") before) c.write_bytes-3.ensures.written
