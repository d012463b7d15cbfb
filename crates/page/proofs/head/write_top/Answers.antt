use Rattle.std.proofs.Common.{[], ◌∷◌, ◌++◌}
use Rattle.std.proofs.lemmas.Result.{on_err_weaker, on_ok_weaker}
use Rattle.std.proofs.KnownBytes.{Appends-trans}
use Rattle.html.proofs.Beginnings.{at_err, of_joined, past}
use Rattle.page.specs.Heads.{page_begun, page_policy, page_title, page_width}
use Rattle.page.proofs.head.write_top.Goals as goal

pub returns-in_err-write_bytes-clause-cut : goal.returns-in_err-write_bytes-clause-cut
returns-in_err-write_bytes-clause-cut g c =
    at_err _ (of_joined _ _ (page_begun) (page_policy ∷ page_width ∷ page_title ∷ []) c.in_err-write_bytes.ensures.cut)

pub returns-in_err-write_bytes-2-clause-cut : goal.returns-in_err-write_bytes-2-clause-cut
returns-in_err-write_bytes-2-clause-cut g c =
    let before = c.in_ok-write_bytes.ensures.written in
    at_err _ (of_joined _ _ (page_begun ++ page_policy) (page_width ∷ page_title ∷ []) (past _ _ _ (page_begun) (page_policy) before c.in_err-write_bytes-2.ensures.cut))

pub returns-in_err-write_bytes-3-clause-cut : goal.returns-in_err-write_bytes-3-clause-cut
returns-in_err-write_bytes-3-clause-cut g c =
    let before = (Appends-trans _ _ _ (page_begun) (page_policy) c.in_ok-write_bytes.ensures.written c.in_ok-write_bytes-2.ensures.written) in
    at_err _ (of_joined _ _ (page_begun ++ page_policy ++ page_width) (page_title ∷ []) (past _ _ _ (page_begun ++ page_policy) (page_width) before c.in_err-write_bytes-3.ensures.cut))

pub returns-clause-cut : goal.returns-clause-cut
returns-clause-cut g c =
    let before = (Appends-trans _ _ _ (page_begun ++ page_policy) (page_width) (Appends-trans _ _ _ (page_begun) (page_policy) c.in_ok-write_bytes.ensures.written c.in_ok-write_bytes-2.ensures.written) c.in_ok-write_bytes-3.ensures.written) in
    on_err_weaker _ (past _ _ _ (page_begun ++ page_policy ++ page_width) (page_title) before) c.write_bytes-4.ensures.cut

pub returns-clause-written : goal.returns-clause-written
returns-clause-written g c =
    let before = (Appends-trans _ _ _ (page_begun ++ page_policy) (page_width) (Appends-trans _ _ _ (page_begun) (page_policy) c.in_ok-write_bytes.ensures.written c.in_ok-write_bytes-2.ensures.written) c.in_ok-write_bytes-3.ensures.written) in
    on_ok_weaker c.write_bytes-4.result (Appends-trans _ _ _ (page_begun ++ page_policy ++ page_width) (page_title) before) c.write_bytes-4.ensures.written
