use Rattle.std.proofs.Common.{[], ◌∷◌, ◌++◌, codes}
use Rattle.std.proofs.lemmas.Result.{on_err_weaker, on_ok_weaker}
use Rattle.std.proofs.KnownBytes.{Appends-trans}
use Rattle.html.proofs.Beginnings.{at_err, of_joined, past}
use Rattle.page.specs.States.{count_text}
use Rattle.page.proofs.sections.write_tally.Goals as goal

pub returns-in_err-write_count-clause-cut : goal.returns-in_err-write_count-clause-cut
returns-in_err-write_count-clause-cut g c =
    at_err _ (of_joined _ _ (count_text (codes "a") (codes "added") c.args.tally.added) ((count_text (codes "u") (codes "updated") c.args.tally.updated) ∷ (count_text (codes "r") (codes "removed") c.args.tally.removed) ∷ (count_text (codes "f") (codes "focus") c.args.tally.moved) ∷ []) c.in_err-write_count.ensures.cut)

pub returns-in_err-write_count-2-clause-cut : goal.returns-in_err-write_count-2-clause-cut
returns-in_err-write_count-2-clause-cut g c =
    let before = c.in_ok-write_count.ensures.written in
    at_err _ (of_joined _ _ (count_text (codes "a") (codes "added") c.args.tally.added ++ count_text (codes "u") (codes "updated") c.args.tally.updated) ((count_text (codes "r") (codes "removed") c.args.tally.removed) ∷ (count_text (codes "f") (codes "focus") c.args.tally.moved) ∷ []) (past _ _ _ (count_text (codes "a") (codes "added") c.args.tally.added) (count_text (codes "u") (codes "updated") c.args.tally.updated) before c.in_err-write_count-2.ensures.cut))

pub returns-in_err-write_count-3-clause-cut : goal.returns-in_err-write_count-3-clause-cut
returns-in_err-write_count-3-clause-cut g c =
    let before = (Appends-trans _ _ _ (count_text (codes "a") (codes "added") c.args.tally.added) (count_text (codes "u") (codes "updated") c.args.tally.updated) c.in_ok-write_count.ensures.written c.in_ok-write_count-2.ensures.written) in
    at_err _ (of_joined _ _ (count_text (codes "a") (codes "added") c.args.tally.added ++ count_text (codes "u") (codes "updated") c.args.tally.updated ++ count_text (codes "r") (codes "removed") c.args.tally.removed) ((count_text (codes "f") (codes "focus") c.args.tally.moved) ∷ []) (past _ _ _ (count_text (codes "a") (codes "added") c.args.tally.added ++ count_text (codes "u") (codes "updated") c.args.tally.updated) (count_text (codes "r") (codes "removed") c.args.tally.removed) before c.in_err-write_count-3.ensures.cut))

pub returns-clause-cut : goal.returns-clause-cut
returns-clause-cut g c =
    let before = (Appends-trans _ _ _ (count_text (codes "a") (codes "added") c.args.tally.added ++ count_text (codes "u") (codes "updated") c.args.tally.updated) (count_text (codes "r") (codes "removed") c.args.tally.removed) (Appends-trans _ _ _ (count_text (codes "a") (codes "added") c.args.tally.added) (count_text (codes "u") (codes "updated") c.args.tally.updated) c.in_ok-write_count.ensures.written c.in_ok-write_count-2.ensures.written) c.in_ok-write_count-3.ensures.written) in
    on_err_weaker _ (past _ _ _ (count_text (codes "a") (codes "added") c.args.tally.added ++ count_text (codes "u") (codes "updated") c.args.tally.updated ++ count_text (codes "r") (codes "removed") c.args.tally.removed) (count_text (codes "f") (codes "focus") c.args.tally.moved) before) c.write_count-4.ensures.cut

pub returns-clause-written : goal.returns-clause-written
returns-clause-written g c =
    let before = (Appends-trans _ _ _ (count_text (codes "a") (codes "added") c.args.tally.added ++ count_text (codes "u") (codes "updated") c.args.tally.updated) (count_text (codes "r") (codes "removed") c.args.tally.removed) (Appends-trans _ _ _ (count_text (codes "a") (codes "added") c.args.tally.added) (count_text (codes "u") (codes "updated") c.args.tally.updated) c.in_ok-write_count.ensures.written c.in_ok-write_count-2.ensures.written) c.in_ok-write_count-3.ensures.written) in
    on_ok_weaker c.write_count-4.result (Appends-trans _ _ _ (count_text (codes "a") (codes "added") c.args.tally.added ++ count_text (codes "u") (codes "updated") c.args.tally.updated ++ count_text (codes "r") (codes "removed") c.args.tally.removed) (count_text (codes "f") (codes "focus") c.args.tally.moved) before) c.write_count-4.ensures.written
