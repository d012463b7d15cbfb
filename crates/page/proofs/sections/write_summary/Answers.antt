use Rattle.std.proofs.Common.{[], ◌∷◌, ◌++◌, codes}
use Rattle.std.proofs.lemmas.Result.{on_err_weaker, on_ok_weaker}
use Rattle.std.proofs.KnownBytes.{Appends-trans}
use Rattle.html.proofs.Beginnings.{at_err, of_joined, past}
use Rattle.page.specs.States.{cause_text, outcome_word}
use Rattle.page.proofs.sections.write_summary.Goals as goal

pub returns-in_err-write_cause-clause-cut : goal.returns-in_err-write_cause-clause-cut
returns-in_err-write_cause-clause-cut g c =
    at_err _ (of_joined _ _ (cause_text c.args.it.cause) ((codes "</small>") ∷ (outcome_word c.args.it.outcome c.args.it.tally) ∷ []) c.in_err-write_cause.ensures.cut)

pub returns-in_err-write_bytes-clause-cut : goal.returns-in_err-write_bytes-clause-cut
returns-in_err-write_bytes-clause-cut g c =
    let before = c.in_ok-write_cause.ensures.written in
    at_err _ (of_joined _ _ (cause_text c.args.it.cause ++ codes "</small>") ((outcome_word c.args.it.outcome c.args.it.tally) ∷ []) (past _ _ _ (cause_text c.args.it.cause) (codes "</small>") before c.in_err-write_bytes.ensures.cut))

pub returns-clause-cut : goal.returns-clause-cut
returns-clause-cut g c =
    let before = (Appends-trans _ _ _ (cause_text c.args.it.cause) (codes "</small>") c.in_ok-write_cause.ensures.written c.in_ok-write_bytes.ensures.written) in
    on_err_weaker _ (past _ _ _ (cause_text c.args.it.cause ++ codes "</small>") (outcome_word c.args.it.outcome c.args.it.tally) before) c.write_outcome_word.ensures.cut

pub returns-clause-written : goal.returns-clause-written
returns-clause-written g c =
    let before = (Appends-trans _ _ _ (cause_text c.args.it.cause) (codes "</small>") c.in_ok-write_cause.ensures.written c.in_ok-write_bytes.ensures.written) in
    on_ok_weaker c.write_outcome_word.result (Appends-trans _ _ _ (cause_text c.args.it.cause ++ codes "</small>") (outcome_word c.args.it.outcome c.args.it.tally) before) c.write_outcome_word.ensures.written
