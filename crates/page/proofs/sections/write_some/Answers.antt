use Rattle.std.proofs.Common.{[], ◌∷◌, ◌++◌, codes}
use Rattle.std.specs.Fmt.{decimal}
use Rattle.std.proofs.lemmas.Result.{on_err_weaker, on_ok_weaker}
use Rattle.std.proofs.KnownBytes.{Appends-trans}
use Rattle.html.proofs.Beginnings.{at_err, of_joined, past}
use Rattle.page.specs.States.{em_begun}
use Rattle.page.proofs.sections.write_some.Goals as goal

pub returns-in_err-begin_em-clause-cut : goal.returns-in_err-begin_em-clause-cut
returns-in_err-begin_em-clause-cut g c =
    at_err _ (of_joined _ _ (em_begun c.args.class.now) ((decimal c.args.count) ∷ (codes " ") ∷ c.args.what.now ∷ (codes "</em>") ∷ []) c.in_err-begin_em.ensures.cut)

pub returns-in_err-write_number-clause-cut : goal.returns-in_err-write_number-clause-cut
returns-in_err-write_number-clause-cut g c =
    let before = c.in_ok-begin_em.ensures.written in
    at_err _ (of_joined _ _ (em_begun c.args.class.now ++ decimal c.args.count) ((codes " ") ∷ c.args.what.now ∷ (codes "</em>") ∷ []) (past _ _ _ (em_begun c.args.class.now) (decimal c.args.count) before c.in_err-write_number.ensures.cut))

pub returns-in_err-write_bytes-clause-cut : goal.returns-in_err-write_bytes-clause-cut
returns-in_err-write_bytes-clause-cut g c =
    let before = (Appends-trans _ _ _ (em_begun c.args.class.now) (decimal c.args.count) c.in_ok-begin_em.ensures.written c.in_ok-write_number.ensures.written) in
    at_err _ (of_joined _ _ (em_begun c.args.class.now ++ decimal c.args.count ++ codes " ") (c.args.what.now ∷ (codes "</em>") ∷ []) (past _ _ _ (em_begun c.args.class.now ++ decimal c.args.count) (codes " ") before c.in_err-write_bytes.ensures.cut))

pub returns-in_err-write_plain-clause-cut : goal.returns-in_err-write_plain-clause-cut
returns-in_err-write_plain-clause-cut g c =
    let before = (Appends-trans _ _ _ (em_begun c.args.class.now ++ decimal c.args.count) (codes " ") (Appends-trans _ _ _ (em_begun c.args.class.now) (decimal c.args.count) c.in_ok-begin_em.ensures.written c.in_ok-write_number.ensures.written) c.in_ok-write_bytes.ensures.written) in
    at_err _ (of_joined _ _ (em_begun c.args.class.now ++ decimal c.args.count ++ codes " " ++ c.args.what.now) ((codes "</em>") ∷ []) (past _ _ _ (em_begun c.args.class.now ++ decimal c.args.count ++ codes " ") (c.args.what.now) before c.in_err-write_plain.ensures.cut))

pub returns-clause-cut : goal.returns-clause-cut
returns-clause-cut g c =
    let before = (Appends-trans _ _ _ (em_begun c.args.class.now ++ decimal c.args.count ++ codes " ") (c.args.what.now) (Appends-trans _ _ _ (em_begun c.args.class.now ++ decimal c.args.count) (codes " ") (Appends-trans _ _ _ (em_begun c.args.class.now) (decimal c.args.count) c.in_ok-begin_em.ensures.written c.in_ok-write_number.ensures.written) c.in_ok-write_bytes.ensures.written) c.in_ok-write_plain.ensures.written) in
    on_err_weaker _ (past _ _ _ (em_begun c.args.class.now ++ decimal c.args.count ++ codes " " ++ c.args.what.now) (codes "</em>") before) c.write_bytes-2.ensures.cut

pub returns-clause-written : goal.returns-clause-written
returns-clause-written g c =
    let before = (Appends-trans _ _ _ (em_begun c.args.class.now ++ decimal c.args.count ++ codes " ") (c.args.what.now) (Appends-trans _ _ _ (em_begun c.args.class.now ++ decimal c.args.count) (codes " ") (Appends-trans _ _ _ (em_begun c.args.class.now) (decimal c.args.count) c.in_ok-begin_em.ensures.written c.in_ok-write_number.ensures.written) c.in_ok-write_bytes.ensures.written) c.in_ok-write_plain.ensures.written) in
    on_ok_weaker c.write_bytes-2.result (Appends-trans _ _ _ (em_begun c.args.class.now ++ decimal c.args.count ++ codes " " ++ c.args.what.now) (codes "</em>") before) c.write_bytes-2.ensures.written
