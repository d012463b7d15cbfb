use Rattle.std.proofs.Common.{[], ◌∷◌, ◌++◌, codes}
use Rattle.std.proofs.lemmas.Result.{on_err_weaker}
use Rattle.std.proofs.KnownBytes.{Appends-trans}
use Rattle.html.specs.Escaped.{escaped}
use Rattle.html.proofs.Beginnings.{at_err, of_joined, past}
use Rattle.html.proofs.elements.write_attribute.Goals as goal

pub returns-in_err-write_bytes-clause-cut : goal.returns-in_err-write_bytes-clause-cut
returns-in_err-write_bytes-clause-cut g c =
    at_err _ (of_joined _ _ (codes " ") (c.args.name.now ∷ (codes "=\"") ∷ (escaped c.args.text.now) ∷ (codes "\"") ∷ []) c.in_err-write_bytes.ensures.cut)

pub returns-in_err-write_plain-clause-cut : goal.returns-in_err-write_plain-clause-cut
returns-in_err-write_plain-clause-cut g c =
    let before = c.in_ok-write_bytes.ensures.written in
    at_err _ (of_joined _ _ (codes " " ++ c.args.name.now) ((codes "=\"") ∷ (escaped c.args.text.now) ∷ (codes "\"") ∷ []) (past _ _ _ (codes " ") c.args.name.now before c.in_err-write_plain.ensures.cut))

pub returns-in_err-write_bytes-2-clause-cut : goal.returns-in_err-write_bytes-2-clause-cut
returns-in_err-write_bytes-2-clause-cut g c =
    let before = (Appends-trans _ _ _ (codes " ") c.args.name.now c.in_ok-write_bytes.ensures.written c.in_ok-write_plain.ensures.written) in
    at_err _ (of_joined _ _ (codes " " ++ c.args.name.now ++ codes "=\"") ((escaped c.args.text.now) ∷ (codes "\"") ∷ []) (past _ _ _ (codes " " ++ c.args.name.now) (codes "=\"") before c.in_err-write_bytes-2.ensures.cut))

pub returns-in_err-write_escaped-clause-cut : goal.returns-in_err-write_escaped-clause-cut
returns-in_err-write_escaped-clause-cut g c =
    let before = (Appends-trans _ _ _ (codes " " ++ c.args.name.now) (codes "=\"") (Appends-trans _ _ _ (codes " ") c.args.name.now c.in_ok-write_bytes.ensures.written c.in_ok-write_plain.ensures.written) c.in_ok-write_bytes-2.ensures.written) in
    at_err _ (of_joined _ _ (codes " " ++ c.args.name.now ++ codes "=\"" ++ escaped c.args.text.now) ((codes "\"") ∷ []) (past _ _ _ (codes " " ++ c.args.name.now ++ codes "=\"") (escaped c.args.text.now) before c.in_err-write_escaped.ensures.cut))

pub returns-clause-cut : goal.returns-clause-cut
returns-clause-cut g c =
    let before = (Appends-trans _ _ _ (codes " " ++ c.args.name.now ++ codes "=\"") (escaped c.args.text.now) (Appends-trans _ _ _ (codes " " ++ c.args.name.now) (codes "=\"") (Appends-trans _ _ _ (codes " ") c.args.name.now c.in_ok-write_bytes.ensures.written c.in_ok-write_plain.ensures.written) c.in_ok-write_bytes-2.ensures.written) c.in_ok-write_escaped.ensures.written) in
    on_err_weaker _ (past _ _ _ (codes " " ++ c.args.name.now ++ codes "=\"" ++ escaped c.args.text.now) (codes "\"") before) c.write_bytes-3.ensures.cut
