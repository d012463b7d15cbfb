use Rattle.std.proofs.Common.{[], ◌∷◌, ◌++◌, codes}
use Rattle.std.proofs.lemmas.Result.{on_err_weaker}
use Rattle.std.proofs.KnownBytes.{Appends-trans}
use Rattle.html.specs.Escaped.{attribute_text, content_text}
use Rattle.html.proofs.Beginnings.{at_err, of_joined, past}
use Rattle.html.proofs.elements.write_element.Goals as goal

pub returns-in_err-write_bytes-clause-cut : goal.returns-in_err-write_bytes-clause-cut
returns-in_err-write_bytes-clause-cut g c =
    at_err _ (of_joined _ _ (codes "<") (c.args.name.now ∷ (attribute_text (codes "class") c.args.class.now) ∷ (content_text c.args.name.now c.args.text.now) ∷ []) c.in_err-write_bytes.ensures.cut)

pub returns-in_err-write_plain-clause-cut : goal.returns-in_err-write_plain-clause-cut
returns-in_err-write_plain-clause-cut g c =
    let before = c.in_ok-write_bytes.ensures.written in
    at_err _ (of_joined _ _ (codes "<" ++ c.args.name.now) ((attribute_text (codes "class") c.args.class.now) ∷ (content_text c.args.name.now c.args.text.now) ∷ []) (past _ _ _ (codes "<") c.args.name.now before c.in_err-write_plain.ensures.cut))

pub returns-in_err-write_attribute-clause-cut : goal.returns-in_err-write_attribute-clause-cut
returns-in_err-write_attribute-clause-cut g c =
    let before = (Appends-trans _ _ _ (codes "<") c.args.name.now c.in_ok-write_bytes.ensures.written c.in_ok-write_plain.ensures.written) in
    at_err _ (of_joined _ _ (codes "<" ++ c.args.name.now ++ attribute_text (codes "class") c.args.class.now) ((content_text c.args.name.now c.args.text.now) ∷ []) (past _ _ _ (codes "<" ++ c.args.name.now) (attribute_text (codes "class") c.args.class.now) before c.in_err-write_attribute.ensures.cut))

pub returns-clause-cut : goal.returns-clause-cut
returns-clause-cut g c =
    let before = (Appends-trans _ _ _ (codes "<" ++ c.args.name.now) (attribute_text (codes "class") c.args.class.now) (Appends-trans _ _ _ (codes "<") c.args.name.now c.in_ok-write_bytes.ensures.written c.in_ok-write_plain.ensures.written) c.in_ok-write_attribute.ensures.written) in
    on_err_weaker _ (past _ _ _ (codes "<" ++ c.args.name.now ++ attribute_text (codes "class") c.args.class.now) (content_text c.args.name.now c.args.text.now) before) c.write_content.ensures.cut
