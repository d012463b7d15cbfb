use Rattle.std.proofs.Common.{◌≡◌, codes, Option, sym, ap, subst, ◌∙◌}
use Rattle.std.specs.Prelude.{OnOk}
use Rattle.std.specs.Io.KnownBytes.{Appends}
use Rattle.std.proofs.KnownBytes.{Appends-trans}
use Rattle.std.proofs.lemmas.Result.{on_ok_weaker}
use Rattle.html.specs.Escaped.{element_text}
use Rattle.page_states.specs.declared.marks.Mark.{Mark}
use Rattle.page_states.specs.Rows.{mark_class, mark_text, mark_word}
use Rattle.page_states.proofs.outline.write_mark.Goals as goal

pub returns : goal.returns
returns g c =
    let m = c.in-Some.mark in
    let before = g.O.Write.contents c.args.out.now in
    let between = g.O.Write.contents c.write_element.new.out in
    let after = g.O.Write.contents c.write_all.new.self in
    let em = codes "em" in
    let shown : element_text em c.class.result.now c.word.result.now ≡ element_text em (mark_class m) (mark_word m) =
    ap (λ t. element_text em t c.word.result.now) c.class.ensures ∙ ap (λ t. element_text em (mark_class m) t) c.word.ensures in
    let first = subst (Appends before between) shown c.in_ok-write_element.ensures.written in
    let whole = on_ok_weaker _ (Appends-trans before between after (element_text em (mark_class m) (mark_word m)) (codes " ") first) c.write_all.ensures.bytes in
    subst (λ (o : Option Mark). OnOk c.write_all.result (Appends before after (mark_text o))) (sym c.in-Some.is) whole
