use Rattle.std.proofs.Common.{[], ◌∷◌, ◌++◌, subst}
use Rattle.std.specs.Io.KnownBytes.{Appends}
use Rattle.std.proofs.lemmas.Result.{on_err_weaker, on_ok_weaker}
use Rattle.std.proofs.KnownBytes.{Appends-trans}
use Rattle.html.specs.Written.{AppendsBeginning}
use Rattle.html.proofs.Beginnings.{at_err, of_joined, past}
use Rattle.page.specs.States.{items_from, list_head, page_foot, section_end, stop_text}
use Rattle.page.proofs.sections.write_end.Goals as goal

pub returns-in_err-end_section-clause-cut : goal.returns-in_err-end_section-clause-cut
returns-in_err-end_section-clause-cut g c =
    at_err _ (of_joined _ _ (section_end c.args.states.now) ((stop_text c.args.ending.now.ended c.args.ending.now.line c.args.ending.now.message.items) ∷ list_head ∷ (items_from 1 c.args.states.now) ∷ page_foot ∷ []) c.in_err-end_section.ensures.cut)

pub returns-in_err-write_stop-clause-cut : goal.returns-in_err-write_stop-clause-cut
returns-in_err-write_stop-clause-cut g c =
    let before = c.in_ok-end_section.ensures.written in
    at_err _ (of_joined _ _ (section_end c.args.states.now ++ stop_text c.args.ending.now.ended c.args.ending.now.line c.args.ending.now.message.items) (list_head ∷ (items_from 1 c.args.states.now) ∷ page_foot ∷ []) (past _ _ _ (section_end c.args.states.now) (stop_text c.args.ending.now.ended c.args.ending.now.line c.args.ending.now.message.items) before (subst (λ text. AppendsBeginning (g.O.Write.contents c.end_section.new.out) (g.O.Write.contents c.write_stop.new.out) (stop_text c.args.ending.now.ended c.args.ending.now.line text)) c.deref.ensures.value c.in_err-write_stop.ensures.cut)))

pub returns-in_err-write_bytes-clause-cut : goal.returns-in_err-write_bytes-clause-cut
returns-in_err-write_bytes-clause-cut g c =
    let before = (Appends-trans _ _ _ (section_end c.args.states.now) (stop_text c.args.ending.now.ended c.args.ending.now.line c.args.ending.now.message.items) c.in_ok-end_section.ensures.written (subst (λ text. Appends (g.O.Write.contents c.end_section.new.out) (g.O.Write.contents c.write_stop.new.out) (stop_text c.args.ending.now.ended c.args.ending.now.line text)) c.deref.ensures.value c.in_ok-write_stop.ensures.written)) in
    at_err _ (of_joined _ _ (section_end c.args.states.now ++ stop_text c.args.ending.now.ended c.args.ending.now.line c.args.ending.now.message.items ++ list_head) ((items_from 1 c.args.states.now) ∷ page_foot ∷ []) (past _ _ _ (section_end c.args.states.now ++ stop_text c.args.ending.now.ended c.args.ending.now.line c.args.ending.now.message.items) (list_head) before c.in_err-write_bytes.ensures.cut))

pub returns-in_err-write_items-clause-cut : goal.returns-in_err-write_items-clause-cut
returns-in_err-write_items-clause-cut g c =
    let before = (Appends-trans _ _ _ (section_end c.args.states.now ++ stop_text c.args.ending.now.ended c.args.ending.now.line c.args.ending.now.message.items) (list_head) (Appends-trans _ _ _ (section_end c.args.states.now) (stop_text c.args.ending.now.ended c.args.ending.now.line c.args.ending.now.message.items) c.in_ok-end_section.ensures.written (subst (λ text. Appends (g.O.Write.contents c.end_section.new.out) (g.O.Write.contents c.write_stop.new.out) (stop_text c.args.ending.now.ended c.args.ending.now.line text)) c.deref.ensures.value c.in_ok-write_stop.ensures.written)) c.in_ok-write_bytes.ensures.written) in
    at_err _ (of_joined _ _ (section_end c.args.states.now ++ stop_text c.args.ending.now.ended c.args.ending.now.line c.args.ending.now.message.items ++ list_head ++ items_from 1 c.args.states.now) (page_foot ∷ []) (past _ _ _ (section_end c.args.states.now ++ stop_text c.args.ending.now.ended c.args.ending.now.line c.args.ending.now.message.items ++ list_head) (items_from 1 c.args.states.now) before c.in_err-write_items.ensures.cut))

pub returns-clause-cut : goal.returns-clause-cut
returns-clause-cut g c =
    let before = (Appends-trans _ _ _ (section_end c.args.states.now ++ stop_text c.args.ending.now.ended c.args.ending.now.line c.args.ending.now.message.items ++ list_head) (items_from 1 c.args.states.now) (Appends-trans _ _ _ (section_end c.args.states.now ++ stop_text c.args.ending.now.ended c.args.ending.now.line c.args.ending.now.message.items) (list_head) (Appends-trans _ _ _ (section_end c.args.states.now) (stop_text c.args.ending.now.ended c.args.ending.now.line c.args.ending.now.message.items) c.in_ok-end_section.ensures.written (subst (λ text. Appends (g.O.Write.contents c.end_section.new.out) (g.O.Write.contents c.write_stop.new.out) (stop_text c.args.ending.now.ended c.args.ending.now.line text)) c.deref.ensures.value c.in_ok-write_stop.ensures.written)) c.in_ok-write_bytes.ensures.written) c.in_ok-write_items.ensures.written) in
    on_err_weaker _ (past _ _ _ (section_end c.args.states.now ++ stop_text c.args.ending.now.ended c.args.ending.now.line c.args.ending.now.message.items ++ list_head ++ items_from 1 c.args.states.now) (page_foot) before) c.write_bytes-2.ensures.cut

pub returns-clause-written : goal.returns-clause-written
returns-clause-written g c =
    let before = (Appends-trans _ _ _ (section_end c.args.states.now ++ stop_text c.args.ending.now.ended c.args.ending.now.line c.args.ending.now.message.items ++ list_head) (items_from 1 c.args.states.now) (Appends-trans _ _ _ (section_end c.args.states.now ++ stop_text c.args.ending.now.ended c.args.ending.now.line c.args.ending.now.message.items) (list_head) (Appends-trans _ _ _ (section_end c.args.states.now) (stop_text c.args.ending.now.ended c.args.ending.now.line c.args.ending.now.message.items) c.in_ok-end_section.ensures.written (subst (λ text. Appends (g.O.Write.contents c.end_section.new.out) (g.O.Write.contents c.write_stop.new.out) (stop_text c.args.ending.now.ended c.args.ending.now.line text)) c.deref.ensures.value c.in_ok-write_stop.ensures.written)) c.in_ok-write_bytes.ensures.written) c.in_ok-write_items.ensures.written) in
    on_ok_weaker c.write_bytes-2.result (Appends-trans _ _ _ (section_end c.args.states.now ++ stop_text c.args.ending.now.ended c.args.ending.now.line c.args.ending.now.message.items ++ list_head ++ items_from 1 c.args.states.now) (page_foot) before) c.write_bytes-2.ensures.written
