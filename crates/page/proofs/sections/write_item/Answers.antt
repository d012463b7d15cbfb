use Rattle.std.proofs.Common.{[], ◌∷◌, ◌++◌, codes, subst}
use Rattle.std.specs.Io.KnownBytes.{Appends}
use Rattle.std.proofs.lemmas.Result.{on_err_weaker, on_ok_weaker}
use Rattle.std.proofs.KnownBytes.{Appends-trans}
use Rattle.html.specs.Written.{AppendsBeginning}
use Rattle.html.proofs.Beginnings.{at_err, of_joined, past}
use Rattle.page.specs.States.{state_link, summary_text}
use Rattle.page.proofs.sections.write_item.Goals as goal

pub returns-in_err-begin_item-clause-cut : goal.returns-in_err-begin_item-clause-cut
returns-in_err-begin_item-clause-cut g c =
    at_err _ (of_joined _ _ (state_link c.args.number c.args.it.now.title.items) ((summary_text c.args.it.now.summary) ∷ (codes "</li>\n") ∷ []) (subst (λ title. AppendsBeginning (g.O.Write.contents c.args.out.now) (g.O.Write.contents c.begin_item.new.out) (state_link c.args.number title)) c.deref.ensures.value c.in_err-begin_item.ensures.cut))

pub returns-in_err-write_summary-clause-cut : goal.returns-in_err-write_summary-clause-cut
returns-in_err-write_summary-clause-cut g c =
    let before = (subst (λ title. Appends (g.O.Write.contents c.args.out.now) (g.O.Write.contents c.begin_item.new.out) (state_link c.args.number title)) c.deref.ensures.value c.in_ok-begin_item.ensures.written) in
    at_err _ (of_joined _ _ (state_link c.args.number c.args.it.now.title.items ++ summary_text c.args.it.now.summary) ((codes "</li>\n") ∷ []) (past _ _ _ (state_link c.args.number c.args.it.now.title.items) (summary_text c.args.it.now.summary) before c.in_err-write_summary.ensures.cut))

pub returns-clause-cut : goal.returns-clause-cut
returns-clause-cut g c =
    let before = (Appends-trans _ _ _ (state_link c.args.number c.args.it.now.title.items) (summary_text c.args.it.now.summary) (subst (λ title. Appends (g.O.Write.contents c.args.out.now) (g.O.Write.contents c.begin_item.new.out) (state_link c.args.number title)) c.deref.ensures.value c.in_ok-begin_item.ensures.written) c.in_ok-write_summary.ensures.written) in
    on_err_weaker _ (past _ _ _ (state_link c.args.number c.args.it.now.title.items ++ summary_text c.args.it.now.summary) (codes "</li>\n") before) c.write_bytes.ensures.cut

pub returns-clause-written : goal.returns-clause-written
returns-clause-written g c =
    let before = (Appends-trans _ _ _ (state_link c.args.number c.args.it.now.title.items) (summary_text c.args.it.now.summary) (subst (λ title. Appends (g.O.Write.contents c.args.out.now) (g.O.Write.contents c.begin_item.new.out) (state_link c.args.number title)) c.deref.ensures.value c.in_ok-begin_item.ensures.written) c.in_ok-write_summary.ensures.written) in
    on_ok_weaker c.write_bytes.result (Appends-trans _ _ _ (state_link c.args.number c.args.it.now.title.items ++ summary_text c.args.it.now.summary) (codes "</li>\n") before) c.write_bytes.ensures.written
