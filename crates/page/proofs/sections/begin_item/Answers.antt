use Rattle.std.proofs.Common.{[], ◌∷◌}
use Rattle.std.proofs.lemmas.Result.{on_err_weaker, on_ok_weaker}
use Rattle.std.proofs.KnownBytes.{Appends-trans}
use Rattle.html.proofs.Beginnings.{at_err, of_joined, past}
use Rattle.page.specs.States.{state_link_begun, state_word}
use Rattle.page.proofs.sections.begin_item.Goals as goal

pub returns-in_err-begin_state_link-clause-cut : goal.returns-in_err-begin_state_link-clause-cut
returns-in_err-begin_state_link-clause-cut g c =
    at_err _ (of_joined _ _ (state_link_begun c.args.number) ((state_word c.args.number c.args.title.now) ∷ []) c.in_err-begin_state_link.ensures.cut)

pub returns-clause-cut : goal.returns-clause-cut
returns-clause-cut g c =
    let before = c.in_ok-begin_state_link.ensures.written in
    on_err_weaker _ (past _ _ _ (state_link_begun c.args.number) (state_word c.args.number c.args.title.now) before) c.write_state_word.ensures.cut

pub returns-clause-written : goal.returns-clause-written
returns-clause-written g c =
    let before = c.in_ok-begin_state_link.ensures.written in
    on_ok_weaker c.write_state_word.result (Appends-trans _ _ _ (state_link_begun c.args.number) (state_word c.args.number c.args.title.now) before) c.write_state_word.ensures.written
