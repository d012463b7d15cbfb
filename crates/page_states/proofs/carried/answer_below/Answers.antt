use Rattle.std.proofs.Common.{◌∙◌, sym, ap, subst}
use Rattle.model.specs.Forest.{IsFormed}
use Rattle.model.specs.Covers.{is_cut_off}
use Rattle.views.specs.Nodes.{world_at, id_at}
use Rattle.page_states.specs.Known.{is_clear}
use Rattle.page_states.proofs.Carrying.{cut_off_below, clear_below}
use Rattle.page_states.proofs.carried.answer_below.Goals as goal

pub returns-then-is_cut_off : goal.returns-then-is_cut_off
returns-then-is_cut_off c =
    let k = c.requires.above.1 in
    cut_off_below (world_at c.args.node) (subst IsFormed c.tree_state.ensures c.know.ensures.formed) (id_at c.args.node) c.args.above.id c.requires.above.0 c.requires.open
    (sym (ap is_cut_off k.answer) ∙ sym c.is_cut_off.ensures ∙ c.if-is_cut_off.true)

pub returns-then-is_clear : goal.returns-then-is_clear
returns-then-is_clear c =
    let k = c.requires.above.1 in
    clear_below (world_at c.args.node) (subst IsFormed c.tree_state.ensures c.know.ensures.formed) (id_at c.args.node) c.args.above.id c.requires.above.0 c.requires.open c.args.above.known.frame
    (sym (ap is_cut_off k.answer) ∙ sym c.is_cut_off.ensures ∙ c.if-is_cut_off.false)
    k.frame
    (ap (is_clear c.args.above.known.frame) (sym c.requires.rect) ∙ sym c.is_clear.ensures ∙ c.if-is_clear.true)
