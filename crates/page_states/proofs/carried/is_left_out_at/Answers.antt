use Rattle.std.proofs.Common.{sym, ap, ◌∙◌}
use Rattle.model.specs.Covers.{is_cut_off}
use Rattle.views.specs.Nodes.{world_at, id_at}
use Rattle.page_states.proofs.LeftOut.{left_out_itself, left_out_by_others}
use Rattle.page_states.proofs.carried.is_left_out_at.Goals as goal

pub returns-then-is_cut_off : goal.returns-then-is_cut_off
returns-then-is_cut_off c =
    left_out_itself (world_at c.args.node) (id_at c.args.node) (sym (ap is_cut_off c.requires.answer) ∙ sym c.is_cut_off.ensures ∙ c.if-is_cut_off.true)

pub returns : goal.returns
returns c =
    c.is_below_left_out_at.ensures
    ∙ left_out_by_others (world_at c.args.node) (id_at c.args.node) (sym (ap is_cut_off c.requires.answer) ∙ sym c.is_cut_off.ensures ∙ c.if-is_cut_off.false)
