use Rattle.std.proofs.Common.{true, false, sym, ap, ◌∙◌}
use Rattle.model.specs.Covers.{is_cut_off}
use Rattle.views.specs.Nodes.{world_at, id_at}
use Rattle.page_states.proofs.LeftOut.{left_out_said}
use Rattle.page_states.proofs.carried.left_out.Goals as goal

pub returns-then-is_cut_off : goal.returns-then-is_cut_off
returns-then-is_cut_off c =
    left_out_said (world_at c.args.node.now) (id_at c.args.node.now) true (sym (ap is_cut_off c.common_filter.ensures) ∙ sym c.is_cut_off.ensures ∙ c.if-is_cut_off.true)

pub returns : goal.returns
returns c =
    left_out_said (world_at c.args.node.now) (id_at c.args.node.now) false (sym (ap is_cut_off c.common_filter.ensures) ∙ sym c.is_cut_off.ensures ∙ c.if-is_cut_off.false)
