use Rattle.std.proofs.Common.{◌∙◌, rules}
use Rattle.views.specs.Nodes.{world_at, id_at}
use Rattle.page_states.specs.Known.{left_out_filter}
use Rattle.page_states.proofs.LeftOut.{left_out_above}
use Rattle.page_states.proofs.carried.is_below_left_out.Goals as goal

pub returns : goal.returns
returns c =
    let w = world_at c.args.node.now in
    c.is_some.ensures ∙ left_out_above w (id_at c.args.node.now) c.filtered_parent.result (c.filtered_parent.ensures.node (left_out_filter w) (search rules))
