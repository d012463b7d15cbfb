use Rattle.views.specs.LabelWalks.{labels_left}
use Rattle.views.specs.Nodes.{world_at, id_at}
use Rattle.page_states.proofs.Hiding.{unlabelled}
use Rattle.page_states.proofs.secrets.hides_label_outside.Goals as goal

pub returns : goal.returns
returns c =
    unlabelled (world_at c.args.node.now) (id_at c.args.node.now) c.requires (labels_left c.labelled_by.result) c.labelled_by.ensures (c.has_label_node.ensures c.if-has_label_node.false)
