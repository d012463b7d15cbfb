use Rattle.views.specs.Nodes.{world_at, id_at}
use Rattle.views.proofs.LabelSteps.{begins_on, begins_with}
use Rattle.views.proofs.walks.labelled_by.LabelsWithin.new.Goals as goal

pub invariant_of-result : goal.invariant_of-result
invariant_of-result c = record { on_course = begins_on (world_at c.args.node) (id_at c.args.node) c.below.result c.below.ensures }

pub returns : goal.returns
returns c = begins_with (world_at c.args.node) (id_at c.args.node) c.below.result c.below.ensures
