-- The new set has one more action.
use Rattle.std.proofs.Common.{ap}
use Rattle.schema.specs.NodeData.{NodeData}
use Rattle.schema.proofs.ActionLaws.{gains_after}
use Rattle.schema.proofs.Node.add_action.Goals as goal

pub returns-clause-members : goal.returns-clause-members
returns-clause-members c = gains_after _ _ _ c.args.action (ap (λ (d : NodeData). d.actions) c.self.view_is) c.add-self-inside.ensures
