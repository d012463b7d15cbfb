use Rattle.std.proofs.Common.{sym}
use Rattle.model.proofs.State.StatePlaces.{child_is_node}
use Rattle.views.proofs.state_ref.StateRef.child.Goals as goal

pub member-requires : goal.member-requires
member-requires c = child_is_node c.know.ensures.state (c.args.parent.id, c.args.index) c.in_ok-id.id (sym c.in_ok-id.ensures.is)
