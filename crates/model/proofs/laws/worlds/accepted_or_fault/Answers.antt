use Rattle.model.proofs.Update.AcceptedOrFault.{accepted_or_fault}
use Rattle.model.proofs.laws.worlds.accepted_or_fault.Goals as goal

pub returns : goal.returns
returns c = accepted_or_fault
