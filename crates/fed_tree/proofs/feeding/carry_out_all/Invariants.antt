use Rattle.fed_tree.proofs.Carrying.{SoFar}
use Rattle.fed_tree.proofs.feeding.carry_out_all.Given as goal

abbrev pub invariant-loop-command : goal.invariant-loop-command
invariant-loop-command l = SoFar l.fn.stage l.stage l.fn.commands.items l.yielded l.command-iterator.rest.items l.events l.done
