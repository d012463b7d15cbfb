use Rattle.page_states.proofs.FieldsTold.{TellsSoFar}
use Rattle.page_states.proofs.differences.write_field_differences.Given as goal

-- the fields so far are told
abbrev pub invariant-loop-name : goal.invariant-loop-name
invariant-loop-name g l = TellsSoFar l.fn.old l.fn.new l.name-items l.name-index (g.O.Write.contents l.fn.out) (g.O.Write.contents l.out)
