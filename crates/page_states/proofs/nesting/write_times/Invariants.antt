use Rattle.std.specs.Io.KnownBytes.{Appends}
use Rattle.page_states.specs.Nesting.{times}
use Rattle.page_states.proofs.nesting.write_times.Given as goal

-- it was written so many times
abbrev pub invariant-loop : goal.invariant-loop
invariant-loop g l = Appends (g.O.Write.contents l.fn.out) (g.O.Write.contents l.out) (times l.counter l.fn.text)
