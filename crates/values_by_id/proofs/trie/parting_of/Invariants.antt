use Rattle.std.proofs.Common.{◌≢◌, ◌*◌, ◌/◌, ◌^◌}
use Rattle.values_by_id.proofs.trie.parting_of.Given as goal

abbrev pub invariant-loop-step : goal.invariant-loop-step
invariant-loop-step l = l.a / 2 ^ (4 * l.step) ≢ l.b / 2 ^ (4 * l.step)
