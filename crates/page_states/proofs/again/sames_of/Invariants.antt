use Rattle.std.proofs.Common.{◌-◌, drop}
use Rattle.std.specs.Prelude.{reverse}
use Rattle.page_states.specs.Subtrees.{AreSames, AreSubtrees}
use Rattle.page_states.proofs.again.sames_of.Given as goal

-- so of the last nodes
abbrev pub invariant-loop-step : goal.invariant-loop-step
invariant-loop-step l = record {
  sames : AreSames l.fn.kept (drop (l.count - l.step) l.shown) (reverse l.sames.items);
  later : AreSubtrees l.fn.kept (drop (l.count - l.step) l.shown) (reverse l.later.items);
}
