use Rattle.std.specs.Prelude.{All}
use Rattle.std.specs.Vec.{vec_len}
use Rattle.find.specs.Viewed.{IsKnownOf}
use Rattle.find.proofs.Upward.{AreWritten}
use Rattle.find.proofs.report.names.write_later.Given as goal

abbrev pub decreases-loop-node : goal.decreases-loop-node
decreases-loop-node g l = vec_len l.left

-- the names so far are written, and what is known of the others is right
abbrev pub invariant-loop-node : goal.invariant-loop-node
invariant-loop-node g l = record {
  names : AreWritten (g.O.Write.contents l.fn.out) (g.O.Write.contents l.out) l.fn.nodes.items l.left.items;
  known : All (IsKnownOf l.passwords) l.left.items;
}
