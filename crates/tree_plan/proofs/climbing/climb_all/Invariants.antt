use Rattle.std.proofs.Common.{◌≡◌, ℕ, take}
use Rattle.std.specs.List.{Contains}
use Rattle.model.specs.declared.FullNodeId.{FullNodeId}
use Rattle.model.specs.World.{Reached}
use Rattle.model.specs.Update.{merged_world}
use Rattle.model.specs.Work.{named_ids}
use Rattle.model.specs.Surgery.{Adopts}
use Rattle.tree_changes.specs.LookUps.{IsRaisedUpTo}
use Rattle.tree_plan.specs.Climbs.{AreClimbed, AreWays}
use Rattle.tree_plan.specs.Cases.{sent}
use Rattle.tree_plan.proofs.climbing.climb_all.Given as goal

abbrev pub invariant-loop-entry : goal.invariant-loop-entry
invariant-loop-entry g l =
    let w = g.L.LookUps.world l.fn.look_ups in
    let u = sent l.case in
    record {
      world : g.L.LookUps.world l.look_ups ≡ w;
      climbed : AreClimbed w u (take l.entry (named_ids w u)) l.climbed;
      adopters : (n : FullNodeId) → Contains (take l.entry (named_ids w u)) n → Adopts w u n → Reached (merged_world w u) n;
      ways : (sum : ℕ) × AreWays w u (take l.entry (named_ids w u)) sum × IsRaisedUpTo (g.L.LookUps.asked l.fn.look_ups) sum (g.L.LookUps.asked l.look_ups);
    }
