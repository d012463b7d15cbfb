use Rattle.std.proofs.Common.{◌≡◌, ◌-◌, ℕ, length, take}
use Rattle.model.specs.Update.{merged_world}
use Rattle.model.specs.Work.{named_ids}
use Rattle.model.specs.Surgery.{IsClimb}
use Rattle.model.proofs.Update.AcceptedOrFault.{keys}
use Rattle.tree_changes.specs.LookUps.{IsRaisedUpTo}
use Rattle.tree_plan.specs.Cases.{sent}
use Rattle.tree_plan.proofs.Ascents.{AreOthers, IsMarked, IsFound, IsStart, Known}
use Rattle.tree_plan.proofs.climbing.climb.Given as goal

abbrev pub invariant-up : goal.invariant-up
invariant-up g l = record {
  world : g.L.LookUps.world l.look_ups ≡ g.L.LookUps.world l.fn.look_ups;
  others : AreOthers (g.L.LookUps.world l.fn.look_ups) (sent l.case) (take l.entry (named_ids (g.L.LookUps.world l.fn.look_ups) (sent l.case))) l.start l.climbed;
  climb : (steps : ℕ) × IsClimb (g.L.LookUps.world l.fn.look_ups) (sent l.case) l.start (IsMarked l.start l.climbed) l.id steps × IsRaisedUpTo (g.L.LookUps.asked l.fn.look_ups) steps (g.L.LookUps.asked l.look_ups);
  found : IsFound (g.L.LookUps.world l.fn.look_ups) (sent l.case) l.id;
  known : Known (g.L.LookUps.world l.fn.look_ups) (sent l.case) l.case.opened.now l.case.compared.now l.settled;
  first : IsStart (g.L.LookUps.world l.fn.look_ups) (sent l.case) l.entry l.start;
}

abbrev pub decreases-up : goal.decreases-up
decreases-up g l = length (keys (merged_world (g.L.LookUps.world l.fn.look_ups) (sent l.case))) - length l.climbed.entries
