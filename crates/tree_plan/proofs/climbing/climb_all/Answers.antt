use Rattle.std.proofs.Common.{◌+◌, ◌≤◌, length, take, sym, subst, ◌∙◌, arith}
use Rattle.std.specs.List.{Contains}
use Rattle.schema.specs.UpdateData.{UpdateData}
use Rattle.model.specs.declared.FullNodeId.{FullNodeId}
use Rattle.model.specs.World.{World, Reached}
use Rattle.model.specs.Update.{merged_world}
use Rattle.model.specs.Work.{named_ids}
use Rattle.model.specs.Surgery.{IsRefined, Adopts}
use Rattle.tree_plan.specs.Passes.{HoldsSettled}
use Rattle.tree_plan.specs.Climbs.{AreClimbed, IsClimbedFrom, AreWays}
use Rattle.tree_plan.specs.Cases.{IsCase, sent}
use Rattle.tree_plan.proofs.Ascents.{IsStart, is_start}
use Rattle.tree_plan.proofs.Ways.{ways_push, adopters_push, climbed_in_the_end, steps_in_the_end}
use Rattle.tree_plan.proofs.climbing.climb_all.Goals as goal

pub climb-requires-clause-case : goal.climb-requires-clause-case
climb-requires-clause-case g c = subst (λ v. IsCase v c.args.case.now) (sym c.loop-entry.invariant.world) c.requires.case

pub climb-requires-clause-settlement : goal.climb-requires-clause-settlement
climb-requires-clause-settlement g c = subst (λ v. HoldsSettled v (sent c.args.case.now) c.args.settled.now) (sym c.loop-entry.invariant.world) c.requires.settlement

pub climb-requires-clause-refined : goal.climb-requires-clause-refined
climb-requires-clause-refined g c = subst (λ v. IsRefined v (sent c.args.case.now)) (sym c.loop-entry.invariant.world) c.requires.refined

pub climb-requires-clause-before : goal.climb-requires-clause-before
climb-requires-clause-before g c =
    let u : UpdateData = sent c.args.case.now in
    subst (λ v. AreClimbed v u (take c.loop-entry.entry (named_ids v u)) c.loop-entry.climbed) (sym c.loop-entry.invariant.world) c.loop-entry.invariant.climbed

pub loop-entry-preserved : goal.loop-entry-preserved
loop-entry-preserved g c =
    let w : World = g.L.LookUps.world c.args.look_ups.now in
    let u : UpdateData = sent c.args.case.now in
    let before = c.loop-entry.invariant in
    let k = c.loop-entry.entry in
    let starts = take k (named_ids w u) in
    let way = subst (λ v. IsClimbedFrom v u k c.in_ok-climb.ensures.way.0) before.world c.in_ok-climb.ensures.way.1 in
    let steps = c.in_ok-climb.ensures.way.0 in
    let first : IsStart w u k way.start = is_start w u c.requires.case.comparison.compared.named_once k way.start way.at in
    record {
      world = c.climb.ensures.world ∙ before.world;
      climbed = subst (λ v. AreClimbed v u (take (k + 1) (named_ids v u)) c.climb.new.climbed) before.world c.in_ok-climb.ensures.climbed;
      adopters = subst (λ xs. (n : FullNodeId) → Contains xs n → Adopts w u n → Reached (merged_world w u) n) (sym first.more) (adopters_push w u starts way.start before.adopters way.reached);
      ways = (before.ways.0 + steps, subst (λ xs. AreWays w u xs (before.ways.0 + steps)) (sym first.more) (ways_push w u starts way.start before.ways.0 steps before.ways.1 way.way), (omega (arith, c.in_ok-climb.ensures.way.2.0, before.ways.2.0), omega (arith, c.in_ok-climb.ensures.way.2.1, before.ways.2.1)));
    }

pub returns-clause-ok : goal.returns-clause-ok
returns-clause-ok g c = climbed_in_the_end _ _ c.loop-entry.entry (omega (arith, c.loop-entry-test.false)) c.requires.refined c.loop-entry.invariant.adopters

pub returns-clause-counts : goal.returns-clause-counts
returns-clause-counts g c =
    let w : World = g.L.LookUps.world c.args.look_ups.now in
    let u : UpdateData = sent c.args.case.now in
    let all : length u.nodes ≤ c.loop-entry.entry = omega (arith, c.loop-entry-test.false) in
    let i = c.loop-entry.invariant in
    (i.ways.0, steps_in_the_end w u c.loop-entry.entry all c.requires.case.old (climbed_in_the_end w u c.loop-entry.entry all c.requires.refined i.adopters) i.ways.0 i.ways.1, i.ways.2)
