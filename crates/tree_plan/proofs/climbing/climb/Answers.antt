use Rattle.std.proofs.Common.{◌≡◌, ℕ, ◌+◌, length, take, None, Some, option_copied, inr, refl, sym, ap, subst, ◌∙◌, arith}
use Rattle.schema.specs.UpdateData.{UpdateData}
use Rattle.model.specs.declared.FullNodeId.{FullNodeId}
use Rattle.model.specs.World.{World, data_of}
use Rattle.model.specs.State.{Lists}
use Rattle.model.specs.Update.{merged_world}
use Rattle.model.specs.Surgery.{IsOld, Gone, here}
use Rattle.model.specs.Work.{named_ids}
use Rattle.model.proofs.Worlds.Names.{cases_some}
use Rattle.model.proofs.Surgery.ClimbsUp.{named_spotted}
use Rattle.tree_plan.specs.Passes.{at}
use Rattle.tree_plan.specs.Climbs.{IsNext, IsOldPlace, AreClimbed}
use Rattle.tree_plan.specs.Cases.{sent}
use Rattle.tree_plan.proofs.Ascents.{Known, IsStart, IsFound, known_by, starts_at, next_there, old_place_known, begins, step, others_step, below_root, known_reached, comes_round, at_other, all_climbed_to, climbed_from, up_to, marks_left, stays_climbed}
use Rattle.tree_plan.proofs.climbing.climb.Given as given
use Rattle.tree_plan.proofs.climbing.climb.Goals as goal
use Rattle.tree_plan.proofs.climbing.climb.Goals.{After-named_id-start, In-Some, After-parent_after-id}

-- what the climb goes by, and where it starts
known : (g : given.Over) (c : After-named_id-start g) → Known (g.L.LookUps.world c.args.look_ups.now) (sent c.args.case.now) c.args.case.now.opened.now c.args.case.now.compared.now c.args.settled.now
known g c = known_by c.requires.case.old c.requires.case.opening c.requires.case.comparison c.requires.settlement c.requires.refined

first : (g : given.Over) (c : After-named_id-start g) → IsStart (g.L.LookUps.world c.args.look_ups.now) (sent c.args.case.now) c.args.entry c.named_id-start.result
first g c = starts_at (known g c) c.args.entry c.named_id-start.result c.named_id-start.ensures

-- the mark that was found
marked : (g : given.Over) (c : In-Some g) → at c.up.climbed.entries c.up.id ≡ Some c.in-Some.other.now
marked g c = sym c.get.ensures.value ∙ ap option_copied c.in-Some.is

-- the step up to the parent
goes_up : (g : given.Over) (c : After-parent_after-id g) →
    let w = g.L.LookUps.world c.args.look_ups.now in
    let u = sent c.args.case.now in
    (k : ℕ) × Lists (merged_world w u) (c.parent_after-id.result, k) c.up.id × ¬ (Gone w u c.parent_after-id.result) × IsFound w u c.parent_after-id.result
goes_up g c =
    let i = c.up.invariant in
    up_to i.known i.first c.up.climbed i.others i.climb.1 c.parent_after-id.result (c.up-test.ensures.unknown refl) (subst (λ v. IsNext v c.args.case.now.compared.now c.up.id c.parent_after-id.result) i.world c.parent_after-id.ensures.next)

pub returns-then-not-contains-clause-climbed : goal.returns-then-not-contains-clause-climbed
returns-then-not-contains-clause-climbed g c =
    let p = (goal.at.returns-then-not-contains-clause-climbed g c).After-named_id-start in
    let w : World = g.L.LookUps.world c.args.look_ups.now in
    let u : UpdateData = sent c.args.case.now in
    subst (λ ids. AreClimbed w u ids c.args.climbed.now) (sym (first g p).more) (stays_climbed (known g p) (take c.args.entry (named_ids w u)) c.named_id-start.result c.args.climbed.now c.requires.before)

pub returns-then-not-contains-clause-way : goal.returns-then-not-contains-clause-way
returns-then-not-contains-clause-way g c =
    let start = c.named_id-start.result in
    let begins = first g (goal.at.returns-then-not-contains-clause-way g c).After-named_id-start in
    (0, record { start = start; at = begins.at; reached = λ adopts. let is = (c.requires.settlement.adopters start).1 adopts in let no = c.if-not-contains.ensures in cc; way = (start, here start, inr refl) }, (omega arith, omega arith))

pub up-init : goal.up-init
up-init g c =
    let p = (goal.at.up-init g c).After-named_id-start in
    let start = c.named_id-start.result in
    let q = c.requires in
    let w : World = g.L.LookUps.world c.args.look_ups.now in
    let u : UpdateData = sent c.args.case.now in
    record {
      world = refl;
      others = λ n x is. inr (q.before.reached n x is, q.before.begun n x is);
      climb = (0, begins (known g p) (take c.args.entry (named_ids w u)) start c.args.climbed.now q.before (first g p).new (first g p).named, (omega arith, omega arith));
      found = named_spotted w u q.case.old q.refined start (first g p).named (cases_some (data_of w start));
      known = known g p;
      first = first g p;
    }

pub returns-then-is_same_node-clause-err : goal.returns-then-is_same_node-clause-err
returns-then-is_same_node-clause-err g c =
    let i = c.up.invariant in
    comes_round i.known c.named_id-start.result c.up.id i.climb.0 c.up.climbed i.first.named i.climb.1 (marked g (goal.at.returns-then-is_same_node-clause-err g c).In-Some ∙ ap Some (c.if-is_same_node.ensures.0 refl))

pub returns-in-Some-clause-climbed : goal.returns-in-Some-clause-climbed
returns-in-Some-clause-climbed g c =
    let i = c.up.invariant in
    all_climbed_to i.known i.first c.up.climbed i.others i.climb.1 (at_other i.known i.first c.up.climbed i.others i.climb.1 c.in-Some.other.now (marked g (goal.at.returns-in-Some-clause-climbed g c).In-Some) (λ same. let no = c.if-is_same_node.ensures.1 same in cc))

pub returns-in-Some-clause-way : goal.returns-in-Some-clause-way
returns-in-Some-clause-way g c =
    let i = c.up.invariant in
    (i.climb.0, climbed_from i.known i.first c.up.climbed i.others i.climb.1 (at_other i.known i.first c.up.climbed i.others i.climb.1 c.in-Some.other.now (marked g (goal.at.returns-in-Some-clause-way g c).In-Some) (λ same. let no = c.if-is_same_node.ensures.1 same in cc)), i.climb.2)

pub parent_after-id-requires-clause-old : goal.parent_after-id-requires-clause-old
parent_after-id-requires-clause-old g c = subst (λ v. IsOld v) (sym c.up.invariant.world) c.requires.case.old

pub parent_after-id-requires-clause-next : goal.parent_after-id-requires-clause-next
parent_after-id-requires-clause-next g c =
    let i = c.up.invariant in
    let climb = i.climb in
    let below = below_root i.known c.named_id-start.result c.up.id climb.0 i.first.named climb.1.leads (c.up-test.ensures.unknown refl) in
    subst (λ v. (p : FullNodeId) × IsNext v c.args.case.now.compared.now c.up.id p) (sym i.world) (next_there i.known c.up.id i.found climb.1.stays below)

pub parent_after-id-requires-clause-named : goal.parent_after-id-requires-clause-named
parent_after-id-requires-clause-named g c =
    let i = c.up.invariant in
    λ n is. subst (λ v. IsOldPlace v c.up.id n) (sym i.world) (old_place_known i.known c.up.id n is)

pub up-smaller : goal.up-smaller
up-smaller g c =
    let i = c.up.invariant in
    let up = goes_up g (goal.at.up-smaller g c).After-parent_after-id in
    let put = c.in_ok-insert.ensures in
    let left = marks_left i.known _ c.named_id-start.result c.up.id c.parent_after-id.result up.0 i.climb.0 c.up.climbed c.insert.new.self put.updates.0 put.ordered i.others i.climb.1 up.1 up.2 in
    let absent : at c.up.climbed.entries c.up.id ≡ None = sym c.get.ensures.value ∙ ap option_copied c.in_default.is in
    let was : c.in_ok-insert.field-0 ≡ None = put.old ∙ absent in
    let more : length c.insert.new.self.entries ≡ length c.up.climbed.entries + 1 = rw was at put.len in
    omega (arith, left, more)

pub up-preserved : goal.up-preserved
up-preserved g c =
    let i = c.up.invariant in
    let up = goes_up g (goal.at.up-preserved g c).After-parent_after-id in
    let put = c.in_ok-insert.ensures.updates.0 in
    record {
      world = c.parent_after-id.ensures.looks.0 ∙ i.world;
      others = others_step i.known _ c.named_id-start.result c.up.id c.up.climbed c.insert.new.self put i.others;
      climb = (i.climb.0 + 1, step i.known c.named_id-start.result c.up.id c.parent_after-id.result up.0 i.climb.0 c.up.climbed c.insert.new.self put i.climb.1 up.1 up.2, (omega (arith, c.parent_after-id.ensures.looks.1.0, i.climb.2.0), omega (arith, c.parent_after-id.ensures.looks.1.1, i.climb.2.1)));
      found = up.3;
      known = i.known;
      first = i.first;
    }

pub returns-clause-climbed : goal.returns-clause-climbed
returns-clause-climbed g c =
    let i = c.up.invariant in
    all_climbed_to i.known i.first c.up.climbed i.others i.climb.1 (known_reached i.known c.up.id (c.up-test.ensures.known refl))

pub returns-clause-way : goal.returns-clause-way
returns-clause-way g c =
    let i = c.up.invariant in
    (i.climb.0, climbed_from i.known i.first c.up.climbed i.others i.climb.1 (known_reached i.known c.up.id (c.up-test.ensures.known refl)), i.climb.2)
