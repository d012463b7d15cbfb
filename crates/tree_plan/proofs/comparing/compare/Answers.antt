use Rattle.std.proofs.Common.{◌≡◌, length, refl, ap, subst, ◌∙◌, arith}
use Rattle.schema.specs.UpdateData.{UpdateData, update_data}
use Rattle.model.specs.World.{World, in_tree}
use Rattle.tree_changes.specs.Refusals.{IsRefusal}
use Rattle.tree_plan.specs.Comparisons.{AreCompared}
use Rattle.tree_plan.proofs.IdMaps.{read_at}
use Rattle.tree_plan.proofs.Taking.{IsTurn}
use Rattle.tree_plan.proofs.NamedNodes.{named_once, compared_none, compared_all, turn_known, turn_compared, turn_refused, twice_refused}
use Rattle.tree_plan.proofs.Passing.{passed_on}
use Rattle.tree_plan.proofs.comparing.compare.Given as given
use Rattle.tree_plan.proofs.comparing.compare.Goals as goal
use Rattle.tree_plan.proofs.comparing.compare.Goals.{After-full_id-id}

-- the entry of a turn, and the node that it names
turn : (g : given.Over) (c : After-full_id-id g) → IsTurn (g.L.LookUps.world c.args.look_ups.now) (update_data c.args.update.now) c.loop-entry.entry c.item-item.result c.full_id-id.result
turn g c = record {
  at = read_at c.deref-item-items.result.now _ c.deref-item-items.ensures.value c.loop-entry.entry _ c.loop-entry-test.true c.item-item.is;
  names = c.full_id-id.ensures ∙ ap (λ i. in_tree i c.item-item.result.0) c.requires.opened.index;
}

pub loop-entry-init : goal.loop-entry-init
loop-entry-init g c =
    let w : World = g.L.LookUps.world c.args.look_ups.now in
    let u : UpdateData = update_data c.args.update.now in
    record {
      world = refl;
      count = (omega arith, omega arith);
      once = named_once w u c.requires.old c.args.opened.now c.requires.opened c.in_ok-named.named c.in_ok-named.ensures.ok;
      compared = compared_none w u c.requires.old c.args.opened.now c.requires.opened c.in_ok-named.named c.in_ok-named.ensures.ok c.in_ok-comparing.comparing c.in_ok-comparing.ensures.ok;
    }

pub compare_node-requires : goal.compare_node-requires
compare_node-requires g c =
    let i = c.loop-entry.invariant in
    record { there = turn_known c.requires.old i.once (turn g (goal.at.compare_node-requires g c).After-full_id-id) c.loop-entry.comparing i.compared }

pub loop-entry-preserved : goal.loop-entry-preserved
loop-entry-preserved g c =
    let i = c.loop-entry.invariant in
    let counted = c.in_ok-compare_node.ensures.count in
    record {
      world = c.compare_node.ensures.world ∙ i.world;
      count = (omega (arith, i.count.0, counted.0), omega (arith, i.count.1, counted.1));
      once = i.once;
      compared = turn_compared c.requires.old i.once (turn g (goal.at.loop-entry-preserved g c).After-full_id-id) c.loop-entry.comparing i.compared _ i.world c.compare_node.new.self c.in_ok-compare_node.ensures.ok;
    }

pub returns-in_err-compare_node-clause-err : goal.returns-in_err-compare_node-clause-err
returns-in_err-compare_node-clause-err g c =
    let i = c.loop-entry.invariant in
    passed_on (λ e. IsRefusal (g.L.LookUps.world c.args.look_ups.now) (update_data c.args.update.now) e) c.from_residual-in_err-compare_node.result c.in_err-compare_node.field-0.0 c.from_residual-in_err-compare_node.ensures.1
    (turn_refused c.requires.old i.once (turn g (goal.at.returns-in_err-compare_node-clause-err g c).After-full_id-id) c.loop-entry.comparing i.compared c.in_err-compare_node.field-0.0 c.in_err-compare_node.ensures.err)

-- the loop has gone over all entries
pub returns-clause-ok : goal.returns-clause-ok
returns-clause-ok g c =
    let w : World = g.L.LookUps.world c.args.look_ups.now in
    let u : UpdateData = update_data c.args.update.now in
    let items : length c.deref-item-items.result.now ≡ length u.nodes = ap length c.deref-item-items.ensures.value in
    let all : c.loop-entry.entry ≡ length u.nodes = omega arith in
    compared_all w u c.requires.old c.loop-entry.comparing (subst (λ k. AreCompared w u k c.loop-entry.comparing) all c.loop-entry.invariant.compared) c.requires.opened.opened c.loop-entry.invariant.once c.in_ok-compared.compared c.in_ok-compared.ensures.ok

pub returns-in_err-compared-clause-err : goal.returns-in_err-compared-clause-err
returns-in_err-compared-clause-err g c =
    let w : World = g.L.LookUps.world c.args.look_ups.now in
    let u : UpdateData = update_data c.args.update.now in
    let items : length c.deref-item-items.result.now ≡ length u.nodes = ap length c.deref-item-items.ensures.value in
    let all : c.loop-entry.entry ≡ length u.nodes = omega arith in
    passed_on (λ e. IsRefusal w u e) c.from_residual-in_err-compared.result c.in_err-compared.field-0.0 c.from_residual-in_err-compared.ensures.1
    (twice_refused w u c.requires.old c.loop-entry.comparing (subst (λ k. AreCompared w u k c.loop-entry.comparing) all c.loop-entry.invariant.compared) c.in_err-compared.field-0.0 c.in_err-compared.ensures.err)
