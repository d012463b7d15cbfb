use Rattle.std.proofs.Common.{rules, ◌≡◌, ◌≢◌, Some, None, length, slice_index_or, ⊎_elim, refl, sym, ap, subst, arith}
use Rattle.model.specs.declared.FullNodeId.{FullNodeId}
use Rattle.tree_changes.specs.declared.decision.NodeChange.{NodeChange}
use Rattle.tree_changes.specs.declared.decision.NodeChange.TheVariants.{Put}
use Rattle.tree_plan.specs.Passes.{at}
use Rattle.tree_plan.proofs.IdMaps.{none_or_some, none_done, done_step, done_all, read_step}
use Rattle.tree_plan.proofs.moves.change_of.Goals as goal

-- what a read past the end would give
abbrev nothing : FullNodeId × NodeChange
nothing = (record { tree = 0; node = record { 0 = 0 } }, Put None None)

pub loop-row-init : goal.loop-row-init
loop-row-init c = none_done c.args.rows.now (λ id x. id ≢ c.args.id)

pub loop-row-preserved : goal.loop-row-preserved
loop-row-preserved c =
    let k = c.loop-row.row-index in
    let e = slice_index_or c.entries-row-items.result.now k nothing in
    let other : e.0 ≢ c.args.id = search rules in
    done_step c.args.rows.now (λ id x. id ≢ c.args.id) c.entries-row-items.result.now c.entries-row-items.ensures.all k nothing c.loop-row-test.true c.loop-row.invariant other

pub returns-then-eq : goal.returns-then-eq
returns-then-eq c =
    let k = c.loop-row.row-index in
    let e = slice_index_or c.entries-row-items.result.now k nothing in
    let same : e.0 ≡ c.args.id = search rules in
    sym (subst (λ x. at c.args.rows.now x ≡ Some e.1) same (read_step c.args.rows.now c.entries-row-items.ensures.ascends c.entries-row-items.result.now c.entries-row-items.ensures.all k nothing c.loop-row-test.true))

pub returns : goal.returns
returns c =
    let same : length c.entries-row-items.result.now ≡ length c.args.rows.now = ap length c.entries-row-items.ensures.all in
    ⊎_elim
    (λ none. sym none)
    (λ some. absurd (done_all c.args.rows.now (λ id x. id ≢ c.args.id) c.loop-row.row-index (omega (arith, c.loop-row-test.false)) c.loop-row.invariant c.args.id some.0 some.1 refl))
    (none_or_some (at c.args.rows.now c.args.id))
