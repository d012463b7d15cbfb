use Rattle.std.proofs.Common.{rules, ◌∙◌, slice_index_or, sym, arith}
use Rattle.std.specs.Prelude.{IsSome}
use Rattle.std.proofs.lemmas.Option.{slice_get-get_or}
use Rattle.model.specs.declared.FullNodeId.{FullNodeId}
use Rattle.model.proofs.State.StatePlaces.{value_of}
use Rattle.tree_plan.proofs.MoveSteps.{moved_next, moved_all}
use Rattle.tree_plan.proofs.moves.have_moved.Goals as goal

-- what a read past the end would give
abbrev nothing : FullNodeId × FullNodeId
nothing = (record { tree = 0; node = record { 0 = 0 } }, record { tree = 0; node = record { 0 = 0 } })

pub loop-item-init : goal.loop-item-init
loop-item-init c = λ k e below at. absurd (omega (arith, below))

pub loop-item-preserved : goal.loop-item-preserved
loop-item-preserved c =
    let left = c.args.left.now in
    let k = c.loop-item.item-index in
    let there : IsSome c.place_of.result = search rules in
    let f = value_of c.place_of.result there in
    moved_next c.args.rows.now left k (slice_index_or left k nothing) f.0 (slice_get-get_or left k nothing c.loop-item-test.true) (sym c.place_of.ensures ∙ f.1) c.loop-item.invariant

pub returns : goal.returns
returns c = λ _. moved_all c.args.rows.now c.args.left.now c.loop-item.item-index (omega (arith, c.loop-item-test.false)) c.loop-item.invariant
