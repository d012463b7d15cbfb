use Rattle.std.proofs.Common.{◌∙◌, sym, refl}
use Rattle.std.proofs.lemmas.Fn.{says_at}
use Rattle.views.specs.Nodes.{world_at, id_at}
use Rattle.views.proofs.Climbing.{climb_finds, climb_goes_on}
use Rattle.views.proofs.node.node_ref.NodeRef.nearest_ancestor.Goals as goal

pub returns-then-test-clause-node : goal.returns-then-test-clause-node
returns-then-test-clause-node g c = λ p tests.
    let w = world_at c.args.self in
    let parent = c.in-Some.parent in
    let passes = tests.at parent c.test.result (c.in-Some.ensures.world ∙ c.loop-parent.invariant.world) (says_at g.F.Fn c.test.ensures refl) in
    sym (climb_finds w c.know.ensures.formed (world_at c.loop-parent.current) c.loop-parent.invariant.world p (id_at c.loop-parent.current) (id_at parent) c.in-Some.ensures.node (sym passes ∙ c.if-test.true))
    ∙ c.loop-parent.invariant.sought p tests

pub loop-parent-preserved : goal.loop-parent-preserved
loop-parent-preserved g c =
    let w = world_at c.args.self in
    let parent = c.in-Some.parent in
    let same = c.in-Some.ensures.world ∙ c.loop-parent.invariant.world in
    record {
      world = same;
      sought = λ p tests.
          let passes = tests.at parent c.test.result same (says_at g.F.Fn c.test.ensures refl) in
          sym (climb_goes_on w c.know.ensures.formed (world_at c.loop-parent.current) c.loop-parent.invariant.world p (id_at c.loop-parent.current) (id_at parent) c.in-Some.ensures.node (sym passes ∙ c.if-test.false))
          ∙ c.loop-parent.invariant.sought p tests;
    }
