use Rattle.std.proofs.Common.{◌∙◌, sym, refl}
use Rattle.std.proofs.lemmas.Fn.{says_at}
use Rattle.views.specs.Nodes.{world_at, id_at}
use Rattle.views.proofs.Climbing.{upward_finds, upward_goes_on, upward_ends}
use Rattle.views.proofs.node.node_ref.NodeRef.nearest.Goals as goal

pub returns-then-test-clause-node : goal.returns-then-test-clause-node
returns-then-test-clause-node g c = λ p tests.
    let n = c.loop-current.current in
    let passes = tests.at n.node.now c.test.result (says_at g.F.Fn c.test.ensures refl) in
    sym (upward_finds p (world_at c.args.self) n c.loop-current.invariant.world (sym passes ∙ c.if-test.true)) ∙ c.loop-current.invariant.sought p tests

pub returns-in_default-clause-node : goal.returns-in_default-clause-node
returns-in_default-clause-node g c = λ p tests.
    let n = c.loop-current.current in
    let fails = tests.at n.node.now c.test.result (says_at g.F.Fn c.test.ensures refl) in
    sym (upward_ends (world_at c.args.self) c.know.ensures.formed p n c.loop-current.invariant.world (sym fails ∙ c.if-test.false) c.in_default.ensures.node) ∙ c.loop-current.invariant.sought p tests

pub loop-current-preserved : goal.loop-current-preserved
loop-current-preserved g c =
    let n = c.loop-current.current in
    record {
      world = c.in-Some.ensures.world ∙ c.loop-current.invariant.world;
      sought = λ p tests.
          let fails = tests.at n.node.now c.test.result (says_at g.F.Fn c.test.ensures refl) in
          sym (upward_goes_on (world_at c.args.self) c.know.ensures.formed p n c.loop-current.invariant.world (sym fails ∙ c.if-test.false) (id_at c.in-Some.parent) c.in-Some.ensures.node) ∙ c.loop-current.invariant.sought p tests;
    }
