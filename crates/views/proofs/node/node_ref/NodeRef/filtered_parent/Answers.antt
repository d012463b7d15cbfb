use Rattle.std.proofs.Common.{◌∙◌, sym, refl}
use Rattle.std.proofs.lemmas.Fn.{says_at}
use Rattle.model.specs.Covers.{is_included}
use Rattle.views.specs.Nodes.{world_at, id_at}
use Rattle.views.proofs.Climbing.{climb_finds, climb_finds_above, climb_goes_on, climb_stays_above}
use Rattle.views.proofs.Following.{says_included}
use Rattle.views.proofs.node.node_ref.NodeRef.filtered_parent.Goals as goal

pub returns-then-is_included : goal.returns-then-is_included
returns-then-is_included g c =
    let n = c.loop-parent.current in
    let q = c.in-Some.parent in
    record {
      world = c.in-Some.ensures.world ∙ c.loop-parent.invariant.world;
      above = c.loop-parent.invariant.above (id_at q) (climb_finds_above (world_at c.args.self.now) c.know.ensures.formed (world_at n) c.loop-parent.invariant.world (λ a. is_included c.filter.result) (id_at n) (id_at q) c.in-Some.ensures.node);
      node = λ f follows.
          sym (climb_finds (world_at c.args.self.now) c.know.ensures.formed (world_at n) c.loop-parent.invariant.world (λ a. is_included (f a)) (id_at n) (id_at q) c.in-Some.ensures.node
          (says_included follows q c.filter.result (c.in-Some.ensures.world ∙ c.loop-parent.invariant.world) (says_at g.F.Fn c.filter.ensures refl) ∙ sym c.is_included.ensures ∙ c.if-is_included.true))
          ∙ c.loop-parent.invariant.sought f follows;
    }

pub loop-parent-preserved : goal.loop-parent-preserved
loop-parent-preserved g c = record {
  world = c.in-Some.ensures.world ∙ c.loop-parent.invariant.world;
  above = λ a m.
      c.loop-parent.invariant.above a
      (climb_stays_above (world_at c.args.self.now) c.know.ensures.formed (world_at c.loop-parent.current) c.loop-parent.invariant.world (λ a. is_included c.filter.result) (id_at c.loop-parent.current) (id_at c.in-Some.parent) c.in-Some.ensures.node a m);
  sought = λ f follows.
      sym (climb_goes_on (world_at c.args.self.now) c.know.ensures.formed (world_at c.loop-parent.current) c.loop-parent.invariant.world (λ a. is_included (f a)) (id_at c.loop-parent.current) (id_at c.in-Some.parent) c.in-Some.ensures.node
      (says_included follows c.in-Some.parent c.filter.result (c.in-Some.ensures.world ∙ c.loop-parent.invariant.world) (says_at g.F.Fn c.filter.ensures refl) ∙ sym c.is_included.ensures ∙ c.if-is_included.false))
      ∙ c.loop-parent.invariant.sought f follows;
}
