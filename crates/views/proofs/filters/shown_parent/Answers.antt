use Rattle.std.proofs.Common.{◌∙◌, sym}
use Rattle.views.specs.Nodes.{world_at, id_at}
use Rattle.views.proofs.Filtering.{shown_found, shown_above, parent_is_seen}
use Rattle.views.proofs.filters.shown_parent.Goals as goal

pub returns-then-not-is_passed-clause-node : goal.returns-then-not-is_passed-clause-node
returns-then-not-is_passed-clause-node c =
    sym (shown_found (world_at c.args.node) c.know.ensures.formed c.args.focused c.requires.focus c.loop-parent.current c.in-Some.parent c.loop-parent.invariant.world c.in-Some.ensures.world c.in-Some.ensures.node
    c.is_passed.result c.is_passed.ensures c.loop-parent.invariant.meets c.if-not-is_passed.true)
    ∙ c.loop-parent.invariant.sought

pub loop-parent-preserved : goal.loop-parent-preserved
loop-parent-preserved c =
    let way = c.loop-parent.invariant in
    record {
      world = c.in-Some.ensures.world ∙ way.world;
      meets = parent_is_seen (world_at c.args.node) c.know.ensures.formed (world_at c.loop-parent.current) way.world (id_at c.loop-parent.current) (id_at c.in-Some.parent) c.in-Some.ensures.node way.meets;
      sought = sym (shown_above (world_at c.args.node) c.know.ensures.formed c.args.focused c.requires.focus c.loop-parent.current c.in-Some.parent c.loop-parent.invariant.world c.in-Some.ensures.world c.in-Some.ensures.node
          c.is_passed.result c.is_passed.ensures c.loop-parent.invariant.meets c.if-not-is_passed.false) ∙ way.sought;
    }
