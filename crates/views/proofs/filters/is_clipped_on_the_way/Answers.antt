use Rattle.std.proofs.Common.{◌≡◌, ◌∙◌, sym, subst, ap, false, Some, None}
use Rattle.model.specs.Filters.{is_hidden, is_clipped_by}
use Rattle.views.specs.Nodes.{world_at, id_at}
use Rattle.views.proofs.Filtering.{unsettled_is_seen, parent_is_seen, ends_passed, ends_clipped, ends_focused, goes_on, opens}
use Rattle.views.proofs.filters.is_clipped_on_the_way.Goals as goal

pub shown_parent-requires-clause-seen : goal.shown_parent-requires-clause-seen
shown_parent-requires-clause-seen c =
    let w = world_at c.args.node in
    let n = c.loop-parent.current in
    let q = c.in-Some.parent in
    subst (λ v. is_hidden v (id_at q) ≡ false) (sym (c.in-Some.ensures.world ∙ c.loop-parent.invariant.world))
    (parent_is_seen w c.know.ensures.formed (world_at n) c.loop-parent.invariant.world (id_at n) (id_at q) c.in-Some.ensures.node (unsettled_is_seen w (id_at n) c.loop-parent.invariant.meets))

pub returns-in_default-shown_parent : goal.returns-in_default-shown_parent
returns-in_default-shown_parent c =
    ends_passed (world_at c.args.node) c.know.ensures.formed c.args.focused c.requires.focus c.loop-parent.current c.in-Some.parent c.loop-parent.invariant.world c.in-Some.ensures.world c.in-Some.ensures.node
    c.is_passed.result c.is_passed.ensures c.loop-parent.invariant.meets c.if-is_passed.true None c.in_default-shown_parent.ensures.node
    ∙ c.loop-parent.invariant.sought

pub returns-then-is_passed : goal.returns-then-is_passed
returns-then-is_passed c =
    let frame = c.in-Some-shown_parent.frame in
    c.is_clipped_by.ensures
    ∙ ap (λ v. is_clipped_by v (id_at frame) (id_at c.loop-parent.current)) c.loop-parent.invariant.world
    ∙ ends_passed (world_at c.args.node) c.know.ensures.formed c.args.focused c.requires.focus c.loop-parent.current c.in-Some.parent c.loop-parent.invariant.world c.in-Some.ensures.world c.in-Some.ensures.node
    c.is_passed.result c.is_passed.ensures c.loop-parent.invariant.meets c.if-is_passed.true (Some (id_at frame)) c.in-Some-shown_parent.ensures.node
    ∙ c.loop-parent.invariant.sought

pub returns-then-is_clipped_by : goal.returns-then-is_clipped_by
returns-then-is_clipped_by c =
    ends_clipped (world_at c.args.node) c.know.ensures.formed c.args.focused c.requires.focus c.loop-parent.current c.in-Some.parent c.loop-parent.invariant.world c.in-Some.ensures.world c.in-Some.ensures.node
    c.is_passed.result c.is_passed.ensures c.loop-parent.invariant.meets c.if-is_passed.false c.is_clipped_by-in-Some.result c.is_clipped_by-in-Some.ensures c.if-is_clipped_by.true
    ∙ c.loop-parent.invariant.sought

pub returns-then-is_focused_one : goal.returns-then-is_focused_one
returns-then-is_focused_one c =
    ends_focused (world_at c.args.node) c.know.ensures.formed c.args.focused c.requires.focus c.loop-parent.current c.in-Some.parent c.loop-parent.invariant.world c.in-Some.ensures.world c.in-Some.ensures.node
    c.is_passed.result c.is_passed.ensures c.loop-parent.invariant.meets c.if-is_passed.false c.is_clipped_by-in-Some.result c.is_clipped_by-in-Some.ensures c.if-is_clipped_by.false
    (c.requires.focus.at (id_at c.in-Some.parent) ∙ sym c.is_focused_one.ensures ∙ c.if-is_focused_one.true)
    ∙ c.loop-parent.invariant.sought

pub loop-parent-preserved : goal.loop-parent-preserved
loop-parent-preserved c = record {
  world = c.in-Some.ensures.world ∙ c.loop-parent.invariant.world;
  meets = opens (world_at c.args.node) c.know.ensures.formed c.args.focused c.requires.focus c.loop-parent.current c.in-Some.parent c.loop-parent.invariant.world c.in-Some.ensures.world c.in-Some.ensures.node
      c.is_passed.result c.is_passed.ensures c.loop-parent.invariant.meets c.if-is_passed.false
      (c.requires.focus.at (id_at c.in-Some.parent) ∙ sym c.is_focused_one.ensures ∙ c.if-is_focused_one.false);
  sought = sym (goes_on (world_at c.args.node) c.know.ensures.formed c.args.focused c.requires.focus c.loop-parent.current c.in-Some.parent c.loop-parent.invariant.world c.in-Some.ensures.world c.in-Some.ensures.node
      c.is_passed.result c.is_passed.ensures c.loop-parent.invariant.meets c.if-is_passed.false c.is_clipped_by-in-Some.result c.is_clipped_by-in-Some.ensures c.if-is_clipped_by.false)
      ∙ c.loop-parent.invariant.sought;
}
