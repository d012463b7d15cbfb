use Rattle.std.proofs.Common.{rules, ◌≡◌, ◌∷◌, [], Some, cond, ap, subst, sym, ◌∙◌}
use Rattle.std.specs.BTreeMap.{get, is_at}
use Rattle.model.specs.declared.FullNodeId.{FullNodeId}
use Rattle.model.specs.Forest.{IsFormed}
use Rattle.model.specs.FullIds.{full_cmp}
use Rattle.model.specs.Lists.{ancestors}
use Rattle.model.specs.World.{World}
use Rattle.views.specs.Nodes.{world_at, id_at}
use Rattle.speaking.specs.Above.{above_of}
use Rattle.speaking.proofs.Steps.{known_more}
use Rattle.speaking.proofs.Ways.{leads_down, leads_back}
use Rattle.speaking.proofs.above.descend.Goals as goal

pub loop-next-preserved : goal.loop-next-preserved
loop-next-preserved c = λ way top right.
    let w = world_at c.args.node in
    let n = c.in-Some.next in
    let at = c.loop-next.parent in
    let above = c.of_child-above.result in
    let h = c.loop-next.invariant way top right in
    let formed = subst IsFormed c.tree_state.ensures c.know.ensures.formed in
    let down = leads_down w formed (id_at c.args.node) c.loop-next.left.items c.pop.new.self.items n at c.in-Some.ensures.items h.0 in
    let same : world_at at ≡ world_at n = h.0.world ∙ sym down.0 in
    let up = subst (λ (v : World). ancestors v (id_at n) ≡ id_at at ∷ ancestors v (id_at at)) (sym down.0) down.1 in
    let known = subst (λ (v : World). c.loop-next.above ≡ above_of v (id_at at)) (sym down.0) h.1 in
    let is : above ≡ above_of w (id_at n) = subst (λ (v : World). above ≡ above_of v (id_at n)) down.0 (c.of_child-above.ensures same up known) in
    let put = subst (λ (k : FullNodeId). (q : FullNodeId) → get full_cmp c.insert.new.self q ≡ cond (is_at (full_cmp k) q) (Some above) (get full_cmp c.loop-next.known q)) c.id.ensures c.in_ok-insert.ensures.updates.0 in
    (down.2, is, known_more w c.loop-next.known c.insert.new.self (id_at n) above put is h.2)

pub returns : goal.returns
returns c = λ way top right.
    let w = world_at c.args.node in
    let at = c.loop-next.parent in
    let h = c.loop-next.invariant way top right in
    let formed = subst IsFormed c.tree_state.ensures c.know.ensures.formed in
    let empty : c.loop-next.left.items ≡ [] = search rules in
    (h.1 ∙ ap (above_of w) (leads_back w formed (id_at c.args.node) c.loop-next.left.items at empty h.0), h.2)
