use Rattle.std.proofs.Common.{◌≡◌, ◌∷◌, [], ◌++◌, ap, subst, sym, ◌∙◌}
use Rattle.model.specs.Forest.{IsFormed}
use Rattle.views.specs.Nodes.{world_at, id_at}
use Rattle.speaking.specs.Above.{known_at, LeadsTo}
use Rattle.speaking.proofs.Ways.{leads_up}
use Rattle.speaking.proofs.above.climb.Goals as goal

pub returns-in-Some-get-clause-right : goal.returns-in-Some-get-clause-right
returns-in-Some-get-clause-right c = λ right.
    right (id_at c.loop-parent.current) c.in-Some-get.above.now (ap (known_at c.args.known.now) (sym c.id.ensures) ∙ sym c.in-Some-get.ensures.value)

pub loop-parent-preserved : goal.loop-parent-preserved
loop-parent-preserved c =
    let w = world_at c.args.node in
    let n = c.loop-parent.current in
    let q = c.in-Some.parent in
    let path = c.loop-parent.path.items in
    let formed = subst IsFormed c.tree_state.ensures c.know.ensures.formed in
    let whole : c.push.new.self.items ≡ path ++ n ∷ [] = c.in_ok-push.ensures.items in
    subst (λ xs. LeadsTo w (id_at c.args.node) xs q) (sym whole) (leads_up w formed (id_at c.args.node) path n q c.loop-parent.invariant c.in-Some.ensures.world c.in-Some.ensures.node)
