use Rattle.std.proofs.Common.{◌≡◌, Some, sym, ap, subst, ◌∙◌}
use Rattle.std.specs.List.{list_any}
use Rattle.model.specs.World.{World, root_of}
use Rattle.views.specs.Nodes.{id_at}
use Rattle.views.specs.ShownWorlds.{world_of}
use Rattle.page_states.specs.Places.{AreNodes, from_node, from_root, is_password_at, shown_nodes}
use Rattle.page_states.proofs.Opened.{open_unless}
use Rattle.page_states.proofs.places.places.Goals as goal

pub places_of-requires-clause-open : goal.places_of-requires-clause-open
places_of-requires-clause-open c =
    let w = world_of c.args.state in
    let r = id_at c.root.result in
    let nodes = c.in_ok-nodes.nodes.items in
    let root : root_of w 0 ≡ Some r = c.root.ensures.node in
    let below : AreNodes w (from_node w r) nodes = subst (λ (v : World). AreNodes v (from_node v r) nodes) c.root.ensures.world c.in_ok-nodes.ensures in
    let all : AreNodes w (shown_nodes w) nodes = subst (λ ids. AreNodes w ids nodes) (sym (ap (from_root w) root)) below in
    open_unless w c.know.ensures.state r root nodes c.has_password-has_one.result all (c.has_password-has_one.ensures ∙ ap (list_any is_password_at) c.deref.ensures.value)
