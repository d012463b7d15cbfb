use Rattle.model.specs.World.{children}
use Rattle.views.specs.Nodes.{world_at, id_at}
use Rattle.views.specs.PlainWalks.{children_left}
use Rattle.page_states.proofs.Viewed.{first_viewed}
use Rattle.page_states.proofs.drawn.first_child.Goals as goal

pub returns : goal.returns
returns c =
    let w = world_at c.args.node in
    first_viewed w (children w (id_at c.args.node)) (children_left c.children-children.result) (children_left c.next.new.self) c.next.result c.children-children.ensures c.next.ensures.steps
