use Rattle.std.proofs.Common.{◌≡◌, sym, subst}
use Rattle.model.specs.Frontier.{filtered_children}
use Rattle.model.specs.Views.{item_filter}
use Rattle.views.specs.Nodes.{world_at, id_at}
use Rattle.views.specs.Walks.{IsOnCourse, ids_left}
use Rattle.views.proofs.ItemSteps.{follows_items}
use Rattle.views.proofs.walks.items.Items.new.Goals as goal

pub returns-clause-begins : goal.returns-clause-begins
returns-clause-begins g c =
    let w = world_at c.args.node in
    record {
      world = c.below.ensures.world;
      list = λ f follows.
          subst (λ v. IsOnCourse (item_filter f v) c.below.result × (ids_left (item_filter f v) c.below.result ≡ filtered_children (item_filter f w) w (id_at c.args.node)))
          (sym c.below.ensures.world) (c.below.ensures.list (item_filter f w) (follows_items follows));
    }
