-- Walks over all that is below a node.
use Rattle.std.proofs.Common.{◌≡◌, List, ◌∷◌, ◌++◌, [], map, sym, ◌∙◌, ap}
use Rattle.std.specs.Prelude.{Option, Some, None}
use Rattle.std.specs.Iterator.{YieldsFirstBy, YieldsLastBy}
use Rattle.std.proofs.lemmas.List.{map-append}
use Rattle.model.specs.declared.FullNodeId.{FullNodeId}
use Rattle.model.specs.declared.filters.FilterResult.{FilterResult}
use Rattle.model.specs.declared.filters.FilterResult.TheVariants.{Include}
use Rattle.model.specs.World.{World}
use Rattle.views.specs.declared.node.node_ref.NodeRef.{NodeRef}
use Rattle.views.specs.declared.walks.course.Course.{Course}
use Rattle.views.specs.Nodes.{id_at}
use Rattle.views.specs.Follows.{Follows}
use Rattle.views.specs.PlainWalks.{node_in, node_of}
use Rattle.views.specs.Walks.{walked_world, WalksOn}
use Rattle.views.specs.Descendants.{descendants, filtered_descendants}
use Rattle.views.specs.Descents.{IsOnDescent, descent_left, TakesFirst, TakesLast, BeginsDescent}
use Rattle.views.proofs.Descending.{all_included}

-- each node is included
abbrev each : FullNodeId → FilterResult
each id = Include

abbrev answers : NodeRef → FilterResult → Type 0
answers n r = r ≡ Include

follows_each : (w : World) → Follows answers w each
follows_each w = record { at = λ n r same said. said }

abbrev nodes_left : Course → List (World × FullNodeId)
nodes_left c = map (node_in (walked_world c)) (descent_left each c)

module _ (w : World) (id : FullNodeId) (c : Course) (begins : BeginsDescent answers w (λ f. filtered_descendants f w id) c) where
  pub begins_on : IsOnDescent each c
  begins_on = (begins.list each (follows_each w)).0

  pub begins_with : nodes_left c ≡ map (node_in w) (descendants w id)
  begins_with = ap (λ v. map (node_in v) (descent_left each c)) begins.world ∙ ap (map (node_in w)) ((begins.list each (follows_each w)).1 ∙ all_included w id)

module _ (s t : Course) where
  nodes_first : (r : Option NodeRef) → WalksOn s r t → YieldsFirstBy id_at (descent_left each) s r t → YieldsFirstBy node_of nodes_left s r t
  nodes_first None goes ids = (ap (map (node_in (walked_world s))) ids.0, ap (map (node_in (walked_world t))) ids.1)
  nodes_first (Some x) goes ids =
      ap (map (node_in (walked_world s))) ids ∙ ap (λ w. (w, id_at x) ∷ map (node_in (walked_world s)) (descent_left each t)) (sym goes.item)
      ∙ ap (λ w. node_of x ∷ map (node_in w) (descent_left each t)) (sym goes.world)

  nodes_last : (r : Option NodeRef) → WalksOn s r t → YieldsLastBy id_at (descent_left each) s r t → YieldsLastBy node_of nodes_left s r t
  nodes_last None goes ids = (ap (map (node_in (walked_world s))) ids.0, ap (map (node_in (walked_world t))) ids.1)
  nodes_last (Some x) goes ids =
      ap (map (node_in (walked_world s))) ids ∙ map-append (node_in (walked_world s)) (descent_left each t) (id_at x ∷ [])
      ∙ ap (λ w. map (node_in (walked_world s)) (descent_left each t) ++ (w, id_at x) ∷ []) (sym goes.item) ∙ ap (λ w. map (node_in w) (descent_left each t) ++ node_of x ∷ []) (sym goes.world)

module _ (s t : Course) (r : Option NodeRef) (on : IsOnDescent each s) where
  pub first_stays : TakesFirst answers s r t → IsOnDescent each t
  first_stays steps = (steps.list each (follows_each (walked_world s)) on).0

  pub last_stays : TakesLast answers s r t → IsOnDescent each t
  last_stays steps = (steps.list each (follows_each (walked_world s)) on).0

  pub first_given : TakesFirst answers s r t → YieldsFirstBy node_of nodes_left s r t
  first_given steps = nodes_first s t r steps.goes (steps.list each (follows_each (walked_world s)) on).1

  pub last_given : TakesLast answers s r t → YieldsLastBy node_of nodes_left s r t
  last_given steps = nodes_last s t r steps.goes (steps.list each (follows_each (walked_world s)) on).1
