-- What a query's walk has given once it gives nothing more.
use Rattle.std.proofs.Common.{◌≡◌, List}
use Rattle.std.specs.Iterator.{Drains}
use Rattle.model.specs.declared.FullNodeId.{FullNodeId}
use Rattle.model.specs.declared.filters.FilterResult.{FilterResult}
use Rattle.model.specs.World.{World}
use Rattle.views.specs.declared.node.node_ref.NodeRef.{NodeRef}
use Rattle.views.specs.declared.walks.filter.ByFn.{ByFn}
use Rattle.views.specs.FilteredWalks.{WalkOf, BeginsWalk, GivesFirst}
use Rattle.views.proofs.Drained.{all_in_world, gives_all}
use Rattle.queries.specs.Found.{AreShown}

-- a walk that begins in the world w gives all that its function shows there
module _ {S K : Type 0} (says : K → NodeRef → FilterResult → Type 0) (walk : WalkOf S (ByFn K)) (k : K) (w : World) where
  pub gives_shown : (ids : (FullNodeId → FilterResult) → List FullNodeId) (s : S) (nodes : List NodeRef) → (walk.filter s).f ≡ k → BeginsWalk (says k) walk w ids s → Drains (GivesFirst (λ filter. says filter.f) walk) s nodes → AreShown (says k) w ids nodes
  gives_shown ids s nodes same begins drained = record {
    world = all_in_world says walk k w ids s nodes begins drained;
    list = λ f follows. gives_all says walk k w f follows ids s nodes same begins drained;
  }

-- what is shown by answers is shown by those that they imply
pub shown_by : {told meant : NodeRef → FilterResult → Type 0} (w : World) (ids : (FullNodeId → FilterResult) → List FullNodeId) (nodes : List NodeRef) → ((n : NodeRef) (r : FilterResult) → told n r → meant n r) → AreShown told w ids nodes → AreShown meant w ids nodes
shown_by w ids nodes implied shown = record {
  world = shown.world;
  list = λ f follows. shown.list f (record { at = λ n r here said. follows.at n r here (implied n r said) });
}
