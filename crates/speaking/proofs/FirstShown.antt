-- What a walk over what a filter shows gives first.
use Rattle.std.proofs.Common.{◌≡◌, List, Option, Some, None, option_map, slice_get, sym, ap, subst, ◌∙◌}
use Rattle.std.specs.Iterator.{YieldsFirstBy}
use Rattle.model.specs.declared.FullNodeId.{FullNodeId}
use Rattle.model.specs.declared.filters.FilterResult.{FilterResult}
use Rattle.model.specs.World.{World}
use Rattle.views.specs.declared.node.node_ref.NodeRef.{NodeRef}
use Rattle.views.specs.declared.walks.filter.ByFn.{ByFn}
use Rattle.views.specs.Nodes.{id_at}
use Rattle.views.specs.Follows.{Follows}
use Rattle.views.specs.Walks.{walked_world}
use Rattle.views.specs.FilteredWalks.{WalkOf, BeginsWalk, GivesFirst}

module _ {S K : Type 0} (says : K → NodeRef → FilterResult → Type 0) (walk : WalkOf S (ByFn K)) (k : K) (w : World) (f : FullNodeId → FilterResult) (follows : Follows (says k) w f) where
  first_left : (s : S) (r : Option NodeRef) (t : S) → YieldsFirstBy id_at (walk.left f) s r t → option_map id_at r ≡ slice_get (walk.left f s) 0
  first_left s None t h = sym (ap (λ ids. slice_get ids 0) h.0)
  first_left s (Some x) t h = sym (ap (λ ids. slice_get ids 0) h)

  -- it is the first of all
  pub gives_first : (ids : (FullNodeId → FilterResult) → List FullNodeId) (s : S) (r : Option NodeRef) (t : S) → (walk.filter s).f ≡ k → BeginsWalk (says k) walk w ids s →
      GivesFirst (λ filter. says filter.f) walk s r t → option_map id_at r ≡ slice_get (ids f) 0
  gives_first ids s r t same begins gives =
      let follows_here : Follows (says (walk.filter s).f) (walked_world (walk.course s)) f =
      subst (λ x. Follows (says x) (walked_world (walk.course s)) f) (sym same) (subst (λ v. Follows (says k) v f) (sym begins.world) follows) in
      let start = begins.list f follows in
      first_left s r t (gives.list f follows_here start.0).1 ∙ ap (λ l. slice_get l 0) start.1
