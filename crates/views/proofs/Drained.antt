-- What a walk over what a filter shows has given once it gives nothing more.
use Rattle.std.proofs.Common.{◌≡◌, List, [], ◌∷◌, map, sym, ap, subst, ◌∙◌}
use Rattle.std.specs.Prelude.{All, Option, None}
use Rattle.std.specs.Iterator.{Yields, Drains}
use Rattle.std.proofs.lemmas.List.Elements.{All-nil, All-cons}
use Rattle.model.specs.declared.FullNodeId.{FullNodeId}
use Rattle.model.specs.declared.filters.FilterResult.{FilterResult}
use Rattle.model.specs.World.{World}
use Rattle.views.specs.declared.node.node_ref.NodeRef.{NodeRef}
use Rattle.views.specs.declared.walks.filter.ByFn.{ByFn}
use Rattle.views.specs.Nodes.{world_at, id_at}
use Rattle.views.specs.Follows.{Follows}
use Rattle.views.specs.Walks.{walked_world}
use Rattle.views.specs.FilteredWalks.{WalkOf, BeginsWalk, GivesFirst}

-- a walk in the world w with a function that answers there by says
module _ {S K : Type 0} (says : K → NodeRef → FilterResult → Type 0) (walk : WalkOf S (ByFn K)) (k : K) (w : World) where
  abbrev Gives : S → Option NodeRef → S → Type 0
  Gives = GivesFirst (λ filter. says filter.f) walk

  -- each node that it gives is one of that world
  in_world : (s : S) (nodes : List NodeRef) (t : S) → walked_world (walk.course s) ≡ w → Yields Gives s nodes t → All (λ n. world_at n ≡ w) nodes
  in_world s [] t here is = All-nil (λ n. world_at n ≡ w)
  in_world s (n ∷ nodes) t here (j, step, others) = All-cons (λ n. world_at n ≡ w) n nodes (step.goes.item ∙ here) (in_world j nodes t (step.goes.world ∙ here) others)

  module _ (f : FullNodeId → FilterResult) (follows : Follows (says k) w f) where
    follows_at : (s : S) → (walk.filter s).f ≡ k → walked_world (walk.course s) ≡ w → Follows (says (walk.filter s).f) (walked_world (walk.course s)) f
    follows_at s same here = subst (λ x. Follows (says x) (walked_world (walk.course s)) f) (sym same) (subst (λ v. Follows (says k) v f) (sym here) follows)

    -- it gives what it had left
    gives_left : (s : S) (nodes : List NodeRef) (t u : S) → (walk.filter s).f ≡ k → walked_world (walk.course s) ≡ w → walk.OnCourse f s → Yields Gives s nodes t → Gives t None u → map id_at nodes ≡ walk.left f s
    gives_left s [] t u same here on is last =
        let over = last.list f (follows_at t (ap (λ z. (walk.filter z).f) (sym is) ∙ same) (ap (λ z. walked_world (walk.course z)) (sym is) ∙ here)) (subst (walk.OnCourse f) is on) in
        sym over.1.0 ∙ ap (walk.left f) (sym is)
    gives_left s (n ∷ nodes) t u same here on (j, step, others) last =
        let next = step.list f (follows_at s same here) on in
        ap (λ ids. id_at n ∷ ids) (gives_left j nodes t u (ap (λ filter. filter.f) step.filter ∙ same) (step.goes.world ∙ here) next.0 others last) ∙ sym next.1

    -- and one that begins so gives all
    pub gives_all : (ids : (FullNodeId → FilterResult) → List FullNodeId) (s : S) (nodes : List NodeRef) → (walk.filter s).f ≡ k → BeginsWalk (says k) walk w ids s → Drains Gives s nodes → map id_at nodes ≡ ids f
    gives_all ids s nodes same begins (u, (t, yielded, last)) =
        let start = begins.list f follows in
        gives_left s nodes t u same begins.world start.0 yielded last ∙ start.1

  -- nodes of that world alone
  pub all_in_world : (ids : (FullNodeId → FilterResult) → List FullNodeId) (s : S) (nodes : List NodeRef) → BeginsWalk (says k) walk w ids s → Drains Gives s nodes → All (λ n. world_at n ≡ w) nodes
  all_in_world ids s nodes begins (u, (t, yielded, last)) = in_world s nodes t begins.world yielded
