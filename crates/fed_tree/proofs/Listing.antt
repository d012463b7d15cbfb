-- What a walk over listed nodes has given once it gives nothing more.
use Rattle.std.proofs.Common.{◌≡◌, List, [], ◌∷◌, map, refl, sym, ap, ◌∙◌}
use Rattle.std.specs.Prelude.{Option, None}
use Rattle.std.specs.Iterator.{Yields, Drains, YieldsFirstBy}
use Rattle.model.specs.declared.FullNodeId.{FullNodeId}
use Rattle.model.specs.World.{World}
use Rattle.views.specs.declared.node.node_ref.NodeRef.{NodeRef}
use Rattle.views.specs.Nodes.{id_at}
use Rattle.views.specs.PlainWalks.{node_in, node_of}

module _ {S : Type 0} (left : S → List (World × FullNodeId)) where
  abbrev Gives : S → Option NodeRef → S → Type 0
  Gives = YieldsFirstBy node_of left

  ids_in : List (World × FullNodeId) → List FullNodeId
  ids_in = map (λ (p : World × FullNodeId). p.1)

  -- it gives what it had left
  gives_left : (s : S) (nodes : List NodeRef) (t u : S) → Yields Gives s nodes t → Gives t None u → map id_at nodes ≡ ids_in (left s)
  unfolding ids_in
  gives_left s [] t u is last = sym (ap (λ (j : S). ids_in (left j)) is ∙ ap ids_in last.0)
  gives_left s (n ∷ nodes) t u (j, step, others) last = ap (λ ids. id_at n ∷ ids) (gives_left j nodes t u others last) ∙ sym (ap ids_in step)

  bare : (w : World) (ids : List FullNodeId) → ids_in (map (node_in w) ids) ≡ ids
  unfolding ids_in
  bare w [] = refl
  bare w (id ∷ ids) = ap (λ rest. id ∷ rest) (bare w ids)

  -- and one that has the nodes of a world with these ids left gives these
  pub gives_listed : (w : World) (ids : List FullNodeId) (s : S) (nodes : List NodeRef) → left s ≡ map (node_in w) ids → Drains Gives s nodes → map id_at nodes ≡ ids
  gives_listed w ids s nodes is (u, (t, yielded, last)) = gives_left s nodes t u yielded last ∙ ap ids_in is ∙ bare w ids
