-- Frontiers and pre-orders by the children of a node.
use Rattle.std.proofs.Common.{◌≡◌, List, [], ◌∷◌, ◌++◌, refl, sym, ◌∙◌, ap, append_assoc}
use Rattle.std.specs.Prelude.{flat_map}
use Rattle.model.specs.declared.FullNodeId.{FullNodeId}
use Rattle.model.specs.declared.filters.FilterResult.{FilterResult}
use Rattle.model.specs.World.{World, children}
use Rattle.model.specs.Forest.{Forest, plant, below, IsFormed}
use Rattle.model.specs.Lists.{nodes_of, preorder}
use Rattle.model.specs.Frontier.{shown_part, frontier, filtered_children}
use Rattle.model.proofs.Forest.Grown.{below_is}

pub frontier-plant : (f : FullNodeId → FilterResult) (sub : FullNodeId → Forest) (xs ys : List FullNodeId) → frontier f (plant sub (xs ++ ys)) ≡ frontier f (plant sub xs) ++ frontier f (plant sub ys)
frontier-plant f sub [] ys = refl
frontier-plant f sub (x ∷ xs) ys = ap (λ (t : List FullNodeId). shown_part (f x) x (frontier f (sub x)) ++ t) (frontier-plant f sub xs ys) ∙ sym (append_assoc (shown_part (f x) x (frontier f (sub x))) _ _)

frontier_each : (f : FullNodeId → FilterResult) (sub : FullNodeId → Forest) (cs : List FullNodeId) → frontier f (plant sub cs) ≡ flat_map (λ c. shown_part (f c) c (frontier f (sub c))) cs
frontier_each f sub [] = refl
frontier_each f sub (c ∷ cs) = ap (λ xs. shown_part (f c) c (frontier f (sub c)) ++ xs) (frontier_each f sub cs)

pub frontier_is : (f : FullNodeId → FilterResult) (w : World) → IsFormed w → (id : FullNodeId) → filtered_children f w id ≡ flat_map (λ c. shown_part (f c) c (filtered_children f w c)) (children w id)
frontier_is f w formed id = ap (frontier f) (below_is w formed id) ∙ frontier_each f (below w) (children w id)

nodes_each : (sub : FullNodeId → Forest) (cs : List FullNodeId) → nodes_of (plant sub cs) ≡ flat_map (λ c. c ∷ nodes_of (sub c)) cs
nodes_each sub [] = refl
nodes_each sub (c ∷ cs) = ap (λ xs. c ∷ nodes_of (sub c) ++ xs) (nodes_each sub cs)

pub preorder_is : (w : World) → IsFormed w → (id : FullNodeId) → preorder w id ≡ id ∷ flat_map (preorder w) (children w id)
preorder_is w formed id = ap (λ xs. id ∷ xs) (ap nodes_of (below_is w formed id) ∙ nodes_each (below w) (children w id))
