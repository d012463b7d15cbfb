use Rattle.std.proofs.Common.{ℕ, ◌≡◌, ◌∷◌, List, [], zero, suc, slice_set, map, Some, refl, ap, sym, ◌∙◌}
use Rattle.schema.specs.NodeData.{NodeData}
use Rattle.schema.specs.declared.NodeId.{NodeId}
use Rattle.tree_store.proofs.cell_list.put_listed.Goals as goal

same_some : (a b : NodeData) → Some a ≡ Some b → a ≡ b
same_some a b e = cc

mapped : (xs : List (NodeId × NodeData)) (n : ℕ) (e : NodeId × NodeData) → map (λ e. e.1) (slice_set xs n e) ≡ slice_set (map (λ e. e.1) xs) n e.1
mapped [] zero e = refl
mapped [] (suc n) e = refl
mapped (x ∷ xs) zero e = refl
mapped (x ∷ xs) (suc n) e = ap (λ l. x.1 ∷ l) (mapped xs n e)

pub returns-clause-listed : goal.returns-clause-listed
returns-clause-listed c d is =
    mapped c.args.listed.now.items c.args.number (c.index_mut.result.now.0, c.exchange.new.node)
    ∙ ap (slice_set (map (λ (e : NodeId × NodeData). e.1) c.args.listed.now.items) c.args.number) (same_some c.exchange.new.node d (sym c.exchange.ensures.node ∙ is))
