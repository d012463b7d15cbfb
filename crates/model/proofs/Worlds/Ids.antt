-- The order, the equality and the number of ids.
use Rattle.std.proofs.Common.{◌≡◌, ◌<◌, ◌^◌, ◌&&◌, eqb, eq-eqb, eqb-true, Equal, refl, true, ap, subst, arith}
use Rattle.std.proofs.lemmas.Bool.{and_parts, and_from}
use Rattle.std.proofs.lemmas.Cmp.{tied_itself}
use Rattle.model.specs.declared.FullNodeId.{FullNodeId}
use Rattle.model.specs.FullIds.{full_cmp, full_total, exact_full, full_number}
use Rattle.model.specs.IdLaws.{OrderIsByTreeThenNode, EqualIdsAreOne, EqualIdsHashAlike}
use Rattle.model.specs.contracts.FullNodeIdHash.TheImpl as hash

pub by_tree_then_node : OrderIsByTreeThenNode
by_tree_then_node a b = refl

pub equal_ids_are_one : EqualIdsAreOne
equal_ids_are_one a b = ((exact_full a b, λ same. subst (λ x. full_cmp a x ≡ Equal) same (tied_itself full_total a)), (same_parts, λ same. subst (λ x. (eqb a.tree x.tree && eqb a.node.0 x.node.0) ≡ true) same itself))
  where
    same_parts : (eqb a.tree b.tree && eqb a.node.0 b.node.0) ≡ true → a ≡ b
    same_parts e =
        let f = and_parts (eqb a.tree b.tree) (eqb a.node.0 b.node.0) e in
        let tree : a.tree ≡ b.tree = eqb-true a.tree b.tree f.0 in
        let node : a.node.0 ≡ b.node.0 = eqb-true a.node.0 b.node.0 f.1 in
        λ i. record { tree = tree i; node = record { 0 = node i } }

    itself : (eqb a.tree a.tree && eqb a.node.0 a.node.0) ≡ true
    itself = and_from (eqb a.tree a.tree) (eqb a.node.0 a.node.0) (eq-eqb a.tree a.tree refl) (eq-eqb a.node.0 a.node.0 refl)

pub equal_ids_hash_alike : EqualIdsHashAlike
equal_ids_hash_alike a b e = ap hash.ghosts.hash_input ((equal_ids_are_one a b).1.0 e)

-- ids whose numbers are in range have a number each
pub number_once : (a b : FullNodeId) → a.tree < 2 ^ 32 → b.tree < 2 ^ 32 → full_number a ≡ full_number b → a ≡ b
number_once a b fit_a fit_b e =
    let node : a.node.0 ≡ b.node.0 = omega arith in
    let tree : a.tree ≡ b.tree = omega arith in
    λ i. record { tree = tree i; node = record { 0 = node i } }
