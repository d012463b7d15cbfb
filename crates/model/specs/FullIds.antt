-- Ids of nodes, and names of trees, in their order.
use Rattle.std.specs.Prelude.{ℕ, ◌+◌, ◌*◌, ◌^◌, refl}
use Rattle.std.specs.Coded.{Coded, code_by, coded×, coded_ℕ}
use Rattle.std.specs.declared.cmp.Ordering.{Ordering}
use Rattle.std.specs.Ordering.{nat_cmp, ordering_then}
use Rattle.std.specs.Cmp.{IsTotalOrder, nat_cmp_total}
use Rattle.std.specs.Cmp.Lexicographic.{slice_cmp}
use Rattle.std.proofs.Common.{ap}
use Rattle.std.proofs.lemmas.Cmp.{on_total, then_total}
use Rattle.std.proofs.lemmas.Map.Lookups.{CmpEqualImpliesEq, exact_pairs, exact_unsigned}
use Rattle.schema.specs.declared.NodeId.{NodeId}
use Rattle.schema.specs.declared.TreeId.{TreeId}
use Rattle.model.specs.declared.FullNodeId.{FullNodeId}

-- names of trees, by their bytes
abbrev pub name_cmp : TreeId → TreeId → Ordering
name_cmp a b = slice_cmp nat_cmp a.0 b.0

-- by tree, and then by node
abbrev pub full_cmp : FullNodeId → FullNodeId → Ordering
full_cmp a b = ordering_then (nat_cmp a.tree b.tree) (nat_cmp a.node.0 b.node.0)

-- as one number: the node id, and the tree's index in the 64 bits below it
abbrev pub full_number : FullNodeId → ℕ
full_number id = id.node.0 * 2 ^ 64 + id.tree

-- as a pair of numbers
abbrev pub coded_full : Coded FullNodeId
coded_full =
    code_by (ℕ × ℕ) (coded× coded_ℕ coded_ℕ) (λ a. (a.tree, a.node.0)) (λ p. record { tree = p.0; node = record { 0 = p.1 } })
    (λ _. refl)

-- ids that compare as equal are equal
pub exact_full : CmpEqualImpliesEq full_cmp
exact_full a b h =
    ap (λ (p : ℕ × ℕ). let n : NodeId = record { 0 = p.1 } in let f : FullNodeId = record { tree = p.0; node = n } in f)
    (exact_pairs nat_cmp nat_cmp exact_unsigned exact_unsigned (a.tree, a.node.0) (b.tree, b.node.0) h)

pub full_total : IsTotalOrder full_cmp
full_total = then_total (on_total (λ a. a.tree) nat_cmp_total) (on_total (λ a. a.node.0) nat_cmp_total)
