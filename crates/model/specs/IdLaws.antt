-- What is proved of the order, the equality, the hash and the number of ids.
use Rattle.std.specs.Prelude.{◌≡◌, true, ◌↔◌, ◌++◌}
use Rattle.std.specs.Hash.{u32, u64}
use Rattle.std.specs.declared.cmp.Ordering.TheVariants.{Equal}
use Rattle.std.specs.Cmp.{IsTotalOrder}
use Rattle.model.specs.declared.FullNodeId.{FullNodeId}
use Rattle.model.specs.FullIds.{full_cmp}
use Rattle.model.specs.contracts.FullNodeIdOrd.TheImpl as ord
use Rattle.model.specs.contracts.FullNodeIdPartialEq.TheImpl as eq
use Rattle.model.specs.contracts.FullNodeIdHash.TheImpl as hash

-- `cmp` compares two ids by tree, and then by node
abbrev pub OrderIsByTreeThenNode : Type 0
OrderIsByTreeThenNode = (a b : FullNodeId) → ord.ghosts.cmp a b ≡ full_cmp a b

-- that order is total, and only an id and itself are equal by it, and by `==`
abbrev pub OrderIsTotal : Type 0
OrderIsTotal = IsTotalOrder full_cmp

abbrev pub EqualIdsAreOne : Type 0
EqualIdsAreOne = (a b : FullNodeId) → ((full_cmp a b ≡ Equal) ↔ (a ≡ b)) × ((eq.ghosts.eq a b ≡ true) ↔ (a ≡ b))

-- what an id feeds a hasher: the tree's index, and then the node id
abbrev pub HashIsOfTreeAndNode : Type 0
HashIsOfTreeAndNode = (a : FullNodeId) → hash.ghosts.hash_input a ≡ u32 a.tree ++ u64 a.node.0

-- ids that are equal by `==` feed a hasher alike
abbrev pub EqualIdsHashAlike : Type 0
EqualIdsHashAlike = (a b : FullNodeId) → eq.ghosts.eq a b ≡ true → hash.ghosts.hash_input a ≡ hash.ghosts.hash_input b
