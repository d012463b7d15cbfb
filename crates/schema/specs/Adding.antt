-- What an update ends as that lent a node which it added.
use Rattle.std.specs.Prelude.{◌≡◌, ◌++◌, ◌∷◌, [], Result}
use Rattle.std.specs.Borrow.{LendsSoOk, MutBor, Fml}
use Rattle.schema.specs.NodeData.{NodeData}
use Rattle.schema.specs.UpdateData.{update_data}
use Rattle.schema.specs.declared.NodeId.{NodeId}
use Rattle.schema.specs.declared.update.TreeUpdate.{TreeUpdate}
use Rattle.schema.specs.contracts.Node as node
use Rattle.schema.specs.contracts.update.TreeUpdate as update

-- the list has one entry more, with the data that was last written through the borrow, and at `Err` the update stays
abbrev pub lends_added : {E : Type 0} → MutBor TreeUpdate → NodeId → Result (MutBor NodeData) E → Fml
lends_added u id r = LendsSoOk update.the_row node.the_row u r
    (λ ends last. update_data ends ≡ record (update_data u.now) { nodes = u.now.nodes.items ++ (id, last) ∷ [] })
    (λ ends. update_data ends ≡ update_data u.now)
