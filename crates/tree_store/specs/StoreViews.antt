-- What a store keeps, as its contracts see it.
use Rattle.std.specs.Prelude.{◌≡◌, List, Bool, refl, is_some}
use Rattle.std.specs.Coded.{Coded, code_by, coded×, coded_list, coded_bool}
use Rattle.std.specs.FinSet.{FinSet, contains, code}
use Rattle.schema.specs.contracts.TreeId.{the_row as name_row}
use Rattle.schema.specs.declared.TreeId.{TreeId}
use Rattle.model.specs.declared.FullNodeId.{FullNodeId}
use Rattle.model.specs.FullIds.{full_cmp, coded_full}
use Rattle.model.specs.World.{World, data_of}
use Rattle.model.specs.Codes.{coded_world}

-- a world, the ids that there is a slot for, the names that something is kept of, and whether there is room for one more known tree
pub record StoreView : Type 0 where
  pub world : World
  pub slots : FinSet full_cmp
  pub names : List TreeId
  pub room : Bool

abbrev pub coded_store : Coded StoreView
coded_store =
    code_by (World × (FinSet full_cmp × (List TreeId × Bool)))
    (coded× coded_world (coded× (code coded_full) (coded× (coded_list name_row.coded) coded_bool)))
    (λ k. (k.world, (k.slots, (k.names, k.room)))) (λ p. record { world = p.0; slots = p.1.0; names = p.1.1.0; room = p.1.1.1 }) (λ _. refl)

-- there is a slot for each node, and no other
abbrev pub IsTight : StoreView → Type 0
IsTight k = (id : FullNodeId) → contains k.slots id ≡ is_some (data_of k.world id)
