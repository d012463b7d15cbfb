-- What a mirror keeps, as records of the model.
use Rattle.std.specs.Prelude.{List, Option, [], ◌∷◌, refl}
use Rattle.std.specs.Coded.{Coded, code_by, coded×, coded_ℕ, coded_option}
use Rattle.std.specs.FinMap.{FinMap, empty, insert, code}
use Rattle.schema.specs.NodeData.{NodeData}
use Rattle.schema.specs.contracts.Node.{the_row as node_row}
use Rattle.model.specs.declared.FullNodeId.{FullNodeId}
use Rattle.model.specs.FullIds.{full_cmp, coded_full}
use Rattle.model.specs.World.{Place}
use Rattle.model.specs.Mirror.{Mirrored, Records}
use Rattle.tree_store.specs.declared.copies.MirrorRecord.{MirrorRecord}
use Rattle.trees.specs.declared.mirror.KeptRecords.{KeptRecords}

abbrev pub record_shown : MirrorRecord → Mirrored
record_shown r = record { place = r.place; node = r.node }

abbrev pub nodes_kept : List (FullNodeId × MirrorRecord) → FinMap full_cmp Mirrored
nodes_kept [] = empty
nodes_kept (e ∷ es) = insert (nodes_kept es) e.0 (record_shown e.1)

abbrev pub records_kept : KeptRecords → Records
records_kept k = record { nodes = nodes_kept k.nodes.entries; focus = k.focus }

abbrev coded_mirrored : Coded Mirrored
coded_mirrored =
    code_by (Option Place × NodeData) (coded× (coded_option (coded× coded_full coded_ℕ)) node_row.coded) (λ m. (m.place, m.node))
    (λ p. record { place = p.0; node = p.1 }) (λ _. refl)

abbrev pub coded_records : Coded Records
coded_records =
    code_by (FinMap full_cmp Mirrored × Option FullNodeId) (coded× (code coded_full coded_mirrored) (coded_option coded_full))
    (λ r. (r.nodes, r.focus)) (λ p. record { nodes = p.0; focus = p.1 }) (λ _. refl)
