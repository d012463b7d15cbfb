-- Such trees as coded values.
use Rattle.std.specs.Prelude.{ℕ, Bool, List, Option, refl}
use Rattle.std.specs.Coded.{Coded, code_by, coded×, coded_bool, coded_list, coded_option}
use Rattle.schema.specs.NodeData.{NodeData}
use Rattle.schema.specs.UpdateData.{InfoData, UpdateData}
use Rattle.schema.specs.contracts.Node.{the_row as node_row}
use Rattle.schema.specs.contracts.NodeId.{the_row as id_row}
use Rattle.schema.specs.contracts.TreeId.{the_row as name_row}
use Rattle.schema.specs.declared.NodeId.{NodeId}
use Rattle.schema.specs.declared.TreeId.{TreeId}
use Rattle.model.specs.Codes.{coded_text, coded_world}
use Rattle.model.specs.World.{World}
use Rattle.fed_tree.specs.Fed.{Fed}
use Rattle.fed_tree.specs.EventCodes.{coded_events}
use Rattle.fed_tree.specs.declared.events.Event.{Event}

abbrev pub coded_info : Coded InfoData
coded_info =
    code_by (NodeId × (Option (List ℕ) × Option (List ℕ))) (coded× id_row.coded (coded× coded_text coded_text))
    (λ t. (t.root, (t.toolkit_name, t.toolkit_version)))
    (λ p. record { root = p.0; toolkit_name = p.1.0; toolkit_version = p.1.1 })
    (λ _. refl)

abbrev pub coded_update : Coded UpdateData
coded_update =
    code_by (List (NodeId × NodeData) × (Option InfoData × (TreeId × NodeId)))
    (coded× (coded_list (coded× id_row.coded node_row.coded)) (coded× (coded_option coded_info) (coded× name_row.coded id_row.coded)))
    (λ u. (u.nodes, (u.info, (u.name, u.focus))))
    (λ p. record { nodes = p.0; info = p.1.0; name = p.1.1.0; focus = p.1.1.1 })
    (λ _. refl)

abbrev pub coded_fed : Coded Fed
coded_fed =
    code_by (Option World × (Bool × (Option (List Event) × Option UpdateData)))
    (coded× (coded_option coded_world) (coded× coded_bool (coded× coded_events (coded_option coded_update))))
    (λ f. (f.world, (f.host, (f.events, f.begun))))
    (λ p. record { world = p.0; host = p.1.0; events = p.1.1.0; begun = p.1.1.1 })
    (λ _. refl)
