-- Worlds as coded values: equality of worlds is a proposition.
use Rattle.std.specs.Prelude.{ℕ, List, Option, Bool, refl}
use Rattle.std.specs.Coded.{Coded, code_by, coded×, coded_ℕ, coded_option, coded_list, coded_bool}
use Rattle.std.specs.Ordering.{nat_cmp}
use Rattle.std.specs.FinMap.{FinMap, code}
use Rattle.schema.specs.NodeData.{NodeData}
use Rattle.schema.specs.contracts.Node.{the_row as node_row}
use Rattle.schema.specs.contracts.NodeId.{the_row as id_row}
use Rattle.schema.specs.contracts.TreeId.{the_row as name_row}
use Rattle.schema.specs.declared.NodeId.{NodeId}
use Rattle.schema.specs.declared.TreeId.{TreeId}
use Rattle.model.specs.FullIds.{full_cmp, coded_full}
use Rattle.model.specs.World.{World, Tree}

abbrev pub coded_tree : Coded Tree
coded_tree =
    code_by (NodeId × NodeId) (coded× id_row.coded id_row.coded) (λ t. (t.root, t.focus)) (λ p. record { root = p.0; focus = p.1 })
    (λ _. refl)

abbrev pub coded_text : Coded (Option (List ℕ))
coded_text = coded_option (coded_list coded_ℕ)

abbrev pub coded_world : Coded World
coded_world =
    code_by (List TreeId × (FinMap nat_cmp Tree × (FinMap full_cmp NodeData × ((Option (List ℕ) × Option (List ℕ)) × Bool))))
    (coded× (coded_list name_row.coded)
    (coded× (code coded_ℕ coded_tree) (coded× (code coded_full node_row.coded) (coded× (coded× coded_text coded_text) coded_bool))))
    (λ w. (w.known, (w.trees, (w.nodes, (w.toolkit, w.host_focused)))))
    (λ p. record { known = p.0; trees = p.1.0; nodes = p.1.1.0; toolkit = p.1.1.1.0; host_focused = p.1.1.1.1 })
    (λ _. refl)
