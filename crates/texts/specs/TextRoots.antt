-- Roots that have a text.
use Rattle.std.specs.Prelude.{◌≡◌, true}
use Rattle.std.specs.Coded.{Coded-set, coded_bool}
use Rattle.model.specs.TextRuns.{supports_text_ranges}
use Rattle.views.specs.declared.node.node_ref.NodeRef.{NodeRef}
use Rattle.views.specs.Nodes.{world_at, id_at}

-- the node supports text ranges
abbrev pub HasText : NodeRef → Type 0
HasText n = supports_text_ranges (world_at n) (id_at n) ≡ true

-- it has one proof at most, so positions and ranges can keep it
pub HasText-prop : (n : NodeRef) → IsProp (HasText n)
HasText-prop n = Coded-set coded_bool (supports_text_ranges (world_at n) (id_at n)) true
