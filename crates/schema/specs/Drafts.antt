-- A node that is being built: what it has so far, or nothing once an allocation has failed.
use Rattle.std.specs.Prelude.{◌≡◌, Option, option_map, IsSome}
use Rattle.schema.specs.NodeData.{NodeData}

-- the node with the change, if there still is one
abbrev pub changed : (NodeData → NodeData) → Option NodeData → Option NodeData
changed change draft = option_map change draft

-- there is no node any more, or it has the change
abbrev pub IsChangedOrRefused : (NodeData → NodeData) → Option NodeData → Option NodeData → Type 0
IsChangedOrRefused change before after = IsSome after → after ≡ changed change before
