-- An update, as plain data.
use Rattle.std.specs.Prelude.{ℕ, List, Option, option_map}
use Rattle.std.specs.String.{string_bytes}
use Rattle.schema.specs.NodeData.{NodeData}
use Rattle.schema.specs.declared.NodeId.{NodeId}
use Rattle.schema.specs.declared.TreeId.{TreeId}
use Rattle.schema.specs.declared.update.TreeInfo.{TreeInfo}
use Rattle.schema.specs.declared.update.TreeUpdate.{TreeUpdate}

-- the tree info: the tree's root, and the texts of its toolkit
pub record InfoData : Type 0 where
  pub root : NodeId
  pub toolkit_name : Option (List ℕ)
  pub toolkit_version : Option (List ℕ)

-- an update of one tree: the nodes in the order in which they are sent, the tree info, the tree's name and its focus
pub record UpdateData : Type 0 where
  pub nodes : List (NodeId × NodeData)
  pub info : Option InfoData
  pub name : TreeId
  pub focus : NodeId

abbrev pub info_data : TreeInfo → InfoData
info_data t = record {
  root = t.root;
  toolkit_name = option_map string_bytes t.toolkit_name;
  toolkit_version = option_map string_bytes t.toolkit_version;
}

abbrev pub update_data : TreeUpdate → UpdateData
update_data u = record {
  nodes = u.nodes.items;
  info = option_map info_data u.tree;
  name = u.tree_id;
  focus = u.focus;
}
