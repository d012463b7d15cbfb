-- The name of the root tree.
use Rattle.uuid.specs.Parts.{zero_bytes}
use Rattle.schema.specs.declared.TreeId.{TreeId}

-- the nil UUID: sixteen zero bytes
abbrev pub root_tree_id : TreeId
root_tree_id = record { 0 = zero_bytes }
