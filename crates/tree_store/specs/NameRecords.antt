-- The record of a name, made from what is stored of it.
use Rattle.std.specs.Prelude.{ℕ, Option, Some, None, ◌||◌, is_some, if◌then◌else◌}
use Rattle.std.specs.Option.{option_map}
use Rattle.schema.specs.declared.TreeId.{TreeId}
use Rattle.model.specs.declared.FullNodeId.{FullNodeId}
use Rattle.tree_changes.specs.declared.look_ups.TreeRecord.{TreeRecord}
use Rattle.tree_store.specs.declared.records.PresentTree.{PresentTree}

-- a name without index and graft has none
abbrev pub record_of : TreeId → Option ℕ → Option FullNodeId → Option PresentTree → Option TreeRecord
record_of name index graft tree =
    if is_some index || is_some graft
    then Some
    (record {
      id = name;
      index = index;
      graft = graft;
      root = option_map (λ t. t.root) tree;
      focus = option_map
          (λ t. t.focus) tree;
    })
    else None
