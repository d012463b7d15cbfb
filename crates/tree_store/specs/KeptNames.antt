-- The records of names, and their changes.
use Rattle.std.specs.Prelude.{◌≡◌, ℕ, List, Option, Some, None, All, Contains, IsSome, ◌⊎◌, ◌||◌, is_some, option_and_then, if◌then◌else◌}
use Rattle.std.specs.BTreeMap.{BTreeMap, get}
use Rattle.schema.specs.declared.TreeId.{TreeId}
use Rattle.model.specs.declared.FullNodeId.{FullNodeId}
use Rattle.model.specs.FullIds.{name_cmp}
use Rattle.tree_changes.specs.declared.look_ups.TreeRecord.{TreeRecord}
use Rattle.tree_store.specs.declared.records.NameRecord.{NameRecord}

-- what is kept at a name
abbrev pub name_at : BTreeMap TreeId NameRecord → TreeId → Option NameRecord
name_at m name = get name_cmp m name

-- the index and the graft; a record without both means the same as no record
abbrev pub kept_in : Option NameRecord → Option ℕ × Option FullNodeId
kept_in r = (option_and_then (λ r. r.index) r, option_and_then (λ r. r.graft) r)

-- what is kept of a changed record: nothing if it has neither an index nor a graft
abbrev pub name_kept : TreeRecord → Option NameRecord
name_kept r = if is_some r.index || is_some r.graft then Some (record { index = r.index; graft = r.graft }) else None

-- what is kept of a name after a change that may be missing
abbrev pub name_after : Option TreeRecord → Option NameRecord → Option NameRecord
name_after None before = before
name_after (Some r) before = name_kept r

-- each changed name has a record
abbrev pub HasNames : BTreeMap TreeId NameRecord → List TreeRecord → Type 0
HasNames m rs = All (λ r. IsSome (name_at m r.id)) rs

-- a record that is there says something of its name
abbrev pub IsNoBlank : Option NameRecord → Type 0
IsNoBlank r = kept_in r ≡ (None, None) → r ≡ None

-- one of these records is of this name
abbrev pub IsOneOf : List TreeRecord → TreeId → Type 0
IsOneOf rs name = (r : TreeRecord) × Contains rs r × (r.id ≡ name)

-- the later map has no record of a name of which the earlier one has none
abbrev pub HasNoMore : BTreeMap TreeId NameRecord → BTreeMap TreeId NameRecord → Type 0
HasNoMore earlier later = (name : TreeId) → IsSome (name_at later name) → IsSome (name_at earlier name)

-- or it is one of these names
abbrev pub HasNoMoreBut : List TreeRecord → BTreeMap TreeId NameRecord → BTreeMap TreeId NameRecord → Type 0
HasNoMoreBut rs earlier later = (name : TreeId) → IsSome (name_at later name) → IsSome (name_at earlier name) ⊎ IsOneOf rs name
