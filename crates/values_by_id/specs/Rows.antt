-- Values by id, as lists of entries.
use Rattle.std.specs.Prelude.{◌≡◌, ℕ, ◌<◌, List, length, slice_get, Option, Some, Bool, true, false}
use Rattle.std.specs.Ordering.{is_lt, is_eq}
use Rattle.std.specs.Map.{keys_of, lookup}
use Rattle.std.specs.List.{AllWithin}
use Rattle.std.specs.BTreeMap.{is_at}
use Rattle.std.specs.List.Sorted.{IsStrictlySortedBy}
use Rattle.model.specs.declared.FullNodeId.{FullNodeId}
use Rattle.model.specs.FullIds.{full_cmp}

module _ {X : Type 0} where
  -- each id is below those after it
  abbrev pub Ascends : List (FullNodeId × X) → Type 0
  Ascends es = IsStrictlySortedBy full_cmp (keys_of es)

  -- the value at an id, as `get full_cmp` of a map returns it
  abbrev pub row_at : List (FullNodeId × X) → FullNodeId → Option X
  row_at es id = lookup (is_at (full_cmp id)) es

  -- two entries have the id
  abbrev pub IsTwice : List (FullNodeId × X) → FullNodeId → Type 0
  IsTwice es id = (i j : ℕ) × (i < j) × (slice_get (keys_of es) i ≡ Some id) × (slice_get (keys_of es) j ≡ Some id)

  -- the entries before an index are below an id
  abbrev pub AllBelow : List (FullNodeId × X) → FullNodeId → ℕ → Type 0
  AllBelow es id n = AllWithin (λ e. is_lt (full_cmp e.0 id) ≡ true) es 0 n

  -- the entries from an index on are not below an id
  abbrev pub NoneBelow : List (FullNodeId × X) → FullNodeId → ℕ → Type 0
  NoneBelow es id n = AllWithin (λ e. is_lt (full_cmp e.0 id) ≡ false) es n (length es)

  -- the entries below an id end there
  abbrev pub IsPlace : List (FullNodeId × X) → FullNodeId → ℕ → Type 0
  IsPlace es id n = AllBelow es id n × NoneBelow es id n

  -- both have the same id
  abbrev pub same_id : FullNodeId × X → FullNodeId × X → Bool
  same_id x y = is_eq (full_cmp x.0 y.0)
