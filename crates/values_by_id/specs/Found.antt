-- Entries by id, in a list, and a trie that leads from each id to the entry's number in the list.
use Rattle.std.specs.Prelude.{◌≡◌, ◌≢◌, ◌<◌, ℕ, List, Option, Some, slice_get}
use Rattle.std.specs.Option.{option_map}
use Rattle.model.specs.declared.FullNodeId.{FullNodeId}
use Rattle.values_by_id.specs.declared.trie.Cell.{Cell}
use Rattle.values_by_id.specs.Ways.{found}

module _ {X : Type 0} where
  -- the id of each entry leads to its number
  abbrev pub IsFound : List Cell → List (FullNodeId × X) → Type 0
  IsFound cells es = (k : ℕ) (e : FullNodeId × X) → slice_get es k ≡ Some e → found cells e.0 ≡ Some k

  -- so do those of the first n entries
  abbrev pub IsFoundBelow : List Cell → List (FullNodeId × X) → ℕ → Type 0
  IsFoundBelow cells es n = (k : ℕ) (e : FullNodeId × X) → k < n → slice_get es k ≡ Some e → found cells e.0 ≡ Some k

  -- no entry has this id
  abbrev pub HasNo : List (FullNodeId × X) → FullNodeId → Type 0
  HasNo es id = (k : ℕ) (e : FullNodeId × X) → slice_get es k ≡ Some e → e.0 ≢ id

  -- none of the first n entries has
  abbrev pub HasNoBelow : List (FullNodeId × X) → ℕ → FullNodeId → Type 0
  HasNoBelow es n id = (k : ℕ) (e : FullNodeId × X) → k < n → slice_get es k ≡ Some e → e.0 ≢ id

  -- no two entries have one id
  abbrev pub AreApart : List (FullNodeId × X) → Type 0
  AreApart es = (i j : ℕ) (a b : FullNodeId × X) → slice_get es i ≡ Some a → slice_get es j ≡ Some b → a.0 ≡ b.0 → i ≡ j

  -- the id of the entry with a number
  abbrev pub id_at : List (FullNodeId × X) → ℕ → Option FullNodeId
  id_at es k = option_map (λ e. e.0) (slice_get es k)
