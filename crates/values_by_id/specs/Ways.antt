-- The way of an id through a trie. From a cell that is a node it goes to that node's cell for the id's digit; it ends at any other cell.
use Rattle.std.specs.Prelude.{◌≡◌, ℕ, zero, suc, ◌+◌, ◌-◌, ◌/◌, ◌%◌, ◌^◌, ◌<◌, ◌≤◌, Bool, true, false, cond, nat_lt, List, length, Option, Some, None, slice_index_or}
use Rattle.model.specs.declared.FullNodeId.{FullNodeId}
use Rattle.values_by_id.specs.declared.trie.Cell.{Cell}
use Rattle.values_by_id.specs.declared.trie.Cell.TheVariants.{Empty, Entry, Node}

-- the digit at a shift: four bits of the node id, or above 64 of the tree's index
abbrev pub digit_of : ℕ → FullNodeId → ℕ
digit_of shift id = cond (nat_lt shift 64) (id.node.0 / 2 ^ shift % 16) (id.tree / 2 ^ (shift - 64) % 16)

abbrev pub cell_at : List Cell → ℕ → Cell
cell_at cells place = slice_index_or cells place Empty

-- whether ways end at a cell
abbrev pub is_last : Cell → Bool
is_last Empty = true
is_last (Entry number) = true
is_last (Node shift first) = false

abbrev pub number_of : Cell → Option ℕ
number_of Empty = None
number_of (Entry number) = Some number
number_of (Node shift first) = None

-- the next cell on the way of an id
abbrev pub next : List Cell → FullNodeId → Cell → Cell
next cells id Empty = Empty
next cells id (Entry number) = Entry number
next cells id (Node shift first) = cell_at cells (first + digit_of shift id)

-- the cell after so many steps
abbrev pub after : List Cell → FullNodeId → ℕ → Cell → Cell
after cells id zero cell = cell
after cells id (suc steps) cell = after cells id steps (next cells id cell)

-- each way starts at the first node
abbrev pub start : Cell
start = Node 0 0

-- the number to which an id leads
abbrev pub found : List Cell → FullNodeId → Option ℕ
found cells id = number_of (after cells id (length cells) start)

-- the way of an id leads to this node
pub record IsOn (cells : List Cell) (id : FullNodeId) (shift first : ℕ) : Type 0 where
  pub steps : ℕ
  pub leads : after cells id steps start ≡ Node shift first
  pub soon : steps ≤ first
  pub whole : first + 16 ≤ length cells
  pub fits : shift < 128

-- this is the place of the cell at which the way of an id ends
pub record IsEnd (cells : List Cell) (id : FullNodeId) (place : ℕ) : Type 0 where
  pub steps : ℕ
  pub shift : ℕ
  pub first : ℕ
  pub leads : after cells id steps start ≡ Node shift first
  pub place_is : place ≡ first + digit_of shift id
  pub within : place < length cells
  pub soon : steps ≤ place
  pub last : is_last (cell_at cells place) ≡ true

-- each node stands behind the cell that names it
pub record IsOrdered (cells : List Cell) : Type 0 where
  pub first_node : 0 < length cells → 16 ≤ length cells
  pub behind : (place shift first : ℕ) → cell_at cells place ≡ Node shift first → place < first
  pub whole : (place shift first : ℕ) → cell_at cells place ≡ Node shift first → first + 16 ≤ length cells
  pub shifts : (place shift first : ℕ) → cell_at cells place ≡ Node shift first → shift < 128
