-- What links and uses lead to.
use Rattle.std.specs.Prelude.{◌≡◌, ℕ, List, [], ◌∷◌, ◌++◌, All, Contains, Bool, true, map, Option, Some, None, IfSome}
use Rattle.std.specs.BTreeMap.{BTreeMap, get}
use Rattle.model.specs.declared.FullNodeId.{FullNodeId}
use Rattle.model.specs.FullIds.{full_cmp}
use Rattle.views.specs.Nodes.{id_at}
use Rattle.page_states.specs.declared.again.Last.{Last}
use Rattle.page_states.specs.declared.again.Way.{Way}
use Rattle.page_states.specs.declared.again.Way.TheVariants.{Whole, Again, Folded}
use Rattle.page_states.specs.declared.looks.Look.{Look}
use Rattle.page_states.specs.declared.rows.Row.{Row}
use Rattle.page_states.specs.Again.{is_group, row_shown, AreLed, KeepsRows}

-- a state that is written: its number, whether it has a picture, and its rows
pub record Page : Type 0 where
  pub number : ℕ
  pub has_picture : Bool
  pub rows : List Row

abbrev pub page_of : ℕ → Bool → List Row → Page
page_of number has_picture rows = record { number = number; has_picture = has_picture; rows = rows }

abbrev pub row_id : Row → FullNodeId
row_id row = id_at row.shown.place.node

-- a state with this number has this row
abbrev pub IsRowOf : List Page → ℕ → Row → Type 0
IsRowOf pages state row = (page : Page) × Contains pages page × (page.number ≡ state) × Contains page.rows row

-- the node's row is written out in the state with this number
abbrev pub HasRow : List Page → FullNodeId → ℕ → Type 0
HasRow pages id state = (row : Row) × IsRowOf pages state row × (row_id row ≡ id) × (row.ways.row ≡ Whole)

-- a picture of that state has a group of the node, in which the same is drawn, of as many children
pub record IsGroupOf (page : Page) (r : Row) (id : FullNodeId) (look : Look) : Type 0 where
  pub node : row_id r ≡ id
  pub way : r.ways.drawn ≡ Whole
  pub group : is_group page.has_picture r ≡ true
  pub drawn : r.shown.look.drawn.items ≡ look.drawn.items
  pub children : r.shown.look.children.items ≡ look.children.items

abbrev pub HasGroup : List Page → FullNodeId → Look → ℕ → Type 0
HasGroup pages id look state =
    (page : Page) × Contains pages page × (page.number ≡ state) × (row : Row) × Contains page.rows row × IsGroupOf page row id look

-- the earlier state that a row or a box leads to
abbrev pub state_in : Way → Option ℕ
state_in Whole = None
state_in (Again state) = Some state
state_in (Folded state) = Some state

-- a row leads to a row that an earlier state has, and its box to a group that one has
pub record IsBacked (pages : List Page) (r : Row) : Type 0 where
  pub row : IfSome (state_in r.ways.row) (HasRow pages (row_id r))
  pub drawn : IfSome (state_in r.ways.drawn) (HasGroup pages (row_id r) r.shown.look)

-- so does what is kept of each node
pub record IsLastBacked (pages : List Page) (id : FullNodeId) (last : Last) : Type 0 where
  pub row : HasRow pages id last.row
  pub drawn : IfSome last.drawn (HasGroup pages id last.look)

abbrev pub AreBacked : List Page → BTreeMap FullNodeId Last → Type 0
AreBacked pages kept = (id : FullNodeId) (last : Last) → get full_cmp kept id ≡ Some last → IsLastBacked pages id last

-- So it is of a state after others, if it was before. A page begins with nothing kept.
abbrev pub LinksLeadToRows : Type 0
LinksLeadToRows =
    (pages : List Page) (kept after : BTreeMap FullNodeId Last) (number : ℕ) (has_picture : Bool) (rows : List Row)
    → AreBacked pages kept → AreLed kept (map row_shown rows) rows → KeepsRows number has_picture rows after
    → All (IsBacked pages) rows × AreBacked (pages ++ page_of number has_picture rows ∷ []) after
