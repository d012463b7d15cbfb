-- When a state shows a node as an earlier one did.
use Rattle.std.specs.Prelude.{◌≡◌, ℕ, List, [], ◌∷◌, All, Bool, false, is_none, nat_lt, ◌&&◌, Option, Some, None, if◌then◌else◌}
use Rattle.std.specs.BTreeMap.{BTreeMap, IsEmpty, Updates, get}
use Rattle.std.specs.List.{FoldsTo}
use Rattle.model.specs.declared.FullNodeId.{FullNodeId}
use Rattle.model.specs.FullIds.{full_cmp}
use Rattle.views.specs.Nodes.{id_at}
use Rattle.page_states.specs.declared.again.Way.{Way}
use Rattle.page_states.specs.declared.again.Way.TheVariants.{Whole, Again, Folded}
use Rattle.page_states.specs.declared.again.Folds.{Folds}
use Rattle.page_states.specs.declared.again.Last.{Last}
use Rattle.page_states.specs.declared.looks.Look.{Look}
use Rattle.page_states.specs.declared.marks.Mark.{Mark}
use Rattle.page_states.specs.declared.rows.Row.{Row}
use Rattle.page_states.specs.Nesting.{most_lists}
use Rattle.page_states.specs.declared.rows.Shown.{Shown}

-- its row was written in this state as it is now, it has the same children, and no mark
pub record HasSameRow (look : Look) (last : Last) (mark : Option Mark) (number : ℕ) : Type 0 where
  pub row : look.row.items ≡ last.look.row.items
  pub children : look.children.items ≡ last.look.children.items
  pub unmarked : mark ≡ None
  pub state : number ≡ last.row

-- its box was drawn there as it is now, it has the same children, and no mark
pub record HasSameBox (look : Look) (last : Last) (mark : Option Mark) (number : ℕ) : Type 0 where
  pub drawn : look.drawn.items ≡ last.look.drawn.items
  pub children : look.children.items ≡ last.look.children.items
  pub unmarked : mark ≡ None
  pub state : Some number ≡ last.drawn

-- what is shown of the node now was shown there, by what is kept of it
abbrev pub IsRowIn : BTreeMap FullNodeId Last → Shown → ℕ → Type 0
IsRowIn kept shown state =
    (last : Last) × (get full_cmp kept (id_at shown.place.node) ≡ Some last) × HasSameRow shown.look last shown.place.mark state

abbrev pub IsBoxIn : BTreeMap FullNodeId Last → Shown → ℕ → Type 0
IsBoxIn kept shown state =
    (last : Last) × (get full_cmp kept (id_at shown.place.node) ≡ Some last) × HasSameBox shown.look last shown.place.mark state

-- ---- how rows are shown

-- the items right at the beginning that are deeper than this, and those after them
abbrev pub deeper : {A : Type 0} → (A → ℕ) → ℕ → List A → List A
deeper depth_of depth [] = []
deeper depth_of depth (item ∷ items) = if nat_lt depth (depth_of item) then item ∷ deeper depth_of depth items else []

abbrev pub after_deeper : {A : Type 0} → (A → ℕ) → ℕ → List A → List A
after_deeper depth_of depth [] = []
after_deeper depth_of depth (item ∷ items) = if nat_lt depth (depth_of item) then after_deeper depth_of depth items else item ∷ items

abbrev pub depth_shown : Shown → ℕ
depth_shown shown = shown.place.depth

-- the nodes below one, among those after it
abbrev pub below : Shown → List Shown → List Shown
below shown rest = deeper depth_shown (depth_shown shown) rest

abbrev pub IsInAny : (Shown → ℕ → Type 0) → Shown → Type 0
IsInAny IsIn shown = (state : ℕ) × IsIn shown state

-- it was shown in this state as it is now, and each node below it was shown in some state as it is now
abbrev pub IsAllIn : (Shown → ℕ → Type 0) → List Shown → Shown → ℕ → Type 0
IsAllIn IsIn rest shown state = IsIn shown state × All (IsInAny IsIn) (below shown rest)

-- a state for which this holds, or there is no such state
abbrev pub Finds : (ℕ → Type 0) → Option ℕ → Type 0
Finds Holds None = (state : ℕ) → ¬ (Holds state)
Finds Holds (Some state) = Holds state

-- the depth is below the top of what leads to earlier states
abbrev pub is_below_top : Option ℕ → ℕ → Bool
is_below_top None depth = false
is_below_top (Some top) depth = nat_lt top depth

-- how a node of this depth is shown that is, with all below it, as in this state, if there is one
abbrev pub way_of : Option ℕ → ℕ → Option ℕ → Way
way_of top depth None = Whole
way_of top depth (Some state) = if is_below_top top depth then Folded state else Again state

-- the top after it
abbrev pub top_after : Option ℕ → ℕ → Way → Option ℕ
top_after top depth Whole = None
top_after top depth (Again state) = Some depth
top_after top depth (Folded state) = top

-- a node leads to an earlier state exactly where there is one in which it, with all below it, was shown as it is now
abbrev pub IsLed : (Shown → ℕ → Type 0) → List Shown → Shown → Option ℕ → Way → Type 0
IsLed IsIn rest shown top way = (same : Option ℕ) × Finds (IsAllIn IsIn rest shown) same × (way ≡ way_of top (depth_shown shown) same)

-- so do the row and the box of the next node of those that are left
pub record Leads (kept : BTreeMap FullNodeId Last) (s : Folds × List Shown) (r : Row) (t : Folds × List Shown) : Type 0 where
  pub next : s.1 ≡ r.shown ∷ t.1
  pub row : IsLed (IsRowIn kept) t.1 r.shown s.0.row r.ways.row
  pub drawn : IsLed (IsBoxIn kept) t.1 r.shown s.0.drawn r.ways.drawn
  pub row_top : t.0.row ≡ top_after s.0.row (depth_shown r.shown) r.ways.row
  pub drawn_top : t.0.drawn ≡ top_after s.0.drawn (depth_shown r.shown) r.ways.drawn

abbrev pub no_folds : Folds
no_folds = record { row = None; drawn = None }

-- and of all of them
abbrev pub AreLed : BTreeMap FullNodeId Last → List Shown → List Row → Type 0
AreLed kept shown rows = (folds : Folds) × FoldsTo (Leads kept) (no_folds, shown) rows (folds, [])

abbrev pub row_shown : Row → Shown
row_shown row = row.shown

-- ---- what is kept of a node

-- the state that has its row: this one, where that is written out
abbrev pub state_of : ℕ → Way → ℕ
state_of number Whole = number
state_of number (Again state) = state
state_of number (Folded state) = state

-- the state that has its box as a group of its own, without a mark, if there is one
abbrev pub drawn_by : ℕ → Bool → Way → Option ℕ
drawn_by number is_group Whole = if is_group then Some number else None
drawn_by number is_group (Again state) = Some state
drawn_by number is_group (Folded state) = Some state

abbrev pub is_group : Bool → Row → Bool
is_group has_picture row = (has_picture && is_none row.shown.place.mark) && nat_lt row.shown.place.depth most_lists

abbrev pub drawn_in : ℕ → Bool → Row → Option ℕ
drawn_in number has_picture row = drawn_by number (is_group has_picture row) row.ways.drawn

abbrev pub last_of : ℕ → Bool → Row → Last
last_of number has_picture row =
    record { look = row.shown.look; row = state_of number row.ways.row; drawn = drawn_in number has_picture row }

-- what is shown of a node is kept
abbrev pub Puts : ℕ → Bool → BTreeMap FullNodeId Last → Row → BTreeMap FullNodeId Last → Type 0
Puts number has_picture before row after =
    Updates full_cmp before after (id_at row.shown.place.node) (Some (last_of number has_picture row))

-- of each node of a state, and of no other
abbrev pub KeepsRows : ℕ → Bool → List Row → BTreeMap FullNodeId Last → Type 0
KeepsRows number has_picture rows kept =
    (empty : BTreeMap FullNodeId Last) × IsEmpty empty × FoldsTo (Puts number has_picture) empty rows kept
