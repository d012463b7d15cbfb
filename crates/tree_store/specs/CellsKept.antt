-- What is kept of cells.
use Rattle.std.specs.Prelude.{◌≤◌, ◌<◌, ◌^◌, length}
use Rattle.std.specs.Vec.{vec_capacity}
use Rattle.tree_store.specs.declared.cells.Slots.TheInside.{Inside}
use Rattle.tree_store.specs.Cells.{SlotsView, HasOwnCells, IsFreeList}

abbrev pub slots_of : Inside → SlotsView
slots_of a = record { numbers = a.index; cells = a.cells.cells }

-- each cell is of one id or in the list of free ones, in which there is room for all; their numbers are below the greatest one of 32 bits
pub record IsKept (a : Inside) : Type 0 where
  pub cells : HasOwnCells (slots_of a)
  pub free : IsFreeList a.cells.cells a.free.items
  pub room : length a.cells.cells ≤ vec_capacity a.free
  pub bound : length a.cells.cells < 2 ^ 32
