-- How cells show a world.
use Rattle.std.specs.Prelude.{◌≡◌, ℕ, Option, Some}
use Rattle.std.specs.Option.{option_map}
use Rattle.model.specs.declared.FullNodeId.{FullNodeId}
use Rattle.model.specs.World.{World, data_of}
use Rattle.tree_changes.specs.LookUps.{IsPlaceOf}
use Rattle.tree_store.specs.Cells.{Record}
use Rattle.tree_store.specs.Cells.{SlotsView, number_of, id_in, seen}

-- The cells show this world, where `see` tells what is seen in the cell with a number: an id's cell has that id, and in it are seen the
-- node's data and its place; of an id that is no node no data is seen.
pub record IsSeated (s : SlotsView) (see : ℕ → Option (Option Record)) (w : World) : Type 0 where
  pub own : (id : FullNodeId) (n : ℕ) → number_of s id ≡ Some n → id_in s n ≡ Some id
  pub nodes : (id : FullNodeId) → option_map (λ r. r.node) (seen s see id) ≡ data_of w id
  pub place : (id : FullNodeId) (r : Record) → seen s see id ≡ Some r → IsPlaceOf w id r.place
