-- Two worlds that differ in what is typed into a password alone have the same headers of cells.
use Rattle.std.proofs.Common.{◌≡◌, ℕ, List, not, ◌&&◌, cond, map, Some, None, find, slice_get, refl, ◌∙◌, if◌then◌else◌}
use Rattle.std.specs.Prelude.{codes}
use Rattle.std.specs.Bool.{then_some}
use Rattle.std.specs.Option.{option_and_then}
use Rattle.schema.specs.NodeData.{NodeData}
use Rattle.model.specs.declared.FullNodeId.{FullNodeId}
use Rattle.model.specs.declared.filters.FilterResult.TheVariants.{Include, ExcludeNode, ExcludeSubtree}
use Rattle.model.specs.Covers.{is_included}
use Rattle.model.specs.Forest.{is_same, place_of, below}
use Rattle.model.specs.Frontier.{frontier}
use Rattle.model.specs.Lists.{ancestors}
use Rattle.model.specs.Outline.{outline}
use Rattle.model.specs.Upward.{says, kin}
use Rattle.model.specs.World.{World, Place, data_of, in_tree}
use Rattle.model.proofs.Text.Outlines as outlines
use Rattle.model.proofs.Text.Outlines.{says_same, above_is, below_is, place_same, reads_given}
use Rattle.speaking.specs.Headers.{is_said_as, is_cell, is_row, is_of_rows, cell_around, place_in_row, child_at, if_header, first_row, column_header, row_header}
use Rattle.speaking.specs.Laws.{AreAlike}
use Rattle.speaking.proofs.Same.{one_of}

child_same : (u : World) (id : FullNodeId) (index : ℕ) → child_at (outline u) id index ≡ child_at u id index
child_same u id index =
    reads_given (λ d. option_and_then (kin (outline u) id) (slice_get d.children index)) u id (λ d. refl)
    ∙ (λ i. option_and_then (λ (d : NodeData). option_and_then (λ n. then_some (outlines.there u (in_tree id.tree n) i) (in_tree id.tree n)) (slice_get d.children index)) (data_of u id))

module _ (p : FullNodeId) (w v : World) (alike : AreAlike p w v) where
  cells_one : says is_cell w ≡ says is_cell v
  cells_one = one_of p w v alike (says is_cell) (λ u. says_same u is_cell (λ d. refl))

  rows_one : says is_row w ≡ says is_row v
  rows_one = one_of p w v alike (says is_row) (λ u. says_same u is_row (λ d. refl))

  of_rows_one : says is_of_rows w ≡ says is_of_rows v
  of_rows_one = one_of p w v alike (says is_of_rows) (λ u. says_same u is_of_rows (λ d. refl))

  words_one : (word : List ℕ) → says (is_said_as word) w ≡ says (is_said_as word) v
  words_one word = one_of p w v alike (says (is_said_as word)) (λ u. says_same u (is_said_as word) (λ d. refl))

  ancestors_one : ancestors w ≡ ancestors v
  ancestors_one = one_of p w v alike ancestors (λ u i id. map (λ (q : Place). q.0) (above_is u i id))

  places_one : (id : FullNodeId) → place_of w id ≡ place_of v id
  places_one id = one_of p w v alike (λ u. place_of u id) (λ u. place_same u id)

  below_one : below w ≡ below v
  below_one = one_of p w v alike below below_is

  child_is : (id : FullNodeId) (index : ℕ) → child_at w id index ≡ child_at v id index
  child_is id index = one_of p w v alike (λ u. child_at u id index) (λ u. child_same u id index)

  cell_is : (id : FullNodeId) → cell_around w id ≡ cell_around v id
  cell_is id i = if cells_one i id then Some id else find (λ a. is_included (if cells_one i a then Include else ExcludeNode)) (ancestors_one i id)

  in_row_is : (cell : FullNodeId) → place_in_row w cell ≡ place_in_row v cell
  in_row_is cell i = option_and_then (λ (q : Place). if rows_one i q.0 then Some q else None) (places_one cell i)

  first_is : (row : FullNodeId) → first_row w row ≡ first_row v row
  first_is row i =
      option_and_then (λ table. slice_get (frontier (λ a. cond (rows_one i a) Include (cond (of_rows_one i a) ExcludeNode ExcludeSubtree)) (below_one i table)) 0)
      (find (λ a. is_included (if of_rows_one i a then ExcludeNode else Include)) (ancestors_one i row))

  header_is : (word : List ℕ) (cell id : FullNodeId) → if_header w word cell id ≡ if_header v word cell id
  header_is word cell id i = if words_one word i id && not (is_same id cell) then Some id else None

  pub column_is : (id : FullNodeId) → column_header w id ≡ column_header v id
  column_is id i =
      option_and_then (λ cell. option_and_then (λ (q : Place). option_and_then (λ first. option_and_then (λ h. header_is (codes "column header") cell h i) (child_is first q.1 i)) (first_is q.0 i)) (in_row_is cell i)) (cell_is id i)

  pub row_is : (id : FullNodeId) → row_header w id ≡ row_header v id
  row_is id i = option_and_then (λ cell. option_and_then (λ (q : Place). option_and_then (λ h. header_is (codes "row header") cell h i) (child_is q.0 0 i)) (in_row_is cell i)) (cell_is id i)
