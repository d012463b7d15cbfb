-- What is said of the headers of a table's cell.
use Rattle.std.specs.Prelude.{ℕ, List, codes, Bool, false, not, ◌&&◌, ◌||◌, Option, Some, None, bytes_eq, slice_get, cond, if◌then◌else◌}
use Rattle.std.specs.Option.{option_map_or, option_and_then}
use Rattle.schema.specs.NodeData.{NodeData}
use Rattle.schema.specs.Roles.{same_role}
use Rattle.schema.specs.declared.Role.TheVariants.{GenericContainer}
use Rattle.model.specs.declared.FullNodeId.{FullNodeId}
use Rattle.model.specs.declared.filters.FilterResult.{FilterResult}
use Rattle.model.specs.declared.filters.FilterResult.TheVariants.{Include, ExcludeNode, ExcludeSubtree}
use Rattle.model.specs.Covers.{filtered_parent}
use Rattle.model.specs.Events.{Seen}
use Rattle.model.specs.Forest.{is_same, place_of}
use Rattle.model.specs.Frontier.{filtered_children}
use Rattle.model.specs.Upward.{says, kin}
use Rattle.model.specs.World.{World, Place, data_of}
use Rattle.phrases.specs.Roles.{role_word}
use Rattle.phrases.specs.Voices.{Speech}
use Rattle.speaking.specs.Groups.{group_named}

-- its role is said by this word
abbrev pub is_said_as : List ℕ → NodeData → Bool
is_said_as word d = bytes_eq (role_word d.role) word

abbrev pub is_cell : NodeData → Bool
is_cell d = is_said_as (codes "cell") d || (is_said_as (codes "row header") d || is_said_as (codes "column header") d)

abbrev pub is_row : NodeData → Bool
is_row d = is_said_as (codes "row") d

-- what may be between a table and its rows: a group of rows, or a container
abbrev pub is_of_rows : NodeData → Bool
is_of_rows d = is_said_as (codes "row group") d || same_role d.role GenericContainer

abbrev pub cell_answer : World → FullNodeId → FilterResult
cell_answer w id = if says is_cell w id then Include else ExcludeNode

abbrev pub table_answer : World → FullNodeId → FilterResult
table_answer w id = if says is_of_rows w id then ExcludeNode else Include

abbrev pub row_answer : World → FullNodeId → FilterResult
row_answer w id = cond (says is_row w id) Include (cond (says is_of_rows w id) ExcludeNode ExcludeSubtree)

-- the node if it is a cell, or else the nearest cell above it
abbrev pub cell_around : World → FullNodeId → Option FullNodeId
cell_around w id = if says is_cell w id then Some id else filtered_parent (cell_answer w) w id

-- a place in a row
abbrev pub if_in_row : World → Place → Option Place
if_in_row w p = if says is_row w p.0 then Some p else None

-- the row of a cell, and its number in that
abbrev pub place_in_row : World → FullNodeId → Option Place
place_in_row w cell = option_and_then (if_in_row w) (place_of w cell)

-- the child at this index
abbrev pub child_at : World → FullNodeId → ℕ → Option FullNodeId
child_at w id index = option_and_then (λ d. option_and_then (kin w id) (slice_get d.children index)) (data_of w id)

-- a node that is said by this word, unless it is the cell itself
abbrev pub if_header : World → List ℕ → FullNodeId → FullNodeId → Option FullNodeId
if_header w word cell id = if says (is_said_as word) w id && not (is_same id cell) then Some id else None

-- the first row of the table in which a row is
abbrev pub first_row : World → FullNodeId → Option FullNodeId
first_row w row = option_and_then (λ table. slice_get (filtered_children (row_answer w) w table) 0) (filtered_parent (table_answer w) w row)

-- the cell at an index of the first row, if it is a column's header
abbrev pub header_of_column : World → FullNodeId → Place → Option FullNodeId
header_of_column w cell p =
    option_and_then (λ first. option_and_then (if_header w (codes "column header") cell) (child_at w first p.1)) (first_row w p.0)

-- the first cell of a row, if it is the row's header
abbrev pub header_of_row : World → FullNodeId → FullNodeId → Option FullNodeId
header_of_row w cell row = option_and_then (if_header w (codes "row header") cell) (child_at w row 0)

-- the headers of the cell around a node
abbrev pub column_header : World → FullNodeId → Option FullNodeId
column_header w id = option_and_then (λ cell. option_and_then (header_of_column w cell) (place_in_row w cell)) (cell_around w id)

abbrev pub row_header : World → FullNodeId → Option FullNodeId
row_header w id = option_and_then (λ cell. option_and_then (λ p. header_of_row w cell p.0) (place_in_row w cell)) (cell_around w id)

-- this was the header of the old focus too
abbrev pub was_header : (World → FullNodeId → Option FullNodeId) → Option Seen → FullNodeId → Bool
was_header header old h = option_map_or (is_same h) (option_and_then (λ o. header o.world o.id) old) false

-- a header is said by its name, unless it was the old focus's too
abbrev pub header_said : (World → FullNodeId → Option FullNodeId) → Option Seen → Seen → Speech → Speech
header_said header old new v =
    option_map_or (λ h. if was_header header old h then v else group_named new.world h v) (header new.world new.id) v

-- that of the row, and then that of the column
abbrev pub headers_said : Option Seen → Seen → Speech → Speech
headers_said old new v = header_said column_header old new (header_said row_header old new v)
