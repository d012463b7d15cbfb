-- The rows of an outline, and what is between them.
use Rattle.std.specs.Prelude.{◌≡◌, ℕ, ◌+◌, ◌-◌, ◌^◌, min, nat_lt, List, [], ◌++◌, codes, flat_map, Bool, true, false, not, ◌&&◌, Option, Some, None, if◌then◌else◌}
use Rattle.std.specs.Fmt.{decimal}
use Rattle.std.specs.Io.KnownBytes.{Appends}
use Rattle.std.specs.List.{FoldsTo}
use Rattle.html.specs.Escaped.{element_text}
use Rattle.model.specs.declared.FullNodeId.{FullNodeId}
use Rattle.model.specs.World.{World}
use Rattle.model.specs.FocusFound.{is_focused, is_focused_in_tree}
use Rattle.phrases.specs.States.{where_it_is}
use Rattle.views.specs.Nodes.{world_at, id_at, data_at}
use Rattle.page_states.specs.declared.again.Way.{Way}
use Rattle.page_states.specs.declared.again.Way.TheVariants.{Whole, Again, Folded}
use Rattle.page_states.specs.declared.marks.Mark.{Mark}
use Rattle.page_states.specs.declared.marks.Mark.TheVariants.{Added, Updated}
use Rattle.page_states.specs.declared.places.Place.{Place}
use Rattle.page_states.specs.declared.rows.Row.{Row}
use Rattle.page_states.specs.Named.{role_bold}
use Rattle.page_states.specs.Nesting.{folds, levels_after, times, within}
use Rattle.page_states.specs.Said.{row_texts, state_words}
use Rattle.page_states.specs.Written.{anchor_text, small_id, word_text}

abbrev Bytes : Type 0
Bytes = Option (List ℕ)

-- ---- what a row says of its node

-- that it has the focus, or that of the tree while the host window hasn't
abbrev pub focus_word : World → FullNodeId → Option (List ℕ)
focus_word w id =
    if is_focused w id then Some (codes "focus") else where_it_is (is_focused_in_tree w id && not w.host_focused) (codes "focus in the tree")

-- that it isn't shown, and why
abbrev pub left_out_word : Place → Option (List ℕ)
left_out_word place =
    if place.is_left_out then Some (if place.is_hidden then codes "hidden" else codes "clipped") else None

abbrev pub words_text : List (Option (List ℕ)) → List ℕ
words_text words = flat_map (word_text (codes "i") (codes "w")) words

-- the role, the label and the value as they are shown, the words of its state, those on the focus and on what isn't shown, and its id
abbrev pub row_text : Place → List ℕ
row_text place =
    role_bold (data_at place.node).role ++ row_texts place.hidden (world_at place.node) (id_at place.node)
    ++ words_text (state_words (data_at place.node))
    ++ word_text (codes "em") (codes "f") (focus_word (world_at place.node) (id_at place.node))
    ++ word_text (codes "em") (codes "h") (left_out_word place) ++ codes " " ++ small_id (id_at place.node)

-- ---- a row's item

abbrev pub mark_class : Mark → List ℕ
mark_class Added = codes "a"
mark_class Updated = codes "u"

abbrev pub mark_word : Mark → List ℕ
mark_word Added = codes "added"
mark_word Updated = codes "updated"

-- what an update did to the node
abbrev pub mark_text : Option Mark → List ℕ
mark_text None = []
mark_text (Some mark) = element_text (codes "em") (mark_class mark) (mark_word mark) ++ codes " "

abbrev pub class_if : Bool → Option Mark → List ℕ
class_if true None = codes "x"
class_if true (Some Added) = codes "x a"
class_if true (Some Updated) = codes "x u"
class_if false None = codes "n"
class_if false (Some mark) = mark_class mark

abbrev pub row_class : Place → List ℕ
row_class place = class_if place.is_left_out place.mark

-- the level of a row, from 1, as far as a number of 64 bits goes
abbrev pub level : ℕ → ℕ
level depth = min (depth + 1) (2 ^ 64 - 1)

-- the end of the tag of a row's item, and the beginning of its line if it folds
abbrev pub level_text : List ℕ → ℕ → Bool → List ℕ
level_text class depth is_folding =
    codes "\" class=\"" ++ class
    ++ (if is_folding then codes "\" aria-level=\"" ++ decimal (level depth) ++ codes "\"><details open><summary>"
    else codes " e\" aria-level=\"" ++ decimal (level depth) ++ codes "\">")

abbrev pub row_begun : ℕ → Place → Bool → List ℕ
row_begun number place is_folding =
    codes "<li id=\"" ++ anchor_text number (id_at place.node) ++ level_text (row_class place) place.depth is_folding

-- the beginning of the list in a row that folds: the first 24 in one another are indented
abbrev pub begun_list : ℕ → List ℕ
begun_list count = if nat_lt count 24 then codes "</summary><ul class=\"in\">\n" else codes "</summary><ul>\n"

-- the end of a row's line, and of its item unless that folds
abbrev pub row_end : Bool → ℕ → List ℕ
row_end is_folding count = if is_folding then begun_list count else codes "</li>\n"

-- a row that is written out
abbrev pub whole_text : ℕ → Row → List ℕ
whole_text number row =
    row_begun number row.shown.place (folds row) ++ mark_text row.shown.place.mark ++ row.shown.look.row.items
    ++ row_end (folds row) (within row)

-- the end of a link to an earlier state, and of its row
abbrev pub as_in_text : ℕ → List ℕ
as_in_text state = codes "\">as in state " ++ decimal state ++ codes "</a></li>\n"

-- a row of a node that is, with all below it, as in an earlier state, with a link to its row there
abbrev pub again_text : ℕ → Row → ℕ → List ℕ
again_text number row state =
    row_begun number row.shown.place false ++ row.shown.look.row.items ++ codes " <a href=\"#"
    ++ anchor_text state (id_at row.shown.place.node) ++ as_in_text state

abbrev pub ends_text : ℕ → List ℕ
ends_text count = times count (codes "</ul></details></li>\n")

-- ---- all rows

-- after a row that is within so many lists: those that don't hold it are ended, and its item is there. Below a row that leads to an
-- earlier state there is no item.
abbrev pub item_text : ℕ → ℕ → Row → Way → List ℕ
item_text number lists row Whole = ends_text (lists - within row) ++ whole_text number row
item_text number lists row (Again state) = ends_text (lists - within row) ++ again_text number row state
item_text number lists row (Folded state) = []

-- a row's item comes after what is written, in so many lists
abbrev pub WritesItem : ℕ → ℕ × Bytes → Row → ℕ × Bytes → Type 0
WritesItem number a row b =
    (b.0 ≡ levels_after a.0 row row.ways.row) × Appends a.1 b.1 (item_text number a.0 row row.ways.row)

-- the outline of these rows
pub record WritesOutline (number : ℕ) (rows : List Row) (before after : Bytes) : Type 0 where
  pub begun : Bytes
  pub begins : Appends before begun (codes "<ul class=\"outline\">\n")
  pub lists : ℕ
  pub written : Bytes
  pub items : FoldsTo (WritesItem number) (0, begun) rows (lists, written)
  pub ends : Appends written after (ends_text lists ++ codes "</ul>\n")
