-- Ranges of a text: their pieces run by run, their text, properties and boxes, selections, and ranges that outlive a state.
use Rattle.std.specs.Prelude.{◌≡◌, ◌≢◌, ℕ, ℤ, pos, ◌+ℤ◌, ◌-ℤ◌, ◌*ℤ◌, ◌+◌, ◌-◌, ◌==◌, nat_lt, nat_le, min, Bool, ◌&&◌, List, [], ◌∷◌, length, map, slice_get, slice_index_or, slice_range, All, Contains, filter_map, position, Option, Some, None, option_map, option_and_then, unwrap_or, if◌then◌else◌}
use Rattle.std.specs.Option.{option_map_or}
use Rattle.std.specs.List.{flat_map, range_with_len, concat}
use Rattle.schema.specs.declared.geometry.Rect.{Rect}
use Rattle.schema.specs.declared.geometry.WideRect.{WideRect}
use Rattle.schema.specs.declared.values.TextDirection.{TextDirection}
use Rattle.schema.specs.declared.values.TextDirection.TheVariants.{LeftToRight, RightToLeft, TopToBottom, BottomToTop}
use Rattle.schema.specs.declared.values.TextPosition.{TextPosition}
use Rattle.schema.specs.declared.values.TextSelection.{TextSelection}
use Rattle.model.specs.declared.FullNodeId.{FullNodeId}
use Rattle.model.specs.World.{World, data_of}
use Rattle.model.specs.Paths.{relative_index_path}
use Rattle.model.specs.Geometry.{whole_rect, moved_rect, ordered_rect}
use Rattle.model.specs.TextRuns.{supports_text_ranges}
use Rattle.model.specs.FlatText.{FlatText, Metrics, flat_text, count_in, Position, offset, document_start, document_end, biased_to_start, biased_to_end}

pub record Range : Type 0 where
  pub start : Position
  pub end : Position

-- the range of two positions: the one with the lower offset is the start
abbrev pub range_between : FlatText → Position → Position → Range
range_between t p q = if nat_lt (offset t q) (offset t p) then record { start = q; end = p } else record { start = p; end = q }

abbrev pub document_range : FlatText → Range
document_range t = record { start = document_start; end = document_end t }

abbrev pub is_degenerate : FlatText → Range → Bool
is_degenerate t r = offset t r.start == offset t r.end

-- a range that isn't empty, with its start on the start side
abbrev pub start_biased : FlatText → Range → Range
start_biased t r = if is_degenerate t r then r else record r { start = biased_to_start t r.start }

-- the end moves too if the new start isn't below it, and likewise the start
abbrev pub with_start : FlatText → Range → Position → Range
with_start t r p = start_biased t (record { start = p; end = if nat_lt (offset t p) (offset t r.end) then r.end else p })

abbrev pub with_end : FlatText → Range → Position → Range
with_end t r p = start_biased t (record { start = if nat_lt (offset t r.start) (offset t p) then r.start else p; end = p })

-- ---- pieces

-- a part of a run: its characters from one index to before another
pub record Piece : Type 0 where
  pub run : ℕ
  pub from : ℕ
  pub to : ℕ

-- the runs from that of the start, on its start side, to that of the end, on its end side
abbrev pub visited_runs : FlatText → Range → List ℕ
visited_runs t r = range_with_len (biased_to_start t r.start).run ((biased_to_end t r.end).run + 1 - (biased_to_start t r.start).run)

-- of a run: from the start, if that is in it, up to the end, if that is in it
abbrev pub piece_in : FlatText → Range → ℕ → Piece
piece_in t r k =
    record { run = k; from = if r.start.run == k then r.start.index else 0; to = if r.end.run == k then r.end.index else count_in t k }

-- of a degenerate range: nothing, in the run of its start
abbrev pub caret_piece : Range → Piece
caret_piece r = record { run = r.start.run; from = r.start.index; to = r.start.index }

abbrev pub pieces : FlatText → Range → List Piece
pieces t r = if is_degenerate t r then caret_piece r ∷ [] else map (piece_in t r) (visited_runs t r)

abbrev pub piece_text : FlatText → Piece → List ℕ
piece_text t p = concat (slice_range (option_map_or (λ s. s.characters) (slice_get t p.run) []) p.from p.to)

-- what is shown of a range, as bytes
abbrev pub text_of : FlatText → Range → List ℕ
text_of t r = flat_map (piece_text t) (pieces t r)

-- what a traversal passes: of each piece its run and its text
abbrev pub passed_texts : FlatText → Range → List (Option FullNodeId × List ℕ)
passed_texts t r = map (λ p. (option_map (λ s. s.id) (slice_get t p.run), piece_text t p)) (pieces t r)

-- ---- properties

-- the runs that a range passes
abbrev pub passed_runs : FlatText → Range → List FullNodeId
passed_runs t r = filter_map (λ p. option_map (λ s. s.id) (slice_get t p.run)) (pieces t r)

-- one value for all runs, or several
pub data Property (A : Type 0) : Type 0 where
  Single : (value : A) → Property A
  Mixed : Property A

-- the value of a property of a range's runs
abbrev pub IsPropertyOf : {A : Type 0} → (FullNodeId → A) → FlatText → Range → Property A → Type 0
IsPropertyOf of t r (Single v) = All (λ run. of run ≡ v) (passed_runs t r)
IsPropertyOf of t r Mixed =
    (run other : FullNodeId) × Contains (passed_runs t r) run × Contains (passed_runs t r) other × (of run ≢ of other)

-- ---- boxes

-- the k-th number, and 0 past the end
abbrev pub number_at : List ℤ → ℕ → ℤ
number_at zs k = slice_index_or zs k (pos 0)

-- how wide the k-th character is
abbrev pub width : Metrics → ℕ → ℤ
width m k = number_at m.widths (if m.are_alike then 0 else k)

-- from one of several alike characters to the next: from the first to the second, if a second is known, and otherwise its width
abbrev pub step : Metrics → ℤ
step m = if nat_lt 1 (length m.positions) then number_at m.positions 1 -ℤ number_at m.positions 0 else number_at m.widths 0

-- where the k-th character begins
abbrev pub place : Metrics → ℕ → ℤ
place m k = if m.are_alike then number_at m.positions 0 +ℤ (pos k *ℤ step m) else number_at m.positions k

-- how far into its run a piece begins, and ends
abbrev pub reach_from : Metrics → ℕ → ℕ → ℤ
reach_from m count i = if nat_lt i count then place m i else place m (i - 1) +ℤ width m (i - 1)

abbrev pub reach_to : Metrics → ℕ → Piece → ℤ
reach_to m count p = if p.from == p.to then reach_from m count p.from else place m (p.to - 1) +ℤ width m (p.to - 1)

-- the part of a rectangle between two distances along it
abbrev pub cut_along : TextDirection → Rect → ℤ → ℤ → WideRect
cut_along LeftToRight b from to = record { x0 = b.x0 +ℤ from; y0 = b.y0; x1 = b.x0 +ℤ to; y1 = b.y1 }
cut_along RightToLeft b from to = record { x0 = b.x1 -ℤ to; y0 = b.y0; x1 = b.x1 -ℤ from; y1 = b.y1 }
cut_along TopToBottom b from to = record { x0 = b.x0; y0 = b.y0 +ℤ from; x1 = b.x1; y1 = b.y0 +ℤ to }
cut_along BottomToTop b from to = record { x0 = b.x0; y0 = b.y1 -ℤ to; x1 = b.x1; y1 = b.y1 -ℤ from }

-- the rectangle of a piece within its run: all of it if the piece is the whole run
abbrev pub piece_rect : Rect → Metrics → TextDirection → ℕ → Piece → WideRect
piece_rect b m direction count p =
    if p.from == 0 && p.to == count then whole_rect b else cut_along direction b (reach_from m count p.from) (reach_to m count p)

-- the box of a piece, if its run has bounds, metrics and a direction
abbrev pub piece_box : FlatText → Piece → Option WideRect
piece_box t p =
    option_and_then
    (λ s. option_and_then
    (λ b. option_and_then
    (λ m. option_map
    (λ d. ordered_rect (moved_rect (piece_rect b m d (length s.characters) p) s.move))
    s.direction)
    s.metrics)
    s.bounds)
    (slice_get t p.run)

-- all of them, if all are known
abbrev pub all_given : {A : Type 0} → List (Option A) → Option (List A)
all_given [] = Some []
all_given (o ∷ os) = option_and_then (λ x. option_map (λ xs. x ∷ xs) (all_given os)) o

-- one box for each run, and none at all if one isn't known
abbrev pub bounding_boxes : FlatText → Range → List WideRect
bounding_boxes t r = unwrap_or (all_given (map (piece_box t) (pieces t r))) []

-- ---- positions by the names of nodes

-- the number of the run with this id in its tree
abbrev pub run_named : FlatText → TextPosition → Option ℕ
run_named t raw = position (λ s. s.id.node.0 == raw.node.0) t

-- the position that is named, if it exists
abbrev pub position_named : FlatText → TextPosition → Option Position
position_named t raw =
    option_and_then
    (λ r. if nat_le raw.character_index (count_in t r) then Some (record { run = r; index = raw.character_index }) else None)
    (run_named t raw)

-- the same, with an index past the run's end clamped to it
abbrev pub nearest_named : FlatText → TextPosition → Option Position
nearest_named t raw = option_map (λ r. record { run = r; index = min raw.character_index (count_in t r) }) (run_named t raw)

-- the name of a position: its run's id in its tree, and the index
abbrev pub IsRaw : FlatText → Position → TextPosition → Type 0
IsRaw t p raw = (option_map (λ s. s.id.node) (slice_get t p.run) ≡ Some raw.node) × (raw.character_index ≡ p.index)

-- ---- selections

abbrev pub selection_of : World → FullNodeId → Option TextSelection
selection_of w root = if supports_text_ranges w root then option_and_then (λ d. d.text_selection) (data_of w root) else None

abbrev pub selection_anchor : World → FullNodeId → Option Position
selection_anchor w root = option_and_then (λ s. nearest_named (flat_text w root) s.anchor) (selection_of w root)

abbrev pub selection_focus : World → FullNodeId → Option Position
selection_focus w root = option_and_then (λ s. nearest_named (flat_text w root) s.focus) (selection_of w root)

abbrev pub selection : World → FullNodeId → Option Range
selection w root = option_and_then (λ p. option_map (range_between (flat_text w root) p) (selection_focus w root)) (selection_anchor w root)

-- ---- ranges that outlive a state

-- the comparable form of an end: the path from the root to its run, on its start side, and the index there
abbrev pub comparable : World → FullNodeId → Position → Option (List ℕ × ℕ)
comparable w root p =
    let s = biased_to_start (flat_text w root) p in
    option_map (λ r. (relative_index_path w root r.id, s.index)) (slice_get (flat_text w root) s.run)

pub record WeakRange : Type 0 where
  pub root : FullNodeId
  pub start : TextPosition
  pub end : TextPosition
  pub start_comparable : List ℕ × ℕ
  pub end_comparable : List ℕ × ℕ

-- what is kept of a range
pub record IsWeak (w : World) (root : FullNodeId) (r : Range) (weak : WeakRange) : Type 0 where
  pub root_is : weak.root ≡ root
  pub start_is : IsRaw (flat_text w root) r.start weak.start
  pub end_is : IsRaw (flat_text w root) r.end weak.end
  pub start_compares : comparable w root r.start ≡ Some weak.start_comparable
  pub end_compares : comparable w root r.end ≡ Some weak.end_comparable

-- the range again in a later world, if its root has a text and both ends exist
abbrev pub upgraded_range : World → WeakRange → Option Range
upgraded_range w weak =
    let t = flat_text w weak.root in
    if supports_text_ranges w weak.root
    then option_and_then (λ p. option_map (range_between t p) (position_named t weak.end)) (position_named t weak.start) else None
