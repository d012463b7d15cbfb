-- How many lists of an outline, or groups of a picture, hold a row.
use Rattle.std.specs.Prelude.{ℕ, ◌+◌, ◌==◌, length, min, nat_lt, List, flat_map, replicate, Bool, not, ◌&&◌, if◌then◌else◌}
use Rattle.page_states.specs.declared.again.Way.{Way}
use Rattle.page_states.specs.declared.again.Way.TheVariants.{Whole, Again, Folded}
use Rattle.page_states.specs.declared.rows.Row.{Row}

-- lists in one another, as many as browsers keep
abbrev pub most_lists : ℕ
most_lists = 100

-- how many lists hold a row
abbrev pub within : Row → ℕ
within row = min row.shown.place.depth most_lists

-- whether it begins a list, of the rows of its children
abbrev pub folds : Row → Bool
folds row = nat_lt (within row) most_lists && not (length row.shown.look.children.items == 0)

-- the lists that are begun after it
abbrev pub levels_after : ℕ → Row → Way → ℕ
levels_after levels row Whole = if folds row then within row + 1 else within row
levels_after levels row (Again state) = within row
levels_after levels row (Folded state) = levels

-- the same text so many times
abbrev pub times : ℕ → List ℕ → List ℕ
times count text = flat_map (λ (part : List ℕ). part) (replicate count text)
