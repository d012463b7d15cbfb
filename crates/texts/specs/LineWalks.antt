-- The state of a search among the lines of a text.
use Rattle.std.specs.Prelude.{◌≡◌, ◌<◌, ℕ, [], ◌⊎◌, Bool, Some, MatchBool}
use Rattle.model.specs.FlatText.{first_run, ends_line}
use Rattle.views.specs.declared.node.node_ref.NodeRef.{NodeRef}
use Rattle.views.specs.Nodes.{world_at, id_at}
use Rattle.views.specs.declared.runs.Run.{Run}
use Rattle.views.specs.RunPlaces.{runs_after}
use Rattle.views.specs.Runs.{text_root_of, ids_after, IsAfter}
use Rattle.texts.specs.declared.text_lines.TextLines.{TextLines}
use Rattle.text_boundaries.specs.RunNumbers.{number_in, text_around}

-- the node whose lines they are
abbrev pub lines_root : TextLines → NodeRef
lines_root l = l.root

-- there is no run after the line that was found
abbrev pub IsAtLastLine : TextLines → Type 0
IsAtLastLine l = runs_after (world_at l.root) (id_at l.root) l.last.member.id ≡ []

-- the line of this number was found, or there are fewer and it is the last one
abbrev pub IsNearest : ℕ → TextLines → Type 0
IsNearest index l = (l.line ≡ index) ⊎ ((l.line < index) × IsAtLastLine l)

-- from a run of a line to the first run of the next line, which follows the last one of its own; or there is no run after that
pub record IsLineStep (done : Bool) (r s : Run) : Type 0 where
  pub last : Run
  pub same : text_root_of last ≡ text_root_of r
  pub found : first_run (text_around r) (number_in r) (ends_line (text_around r)) ≡ Some (number_in last)
  pub next : MatchBool done (IsAfter last s) (ids_after last ≡ [])
