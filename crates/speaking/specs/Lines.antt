-- The lines of a text, and the one of its caret.
use Rattle.std.specs.Prelude.{ℕ, List, Option, None, option_map, if◌then◌else◌}
use Rattle.model.specs.declared.FullNodeId.{FullNodeId}
use Rattle.model.specs.FlatText.{flat_text}
use Rattle.model.specs.Moves.{to_line_index}
use Rattle.model.specs.Ranges.{text_of, selection_focus}
use Rattle.model.specs.TextRuns.{is_password, supports_text_ranges}
use Rattle.model.specs.World.{World}
use Rattle.texts.specs.FoundRanges.{range_of_line}

-- the number of the caret's line
abbrev pub caret_index : World → FullNodeId → Option ℕ
caret_index w id = option_map (to_line_index (flat_text w id)) (selection_focus w id)

-- in a password there is none
abbrev pub caret_said : World → FullNodeId → Option ℕ
caret_said w id = if is_password w id then None else caret_index w id

-- the text of a line of the runs, by its number
abbrev pub line_of_runs : World → FullNodeId → ℕ → Option (List ℕ)
line_of_runs w id k = if supports_text_ranges w id then option_map (text_of (flat_text w id)) (range_of_line (flat_text w id) k) else None

-- a password has no lines
abbrev pub text_of_line : World → FullNodeId → ℕ → Option (List ℕ)
text_of_line w id k = if is_password w id then None else line_of_runs w id k
