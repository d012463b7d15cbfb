-- The number of a run in its text.
use Rattle.std.specs.Prelude.{ℕ, length}
use Rattle.model.specs.FlatText.{FlatText, flat_text}
use Rattle.views.specs.declared.runs.Run.{Run}
use Rattle.views.specs.Runs.{run_world, root_id, ids_before}

-- how many of the root's runs are before it
abbrev pub number_in : Run → ℕ
number_in r = length (ids_before r)

-- the text that it is a run of
abbrev pub text_around : Run → FlatText
text_around r = flat_text (run_world r) (root_id r)
