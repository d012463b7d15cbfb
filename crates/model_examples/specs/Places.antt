-- Places in small texts.
use Rattle.std.specs.Prelude.{◌≡◌, pos, true, false, [], ◌∷◌, Some, None}
use Rattle.model.specs.FlatText.{ShownRun, Metrics, is_line_end, document_start}
use Rattle.model.specs.Moves.{start_before}
use Rattle.model.specs.Points.{is_in_run, character_at}
use Rattle.model.specs.TextExamples.{two_lines, run_of, letters, point}
use Rattle.model.specs.TextExamples as text

-- three letters in a rectangle, which is moved by more in all than in the root
abbrev pub moved_run : ShownRun
moved_run = record (run_of (letters (97 ∷ 98 ∷ 99 ∷ []))) {
  bounds = Some (record { x0 = pos 0; y0 = pos 0; x1 = pos 30; y1 = pos 10 });
  move = record { x = pos 105; y = pos 200 };
  move_in_root = record { x = pos 100; y = pos 200 };
}

pub record OfMovedRun : Type 0 where
  pub near_edge : is_in_run (point 102 205) moved_run ≡ true
  pub past_far_edge : is_in_run (point 131 205) moved_run ≡ false

-- three characters side by side
abbrev pub three_wide : Metrics
three_wide = record { positions = pos 0 ∷ pos 10 ∷ pos 20 ∷ []; widths = pos 10 ∷ pos 10 ∷ pos 10 ∷ []; are_alike = false }

pub record OfWidths : Type 0 where
  pub where_two_meet : character_at three_wide (pos 10) ≡ Some 1
  pub at_the_end : character_at three_wide (pos 30) ≡ None

pub record OfLineEnds : Type 0 where
  pub within : is_line_end two_lines (text.at 0 1) ≡ false
  pub at_the_end : is_line_end two_lines (text.at 0 3) ≡ true

pub record OfStarts : Type 0 where
  pub none_before : start_before two_lines 0 (λ r. true) ≡ document_start
  pub last_before : start_before two_lines 2 (λ r. true) ≡ text.at 1 0
