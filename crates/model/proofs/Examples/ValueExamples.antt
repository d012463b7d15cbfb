-- The values and placeholders of small interfaces, worked out.
use Rattle.std.proofs.Common.{[], ◌∷◌}
use Rattle.std.specs.Prelude.{None, Some, codes}
use Rattle.std.specs.Str.{chars, is_utf8}
use Rattle.std.specs.Char.{encode_utf8}
use Rattle.schema.specs.declared.Role.TheVariants.{Window, Document, Label, TextInput, MultilineTextInput, PasswordInput}
use Rattle.model.specs.ListExamples.{parent}
use Rattle.model.specs.Examples.{at}
use Rattle.model.specs.TextRuns.{supports_text_ranges}
use Rattle.model.specs.FlatText.{needs_masking, flat_text}
use Rattle.model.specs.Values.{value_of}
use Rattle.model.specs.ValueExamples as example
use Rattle.model.proofs.Examples.WrittenViews.{data_in, above_in, below_in}

pub values : example.Values
unfolding value_of supports_text_ranges needs_masking flat_text chars is_utf8 encode_utf8
values = record {
  of_text = simp (below_in None (example.run_nodes example.one_line (codes "a" ∷ codes "b" ∷ codes "c" ∷ codes "d" ∷ [])) tt, data_in None (example.run_nodes example.one_line (codes "a" ∷ codes "b" ∷ codes "c" ∷ codes "d" ∷ [])) tt);
  of_lines = simp (below_in None (example.run_nodes example.many_lines (codes "a" ∷ codes "b" ∷ codes "c" ∷ codes "d" ∷ [])) tt, data_in None (example.run_nodes example.many_lines (codes "a" ∷ codes "b" ∷ codes "c" ∷ codes "d" ∷ [])) tt);
  of_label = simp (below_in None (example.run_nodes (parent Label (1 ∷ [])) (codes "a" ∷ codes "b" ∷ [])) tt, data_in None (example.run_nodes (parent Label (1 ∷ [])) (codes "a" ∷ codes "b" ∷ [])) tt);
  of_document = simp (below_in None (example.run_nodes (parent Document (1 ∷ [])) (codes "a" ∷ codes "b" ∷ [])) tt, data_in None (example.run_nodes (parent Document (1 ∷ [])) (codes "a" ∷ codes "b" ∷ [])) tt);
  of_window = simp (below_in None (example.run_nodes (parent Window (1 ∷ [])) (codes "a" ∷ codes "b" ∷ [])) tt, data_in None (example.run_nodes (parent Window (1 ∷ [])) (codes "a" ∷ codes "b" ∷ [])) tt);
  without_run = simp (below_in None ((at 0 0, parent TextInput []) ∷ []) tt, data_in None ((at 0 0, parent TextInput []) ∷ []) tt);
  over_a_character = simp (below_in None (example.cut_nodes (parent TextInput (1 ∷ [])) example.A_UMLAUT (1 ∷ 1 ∷ [])) tt, data_in None (example.cut_nodes (parent TextInput (1 ∷ [])) example.A_UMLAUT (1 ∷ 1 ∷ [])) tt);
  own = simp (below_in None ((at 0 0, example.with_value (codes "x") (parent MultilineTextInput [])) ∷ []) tt, data_in None ((at 0 0, example.with_value (codes "x") (parent MultilineTextInput [])) ∷ []) tt);
  counts_characters = simp (below_in None (example.run_nodes (example.with_value (codes "zzz") example.password) (codes "a" ∷ codes "b" ∷ [])) tt, data_in None (example.run_nodes (example.with_value (codes "zzz") example.password) (codes "a" ∷ codes "b" ∷ [])) tt);
  raw_where_alike = simp (below_in None (example.run_nodes (example.with_value (codes "xy") example.password) (codes "a" ∷ codes "a" ∷ [])) tt, data_in None (example.run_nodes (example.with_value (codes "xy") example.password) (codes "a" ∷ codes "a" ∷ [])) tt);
  raw_scalars = simp (below_in None ((at 0 0, example.with_value example.TWO_UMLAUTS (parent PasswordInput [])) ∷ []) tt, data_in None ((at 0 0, example.with_value example.TWO_UMLAUTS (parent PasswordInput [])) ∷ []) tt);
  counts_scalars = simp (below_in None ((at 0 0, example.with_value (codes "ab") (parent PasswordInput [])) ∷ []) tt, data_in None ((at 0 0, example.with_value (codes "ab") (parent PasswordInput [])) ∷ []) tt);
  masked_text = simp (below_in None (example.run_nodes example.password (codes "p" ∷ example.A_UMLAUT ∷ codes "s" ∷ codes "s" ∷ [])) tt, data_in None (example.run_nodes example.password (codes "p" ∷ example.A_UMLAUT ∷ codes "s" ∷ codes "s" ∷ [])) tt);
  text_of_one_letter = simp (below_in None (example.run_nodes example.password (codes "a" ∷ codes "a" ∷ codes "a" ∷ codes "a" ∷ [])) tt, data_in None (example.run_nodes example.password (codes "a" ∷ codes "a" ∷ codes "a" ∷ codes "a" ∷ [])) tt);
}

pub placeholders : example.Placeholders
placeholders = record {
  no_run = simp (below_in None (example.held ([])) tt, data_in None (example.held ([])) tt);
  absent = simp (below_in None (example.held (None ∷ [])) tt, data_in None (example.held (None ∷ [])) tt);
  blank = simp (below_in None (example.held (Some [] ∷ [])) tt, data_in None (example.held (Some [] ∷ [])) tt);
  filled = simp (below_in None (example.held (Some (codes "x") ∷ [])) tt, data_in None (example.held (Some (codes "x") ∷ [])) tt);
  two = simp (below_in None (example.held (None ∷ None ∷ [])) tt, data_in None (example.held (None ∷ None ∷ [])) tt);
}

pub shown_runs : example.ShownRuns
unfolding flat_text needs_masking
shown_runs = record {
  runs = simp (data_in None example.moved_text tt, below_in None example.moved_text tt);
  moves = simp (above_in None example.moved_text tt, data_in None example.moved_text tt, below_in None example.moved_text tt);
  moves_in_label = simp (above_in None example.moved_text tt, data_in None example.moved_text tt, below_in None example.moved_text tt);
  sizes = simp (above_in None example.moved_text tt, data_in None example.moved_text tt, below_in None example.moved_text tt);
  directions = simp (above_in None example.moved_text tt, data_in None example.moved_text tt, below_in None example.moved_text tt);
  newlines = simp (data_in None example.moved_text tt, below_in None example.moved_text tt);
  shown = simp (data_in None example.moved_text tt, below_in None example.moved_text tt);
  words = simp (data_in None example.moved_text tt, below_in None example.moved_text tt);
}
