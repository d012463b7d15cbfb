-- What begins and ends at a run of a text.
use Rattle.std.specs.Prelude.{ℕ, Bool}
use Rattle.model.specs.FlatText.{FlatText, begins_line, ends_line, begins_paragraph, ends_paragraph, closes_paragraph}
use Rattle.text_boundaries.specs.declared.Mark.{Mark}
use Rattle.text_boundaries.specs.declared.Mark.TheVariants.{Line, Paragraph}

-- one begins at the run
abbrev pub begins_at : Mark → FlatText → ℕ → Bool
begins_at Line = begins_line
begins_at Paragraph = begins_paragraph

-- one ends at the run
abbrev pub ends_at : Mark → FlatText → ℕ → Bool
ends_at Line = ends_line
ends_at Paragraph = ends_paragraph

-- the run itself ends one, wherever it is
abbrev pub closes_at : Mark → FlatText → ℕ → Bool
closes_at Line = ends_line
closes_at Paragraph = closes_paragraph
