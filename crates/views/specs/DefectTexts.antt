-- What is said of a text's defect.
use Rattle.std.specs.Prelude.{ℕ, List, ◌++◌, codes}
use Rattle.std.specs.Fmt.{decimal}
use Rattle.views.specs.declared.runs.defects.RunDefect.{RunDefect}
use Rattle.views.specs.declared.runs.defects.RunDefect.TheVariants.{PreviousLink, PreviousUnanswered, Tree, CharacterLengths, WordStarts, CharacterPositions, CharacterWidths, TooLong, Empty, NextLink, NextUnanswered}
use Rattle.views.specs.declared.runs.defects.TextDefect.{TextDefect}
use Rattle.views.specs.declared.runs.defects.TextDefect.TheVariants.{Role, Run}

-- which rule a run breaks, in words
abbrev pub run_defect_text : RunDefect → List ℕ
run_defect_text (PreviousLink node) = codes "its previous_on_line is " ++ decimal node.0 ++ codes ", which is not the run before it"
run_defect_text PreviousUnanswered = codes "its previous_on_line is the run before it, which has no next_on_line"
run_defect_text Tree = codes "it is in another tree"
run_defect_text CharacterLengths = codes "its character lengths do not cut its value into characters"
run_defect_text WordStarts = codes "its word starts do not rise, or go beyond its characters"
run_defect_text CharacterPositions = codes "its character positions are not one for each character"
run_defect_text CharacterWidths = codes "its character widths are not one for each character"
run_defect_text TooLong = codes "with it, the text is too long"
run_defect_text Empty = codes "it is empty, and another run follows"
run_defect_text (NextLink node) = codes "its next_on_line is " ++ decimal node.0 ++ codes ", which is not the next run"
run_defect_text NextUnanswered = codes "its next_on_line is the next run, which has no previous_on_line"

-- why runs make no text, in words
abbrev pub defect_text : TextDefect → List ℕ
defect_text Role = codes "its role holds no text"
defect_text (Run id defect) = codes "run " ++ decimal id.node.0 ++ codes ": " ++ run_defect_text defect
