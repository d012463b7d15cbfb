-- What is printed of a node that has no text.
use Rattle.std.specs.Prelude.{ℕ, List, ◌++◌, Option, Some, None, codes}
use Rattle.views.specs.declared.runs.defects.TextDefect.{TextDefect}
use Rattle.views.specs.DefectTexts.{defect_text}

-- why its runs make none, or that it has no runs
abbrev pub no_text_line : Option TextDefect → List ℕ
no_text_line None = codes "no text: it has no runs\n"
no_text_line (Some defect) = codes "no text: " ++ defect_text defect ++ codes "\n"
