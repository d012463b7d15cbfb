-- A text's defect as a walk from run to run finds it.
use Rattle.std.specs.Prelude.{ℕ, ◌+◌, ◌^◌, nat_lt, Bool, List, [], ◌∷◌, length, Option, Some, None}
use Rattle.std.specs.Option.{option_or}
use Rattle.model.specs.TextRuns.{SentRun, run_value, said_count}
use Rattle.views.specs.declared.runs.defects.RunDefect.TheVariants.{TooLong, Empty}
use Rattle.views.specs.declared.runs.defects.TextDefect.{TextDefect}
use Rattle.views.specs.TextDefects.{first_of, broken, back_defect, onward_defect, own_defect, at_run}

-- between two neighbours: the first is empty, or its link is wrong, or that of the second
abbrev pub defect_between : SentRun → SentRun → Option TextDefect
defect_between a b = first_of (
    at_run a (broken (nat_lt 0 (said_count a)) Empty)
    ∷ at_run a (onward_defect a (Some b))
    ∷ at_run b (back_defect (Some a) b) ∷ [])

-- with so many bytes before a run, it isn't too long
abbrev pub size_defect : ℕ → SentRun → Option TextDefect
size_defect size a = at_run a (broken (nat_lt (size + length (run_value a)) (2 ^ 64)) TooLong)

-- a run and those after it, without the run's link back
abbrev pub defect_from : ℕ → Bool → ℕ → SentRun → List SentRun → Option TextDefect
defect_from tree password size a [] =
    option_or (at_run a (own_defect tree password a)) (option_or (size_defect size a) (at_run a (onward_defect a None)))
defect_from tree password size a (b ∷ runs) =
    option_or (at_run a (own_defect tree password a)) (option_or (size_defect size a)
    (option_or (defect_between a b) (defect_from tree password (size + length (run_value a)) b runs)))
