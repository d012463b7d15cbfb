-- The text of a root's runs as it is shown, run by run.
use Rattle.std.specs.Prelude.{ℕ, List, [], ◌∷◌, Bool, true, Option, Some, None, if◌then◌else◌, bytes_eq}
use Rattle.std.specs.Option.{option_map_or}
use Rattle.std.specs.List.{flat_map, list_all}
use Rattle.model.specs.declared.FullNodeId.{FullNodeId}
use Rattle.model.specs.World.{World}
use Rattle.model.specs.TextRuns.{SentRun, sent_runs, run_value, said_count}
use Rattle.model.specs.FlatText.{are_alike}
use Rattle.model.specs.Values.{bullets}
use Rattle.views.specs.declared.runs.Run.{Run}
use Rattle.views.specs.Runs.{sent_of, sents_after}

-- the text of a run as it is shown: its value, or a bullet for each character
abbrev pub shown_of : Bool → SentRun → List ℕ
shown_of masked r = if masked then bullets (said_count r) else run_value r

-- the text of these runs as it is shown
abbrev pub shown_of_all : Bool → List SentRun → List ℕ
shown_of_all masked runs = flat_map (shown_of masked) runs

abbrev pub shown_text : Bool → World → FullNodeId → List ℕ
shown_text masked w root = shown_of_all masked (sent_runs w root)

-- the runs from one on, if there is one
abbrev pub sents_from : Option Run → List SentRun
sents_from None = []
sents_from (Some r) = sent_of r ∷ sents_after r

-- whether these characters are the one seen before, or are all the same if there is none
abbrev pub are_like : Option (List ℕ) → List (List ℕ) → Bool
are_like None cs = are_alike bytes_eq cs
are_like (Some c) cs = list_all (bytes_eq c) cs

-- whether they are the one seen before, if there is one
abbrev pub are_all : Option (List ℕ) → List (List ℕ) → Bool
are_all seen cs = option_map_or (λ c. list_all (bytes_eq c) cs) seen true
