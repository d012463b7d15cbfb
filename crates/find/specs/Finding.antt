-- What a search of a script prints and reports, and its exit status.
use Rattle.std.specs.Prelude.{◌≡◌, ◌⊎◌, ℕ, Bool, List, [], ◌∷◌, ◌++◌, codes, Option, Result, MatchResult, if◌then◌else◌}
use Rattle.std.specs.Fmt.{decimal}
use Rattle.std.specs.Io.KnownBytes.{Appends}
use Rattle.model.specs.World.{World}
use Rattle.script_lines.specs.Ends.{Tells, TellsStop, told_of, status_of}
use Rattle.script_lines.specs.Taking.{number_of}
use Rattle.script_lines.specs.declared.reader.ScriptReader.{ScriptReader}
use Rattle.script_words.specs.declared.stops.Stop.{Stop}
use Rattle.atree_script.specs.Input.{Commented, start_of}
use Rattle.atree_script.specs.Played.{Bytes}
use Rattle.atree_script.specs.Playing.{Stage, no_tree, Plays}
use Rattle.find.specs.Noted.{Noted, Seen, NotesTurn, nothing_noted, answer_text, is_answered}
use Rattle.find.specs.declared.wanted.Wanted.{Wanted}
use Rattle.find.specs.declared.wanted.When.{When}
use Rattle.find.specs.declared.wanted.When.TheVariants.{AtEnd, After, Each}

-- before the first line, where the errors have these bytes
abbrev pub nothing_seen : Wanted → Bytes → Seen
nothing_seen wanted reported = record { wanted = wanted; updates = 0; reported = reported; noted = nothing_noted }

-- the text, or another where there is none
abbrev pub text_or : List ℕ → List ℕ → List ℕ
text_or other [] = other
text_or other (c ∷ text) = c ∷ text

-- a script of so many updates has none with this number
abbrev pub missing_text : ℕ → ℕ → List ℕ
missing_text number updates = codes "no update " ++ decimal number ++ codes ": the script has " ++ decimal updates ++ codes "\n"

-- what is printed of a script that was read to its end, by what is wanted, the number of updates, what is noted, and the tree
abbrev pub printed_when : When → Wanted → ℕ → Noted → Option World → List ℕ
printed_when AtEnd wanted updates noted tree = answer_text wanted tree
printed_when (After number) wanted updates noted tree = text_or (missing_text number updates) noted.text
printed_when Each wanted updates noted tree = text_or (codes "no tree\n") noted.text

-- whether as many are found as are asked for
abbrev pub enough_when : When → Wanted → Noted → Option World → Bool
enough_when AtEnd wanted noted tree = is_answered wanted tree
enough_when (After number) wanted noted tree = noted.enough
enough_when Each wanted noted tree = noted.enough

abbrev pub status_if : Bool → ℕ
status_if enough = if enough then 0 else 1

-- it is printed, and nothing is reported; or what stopped the printing is
abbrev pub Answers : Option World → Seen → Bytes → Bytes → Bytes → ℕ → Type 0
Answers tree end before after told_after status =
    (Appends before after (printed_when end.wanted.when end.wanted end.updates end.noted tree)
    × Tells end.reported told_after [] (status_if (enough_when end.wanted.when end.wanted end.noted tree)) status)
    ⊎ ((stop : Stop) × Tells end.reported told_after (told_of 0 stop) (status_of stop) status)

-- A script is searched: each of its commands is carried out in turn, from no tree on, refused updates are reported and trees noted. At the
-- end of the script the answer is printed; or what stopped the reading is reported, a bad line with its fault, and nothing is printed.
pub record FindsInScript (wanted : Wanted) (input before after told_before told_after : Bytes) (status : ℕ) : Type 0 where
  pub commands : List Commented
  pub ended : Result Unit Stop
  pub script : ScriptReader
  pub end : Stage × Seen
  pub plays : Plays NotesTurn (start_of input) (no_tree, nothing_seen wanted told_before) commands ended (number_of script) end
  pub gives : MatchResult ended
      (λ done. Answers end.0.world end.1 before after told_after status)
      (λ stop. TellsStop script stop end.1.reported told_after status × (after ≡ before))
