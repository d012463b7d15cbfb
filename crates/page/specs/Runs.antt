-- What a run of the program writes and reports.
use Rattle.std.specs.Prelude.{◌≡◌, ◌⊎◌, ℕ, List, [], Result, Err}
use Rattle.std.specs.BTreeMap.{IsEmpty}
use Rattle.std.specs.Io.KnownBytes.{Appends, Keeps}
use Rattle.atree_script.specs.Input.{Commented, start_of}
use Rattle.atree_script.specs.declared.playing.Played.{Played}
use Rattle.atree_script.specs.Playing.{Stage, no_tree, Plays}
use Rattle.html.specs.Written.{AppendsBeginning}
use Rattle.script_lines.specs.Ends.{Tells, status_at_end}
use Rattle.script_words.specs.declared.stops.Stop.{Stop}
use Rattle.script_words.specs.declared.stops.Stop.TheVariants.{WriteFault}
use Rattle.page.specs.declared.sections.Titled.{Titled}
use Rattle.page.specs.declared.stops.Ending.{Ending}
use Rattle.page.specs.Endings.{EndsAs, told_text}
use Rattle.page.specs.Heads.{page_head}
use Rattle.page.specs.Reports.{Bytes}
use Rattle.page.specs.Shown.{Kept, Shown, shown_of}
use Rattle.page.specs.States.{page_end}
use Rattle.page.specs.Turns.{Takes, TurnTaken}

-- a text is written, and the script ended so; or the output has an error, and a beginning of the text is written
abbrev pub OrBreaksOff : Result Unit Stop → List ℕ → Result Unit Stop → Bytes → Bytes → Type 0
OrBreaksOff ended text result before after =
    ((result ≡ Err WriteFault) × AppendsBeginning before after text) ⊎ ((result ≡ ended) × Appends before after text)

-- The page ends as the script did, and lists its states; or the output has an error, and a beginning of the end is written. After an error
-- of an output nothing more is written.
abbrev pub WritesEnd : Result Unit Stop → List ℕ → Result Unit Stop → Bytes → Bytes → Type 0
WritesEnd (Err WriteFault) text result before after = (result ≡ Err WriteFault) × (after ≡ before)
WritesEnd ended text result before after = OrBreaksOff ended text result before after

abbrev pub EndsPage : List Titled → Ending → Result Unit Stop → Bytes → Bytes → Type 0
EndsPage states ending result before after =
    WritesEnd ending.ended (page_end states ending.ended ending.line ending.message.items) result before after

-- A script is run after the head of its page, and its states are shown in turn. These turns were taken, with what came of each; one that
-- stopped the script is none of them.
pub record PagesFrom (input head after told_before told_after : Bytes) (status : ℕ) : Type 0 where
  pub unshown : Kept
  pub nothing : IsEmpty unshown
  pub commands : List Commented
  pub played : Played
  pub stage : Stage
  pub end : Shown
  pub turns : List TurnTaken
  pub plays : Plays Takes (start_of input) (no_tree, (shown_of 0 [] unshown head told_before, [])) commands played.ended played.number
      (stage, (end, turns))
  pub ending : Ending
  pub ends_as : EndsAs played ending
  pub result : Result Unit Stop
  pub closed : Bytes
  pub ends : EndsPage end.0.states ending result end.0.written closed
  pub kept : Keeps closed after
  pub tells : Tells end.1 told_after (told_text result ending.line ending.message.items) (status_at_end result) status

-- a page is written from its head to its end
pub record WritesPage (input before after told_before told_after : Bytes) (status : ℕ) : Type 0 where
  pub head : Bytes
  pub begins : Appends before head page_head
  pub pages : PagesFrom input head after told_before told_after status

-- a script is run, and shown as a page; or the output has an error before its first state, and a beginning of the head is written
abbrev pub ShowsScript : Bytes → Bytes → Bytes → Bytes → Bytes → ℕ → Type 0
ShowsScript input before after told_before told_after status =
    ((status ≡ 3) × AppendsBeginning before after page_head) ⊎ WritesPage input before after told_before told_after status
