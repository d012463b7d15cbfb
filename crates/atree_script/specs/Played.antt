-- The result of playing a script, and of running it.
use Rattle.std.specs.Prelude.{◌≡◌, ℕ, Bool, List, Option, Result}
use Rattle.std.specs.Io.KnownBytes.{Keeps}
use Rattle.model.specs.World.{World}
use Rattle.script_lines.specs.Ends.{Tells, TellsEnd, told_at_end, status_at_end}
use Rattle.script_lines.specs.ScriptReading.{Place}
use Rattle.script_lines.specs.Taking.{number_of}
use Rattle.script_lines.specs.declared.reader.ScriptReader.{ScriptReader}
use Rattle.script_words.specs.declared.stops.Stop.{Stop}
use Rattle.atree_script.specs.Input.{Commented, start_of}
use Rattle.atree_script.specs.Playing.{Turn, Stage, no_tree, Plays}
use Rattle.atree_script.specs.declared.playing.Played.{Played}
use Rattle.atree_script.specs.declared.playing.Playing.{Playing}

-- the bytes of a stream, where they are known
abbrev pub Bytes : Type 0
Bytes = Option (List ℕ)

abbrev pub stage_of : Playing → Stage
stage_of p = record { world = p.session; host = p.is_host_focused }

module _ {P : Type 0} (turns : P → Turn → Result Unit Stop → P → Type 0) where
  -- commands are read and played from here on
  abbrev pub PlaysFrom : Option Place → Playing → P → Result Unit Stop → ℕ → Playing → P → Type 0
  PlaysFrom input old s ended number new t =
      (commands : List Commented) × Plays turns input (stage_of old, s) commands ended number (stage_of new, t)

  -- a whole script is played, and this is the result, with the reader as it is after the last line
  pub record PlaysOut (input : Option (List ℕ)) (s : P) (played : Played) (t : P) : Type 0 where
    pub commands : List Commented
    pub host : Bool
    pub plays : Plays turns (start_of input) (no_tree, s) commands played.ended played.number
        (record { world = played.session; host = host }, t)
    pub numbered : number_of played.script ≡ played.number

-- A script is run: each command of the input in turn, from no tree on, by a player whose output has these bytes. What it has
-- written stands at the end, and why the run ended is reported.
pub record RunsBy {P : Type 0} (turns : P → Turn → Result Unit Stop → P → Type 0) (written : P → Bytes) (start : P)
    (input after told_before told_after : Bytes) (status : ℕ) : Type 0 where
  pub commands : List Commented
  pub ended : Result Unit Stop
  pub number : ℕ
  pub end : Stage × P
  pub plays : Plays turns (start_of input) (no_tree, start) commands ended number end
  pub kept : Keeps (written end.1) after
  pub tells : Tells told_before told_after (told_at_end number ended) (status_at_end ended) status

-- The same, but a bad line is reported with its fault, of which the reader of the script knows.
pub record RunsWithFaults {P : Type 0} (turns : P → Turn → Result Unit Stop → P → Type 0) (written : P → Bytes) (start : P)
    (input after told_before told_after : Bytes) (status : ℕ) : Type 0 where
  pub commands : List Commented
  pub ended : Result Unit Stop
  pub script : ScriptReader
  pub end : Stage × P
  pub plays : Plays turns (start_of input) (no_tree, start) commands ended (number_of script) end
  pub kept : Keeps (written end.1) after
  pub tells : TellsEnd script ended told_before told_after status
