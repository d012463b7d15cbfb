-- What is written of a script, command by command.
use Rattle.std.specs.Io.KnownBytes.{Keeps}
use Rattle.std.specs.Prelude.{◌≡◌, ◌≢◌, ◌⊎◌, ℕ, Bool, Option, Some, None, MatchOption, IsSomeAnd, Result, Ok, Err}
use Rattle.atree_script.specs.Playing.{Turn, Begun, FirstRefused, Ran, Asked, Printed}
use Rattle.atree_script.specs.Played.{Bytes, PlaysOut}
use Rattle.atree_script.specs.Reports.{ReportsRefusal}
use Rattle.atree_script.specs.declared.playing.Played.{Played}
use Rattle.model.specs.Mirror.{Records, AreRecordsOf}
use Rattle.model.specs.World.{World}
use Rattle.script_words.specs.declared.stops.Stop.{Stop}
use Rattle.script_lines.specs.Ends.{Tells, TellsFault, told_at_end, status_at_end}
use Rattle.script_words.specs.declared.stops.Stop.TheVariants.{BadLine, Memory}
use Rattle.session.specs.declared.commands.Command.{Command}
use Rattle.speaking.specs.declared.speaker.Speaker.{Speaker}
use Rattle.speak.specs.Numbers.{after_command, after_one, first_heading, none_yet}
use Rattle.speak.specs.Steps.{IsBegun, SaysAtEnd, SpokenStep}
use Rattle.speak.specs.declared.numbering.Numbering.{Numbering}

-- a script as far as it is spoken: the numbers of its updates, a speaker and its mirror, once there is a tree, what is written, and what
-- is reported
pub record Aloud : Type 0 where
  pub numbering : Numbering
  pub told : Option (Speaker × Option Records)
  pub written : Bytes
  pub reported : Bytes

abbrev pub aloud_of : Numbering → Option (Speaker × Option Records) → Bytes → Bytes → Aloud
aloud_of n told written reported = record { numbering = n; told = told; written = written; reported = reported }

-- nothing is said, and the speaker is as before
abbrev pub SaysNothing : Aloud → Aloud → Type 0
SaysNothing s t = (t.told ≡ s.told) × (t.written ≡ s.written)

-- a new speaker says the focus of the tree, which is written, and has a mirror of the tree
abbrev pub BeginsAloud : World → Aloud → Result Unit Stop → Aloud → Type 0
BeginsAloud w s result t =
    (begun : Speaker) × (told : Speaker) × (mirror : Option Records) × IsBegun w begun × IsSomeAnd mirror (AreRecordsOf w)
    × (t.told ≡ Some (told, mirror))
    × SaysAtEnd (first_heading t.numbering) w mirror begun told result s.written t.written

-- there is a speaker since the tree was made, and what it says of a step is written
abbrev pub StepsAloud : ℕ → World → Command → World → Aloud → Result Unit Stop → Aloud → Type 0
StepsAloud line old c new s result t =
    MatchOption s.told ((new ≡ old) × SaysNothing s t × (t.reported ≡ s.reported) × (result ≡ Ok tt))
    (λ told. (after : Speaker × Option Records) × (t.told ≡ Some after)
    × SpokenStep t.numbering line old c new told after result s.written t.written s.reported t.reported)

-- What a command writes. Each update is counted. A refused first update says nothing, and is reported; a query or a `print` says
-- nothing. No tree begins where there is no memory for its mirror.
abbrev pub Utters : Aloud → Turn → Result Unit Stop → Aloud → Type 0
Utters s (Begun comment w) result t =
    (t.numbering ≡ after_one s.numbering) × (t.reported ≡ s.reported) ×
    (((result ≡ Err Memory) × SaysNothing s t) ⊎ BeginsAloud w s result t)
Utters s (FirstRefused comment line why) result t =
    (t.numbering ≡ after_one s.numbering) × SaysNothing s t × ReportsRefusal t.numbering.updates line why result s.reported t.reported
Utters s (Ran comment line old c new) result t = (t.numbering ≡ after_command s.numbering c) × StepsAloud line old c new s result t
Utters s (Asked old q new) result t = (new ≡ old) × (t ≡ s) × (result ≡ Ok tt)
Utters s (Printed w) result t = (t ≡ s) × (result ≡ Ok tt)

-- why the run ended is reported: a bad line with its column and what is wrong in it, and anything else as of any script
pub record ReportsEnd (played : Played) (before after : Bytes) (status : ℕ) : Type 0 where
  pub bad : played.ended ≡ Err BadLine → TellsFault played.script before after status
  pub other : played.ended ≢ Err BadLine → Tells before after (told_at_end played.number played.ended) (status_at_end played.ended) status

-- A script is run, and spoken. What was said stands at the end; refused updates are reported, and then why the run ended.
pub record SpeaksScript (numbered : Bool) (input before after told_before told_after : Bytes) (status : ℕ) : Type 0 where
  pub played : Played
  pub end : Aloud
  pub plays : PlaysOut Utters input (aloud_of (none_yet numbered) None before told_before) played end
  pub kept : Keeps end.written after
  pub reports : ReportsEnd played end.reported told_after status
