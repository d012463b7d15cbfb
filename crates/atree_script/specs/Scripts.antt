-- What is printed of a script.
use Rattle.std.specs.Prelude.{◌≡◌, ◌⊎◌, ℕ, List, [], ◌++◌, codes, flat_map, Option, Some, None, Result, Ok, Err}
use Rattle.std.specs.Option.{option_map_or}
use Rattle.std.specs.Io.KnownBytes.{Appends}
use Rattle.std.specs.declared.alloc.AllocError.{AllocError}
use Rattle.model.specs.Events.{Event}
use Rattle.model.specs.World.{World}
use Rattle.script_words.specs.declared.stops.Stop.{Stop}
use Rattle.script_words.specs.declared.stops.Stop.TheVariants.{WriteFault, Memory}
use Rattle.session.specs.Replied.{IsStep}
use Rattle.session.specs.declared.commands.Command.{Command}
use Rattle.session.specs.declared.commands.Command.TheVariants as command
use Rattle.session.specs.declared.commands.Reply.{Reply}
use Rattle.atree_script.specs.Outline.{tree_text}
use Rattle.atree_script.specs.Played.{Bytes, RunsBy}
use Rattle.atree_script.specs.Playing.{Turn, Begun, FirstRefused, Ran, Asked, Printed}
use Rattle.atree_script.specs.Printed.{event_line}
use Rattle.atree_script.specs.Refused.{refusal_line}
use Rattle.atree_script.specs.Replies.{reply_line}

-- the text is written, with this result; or the output had an error
abbrev pub Writes : List ℕ → Result Unit Stop → Result Unit Stop → Bytes → Bytes → Type 0
Writes text ended result before after = (result ≡ Err WriteFault) ⊎ ((result ≡ ended) × Appends before after text)

-- the line of a reply, if there is one; without memory for it the script stops
abbrev pub reply_text : Result Reply AllocError → List ℕ
reply_text (Ok reply) = reply_line reply
reply_text (Err wanting) = []

abbrev pub end_after : Result Reply AllocError → Result Unit Stop
end_after (Ok reply) = Ok tt
end_after (Err wanting) = Err Memory

-- a command takes a step of the session, whose events are printed, and then the reply
pub record PrintsStep (old : World) (c : Command) (new : World) (result : Result Unit Stop) (before after : Bytes) : Type 0 where
  pub events : List Event
  pub reply : Result Reply AllocError
  pub step : IsStep old c new events reply
  pub printed : Writes (flat_map event_line events ++ reply_text reply) (end_after reply) result before after

-- what is printed of a question, with the tree before it and the one after it
abbrev pub PrintsAnswer : Option World → Command → Option World → Result Unit Stop → Bytes → Bytes → Type 0
PrintsAnswer None c new result before after = (new ≡ None) × Writes (codes "no tree\n") (Ok tt) result before after
PrintsAnswer (Some w) c None result before after = ⊥
PrintsAnswer (Some w) c (Some v) result before after = PrintsStep w c v result before after

-- what is printed of a turn
abbrev pub Prints : Bytes → Turn → Result Unit Stop → Bytes → Type 0
Prints before (Begun comment w) result after = Writes (codes "ok\n") (Ok tt) result before after
Prints before (FirstRefused comment line why) result after = Writes (refusal_line why) (Ok tt) result before after
Prints before (Ran comment line old c new) result after = PrintsStep old c new result before after
Prints before (Asked old q new) result after = PrintsAnswer old (command.Query q) new result before after
Prints before (Printed w) result after = Writes (option_map_or tree_text w (codes "no tree\n")) (Ok tt) result before after

-- a script is run, and printed
abbrev pub RunsScript : Bytes → Bytes → Bytes → Bytes → Bytes → ℕ → Type 0
RunsScript input before after told_before told_after status =
    RunsBy Prints (λ printed. printed) before input after told_before told_after status
