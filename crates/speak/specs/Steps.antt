-- The events of a step that a speaker and its mirror receive, and what is written of the step.
use Rattle.std.specs.Prelude.{◌≡◌, ℕ, List, [], ◌++◌, false, Bool, Option, Some, None, OnOk, option_map, if◌then◌else◌, Result, Ok, Err}
use Rattle.std.specs.declared.alloc.AllocError.{AllocError}
use Rattle.atree_script.specs.Played.{Bytes}
use Rattle.atree_script.specs.Reports.{ReportsReply}
use Rattle.atree_script.specs.Scripts.{Writes}
use Rattle.model.specs.declared.FullNodeId.{FullNodeId}
use Rattle.model.specs.Events.{Event, Told}
use Rattle.model.specs.Mirror.{Records, MirrorsWhileKept}
use Rattle.model.specs.World.{World}
use Rattle.script_words.specs.declared.stops.Stop.{Stop}
use Rattle.script_words.specs.declared.stops.Stop.TheVariants.{Memory}
use Rattle.session.specs.Replied.{IsStep}
use Rattle.session.specs.declared.commands.Command.{Command}
use Rattle.session.specs.declared.commands.Reply.{Reply}
use Rattle.speaking.specs.declared.speaker.Speaker.{Speaker}
use Rattle.speaking.specs.Edits.{Settles}
use Rattle.speaking.specs.Events.{Begins, IsStillSaying, Speaks}
use Rattle.speaking.specs.News.{no_news}
use Rattle.speaking.specs.Speakers.{said_by, waiting_in, text_held_by, news_of, fell_silent}
use Rattle.speak.specs.Numbers.{heading_after, heading_of, heading_text}
use Rattle.speak.specs.declared.numbering.Heading.{Heading}
use Rattle.speak.specs.declared.numbering.Numbering.{Numbering}

-- a speaker that had said nothing has said the focus of a new tree
pub record IsBegun (w : World) (t : Speaker) : Type 0 where
  pub before : Speaker
  pub said : said_by before ≡ []
  pub waiting : waiting_in before ≡ []
  pub news : news_of before ≡ no_news
  pub speaks : fell_silent before ≡ false
  pub begins : Begins w before t

-- both receive an event
abbrev pub Hears : Speaker × Option Records → Event → Speaker × Option Records → Type 0
Hears s e t = Speaks s.0 e t.0 × MirrorsWhileKept s.1 e t.1

-- The command takes a step of the session, both receive its events in order, and no others, and this is the reply. Before, the speaker
-- forgets what it looked up in other worlds.
pub record StepsHeard (old : World) (c : Command) (new : World) (s t : Speaker × Option Records)
    (reply : Result Reply AllocError) : Type 0 where
  pub start : Speaker
  pub same : IsStillSaying s.0 start
  pub events : List Event
  pub step : IsStep old c new events reply
  pub told : Told Hears (start, s.1) events t

-- one that fell silent has lost something, so the run stops
abbrev pub end_of_silence : Bool → Result Unit Stop
end_of_silence silent = if silent then Err Memory else Ok tt

-- a speaker ends a step in this world, with the focus of its mirror; a mirror that ran out of memory has no focus, and the run stops
abbrev pub Ends : World → Option (Option FullNodeId) → Speaker → Speaker → Result Unit Stop → Type 0
Ends w None s t result = (t ≡ s) × (result ≡ Err Memory)
Ends w (Some focus) s t result = Settles w focus s t × (result ≡ end_of_silence (fell_silent t))

-- what was said is taken from the speaker, which stays as it is otherwise
pub record IsTaken (s t : Speaker) : Type 0 where
  pub said : said_by t ≡ []
  pub waiting : waiting_in t ≡ waiting_in s
  pub text : text_held_by t ≡ text_held_by s
  pub news : news_of t ≡ news_of s
  pub silent : fell_silent t ≡ fell_silent s

-- A step ends in this world: exactly what the speaker has said since the last one, to the step's end, is written, under its heading.
-- Where memory has run out the run then stops.
pub record SaysAtEnd (heading : Option Heading) (w : World) (m : Option Records) (s t : Speaker) (result : Result Unit Stop)
    (before after : Bytes) : Type 0 where
  pub settled : Speaker
  pub ended : Result Unit Stop
  pub ends : Ends w (option_map (λ r. r.focus) m) s settled ended
  pub written : Writes (heading_text heading ++ said_by settled) ended result before after
  pub taken : OnOk result (IsTaken settled t)

-- a step that stops the run says nothing; after another one what is said of it is written
abbrev pub SaysAfter : Option Heading → World → Result Unit Stop → Speaker × Option Records → Speaker × Option Records → Result Unit Stop
    → Bytes → Bytes → Type 0
SaysAfter heading w (Err stop) s t result before after = (t ≡ s) × (result ≡ Err stop) × (after ≡ before)
SaysAfter heading w (Ok done) s t result before after = SaysAtEnd heading w s.1 s.0 t.0 result before after × (t.1 ≡ s.1)

-- both receive the events of a step, a refused update is reported, and what is said of the step is written
pub record SpokenStep (n : Numbering) (line : ℕ) (old : World) (c : Command) (new : World) (s t : Speaker × Option Records)
    (result : Result Unit Stop) (before after told_before told_after : Bytes) : Type 0 where
  pub between : Speaker × Option Records
  pub reply : Result Reply AllocError
  pub heard : StepsHeard old c new s between reply
  pub goes_on : Result Unit Stop
  pub reports : ReportsReply n.updates line reply goes_on told_before told_after
  pub says : SaysAfter (heading_after (heading_of n c) reply) new goes_on between t result before after
