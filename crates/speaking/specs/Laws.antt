-- What is said doesn't depend on what is typed into a password, but for its length.
use Rattle.std.specs.Prelude.{◌≡◌, Option, option_map}
use Rattle.model.specs.declared.FullNodeId.{FullNodeId}
use Rattle.model.specs.Events.{Event, NodeAdded, NodeUpdated, FocusMoved, NodeRemoved, seen_in}
use Rattle.model.specs.Forest.{IsFormed}
use Rattle.model.specs.Values.{is_without_text}
use Rattle.model.specs.World.{World}
use Rattle.hidden_texts.specs.Alike.{DifferInPassword}
use Rattle.phrases.specs.Voices.{Speech}
use Rattle.speaking.specs.declared.news.News.{News}
use Rattle.speaking.specs.declared.speaker.Speaker.{Speaker}
use Rattle.speaking.specs.Changes.{SaysChange}
use Rattle.speaking.specs.Edits.{Settles}
use Rattle.speaking.specs.Events.{Says, Begins}
use Rattle.speaking.specs.LiveTexts.{TellsChange}

-- Two worlds that differ at most in what is typed into one password, and of which the same nodes are without text. The first is
-- formed, as a state is.
pub record AreAlike (p : FullNodeId) (w v : World) : Type 0 where
  pub formed : IsFormed w
  pub typed : DifferInPassword p w v
  pub blank : (id : FullNodeId) → is_without_text w id ≡ is_without_text v id

-- an event of the same nodes in two pairs of such worlds
pub data AreAlikeEvents (p : FullNodeId) : Event → Event → Type 0 where
  added : (w v : World) (id : FullNodeId) → AreAlike p w v → AreAlikeEvents p (NodeAdded (seen_in w id)) (NodeAdded (seen_in v id))
  updated : (o q w v : World) (id : FullNodeId) → AreAlike p o q → AreAlike p w v →
      AreAlikeEvents p (NodeUpdated (seen_in o id) (seen_in w id)) (NodeUpdated (seen_in q id) (seen_in v id))
  moved : (o q w v : World) (from to : Option FullNodeId) → AreAlike p o q → AreAlike p w v →
      AreAlikeEvents p (FocusMoved (option_map (seen_in o) from) (option_map (seen_in w) to))
      (FocusMoved (option_map (seen_in q) from) (option_map (seen_in v) to))
  removed : (o q : World) (id : FullNodeId) → AreAlike p o q → AreAlikeEvents p (NodeRemoved (seen_in o id)) (NodeRemoved (seen_in q id))

-- the same is said of the focus of a new tree
abbrev pub BeginsAlike : Type 0
BeginsAlike = (p : FullNodeId) (w v : World) (s t : Speaker) → AreAlike p w v → Begins w s t → Begins v s t

-- the same is said of such events, and the same noted as new
abbrev pub SaysAlike : Type 0
SaysAlike = (p : FullNodeId) (e f : Event) (v u : Speech) (m n : News) → AreAlikeEvents p e f → Says e v u m n → Says f v u m n

-- the same is said at the end of a step
abbrev pub SettlesAlike : Type 0
SettlesAlike =
    (p : FullNodeId) (w v : World) (focus : Option FullNodeId) (s t : Speaker) → AreAlike p w v → Settles w focus s t → Settles v focus s t

-- what is typed into the password is no change: of the focused node none that is said, and in a live region none that is noted
pub record TypingSaysNothing (p : FullNodeId) (o w : World) (id : FullNodeId) (v u : Speech) (m n : News) : Type 0 where
  pub change : SaysChange (seen_in o id) (seen_in w id) v u → u ≡ v
  pub region : TellsChange (seen_in o id) (seen_in w id) m n → n ≡ m

abbrev pub TypingIsNoChange : Type 0
TypingIsNoChange =
    (p : FullNodeId) (o w : World) (id : FullNodeId) (v u : Speech) (m n : News) → AreAlike p o w → TypingSaysNothing p o w id v u m n
