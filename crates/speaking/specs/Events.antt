-- What is said of each event.
use Rattle.std.specs.Prelude.{◌≡◌, ⊤, false, IsTrue, Option, None, option_map}
use Rattle.model.specs.declared.FullNodeId.{FullNodeId}
use Rattle.model.specs.World.{World}
use Rattle.model.specs.Events.{Seen, seen_in, Event, NodeAdded, NodeUpdated, FocusMoved, NodeRemoved}
use Rattle.model.specs.Focus.{IsFocus, IsFocusedNode}
use Rattle.phrases.specs.Voices.{Speech}
use Rattle.speaking.specs.declared.news.News.{News}
use Rattle.speaking.specs.declared.speaker.Speaker.{Speaker}
use Rattle.speaking.specs.Above.{IsReady}
use Rattle.speaking.specs.Changes.{SaysChange}
use Rattle.speaking.specs.Dialogs.{SaysMoved}
use Rattle.speaking.specs.LiveTexts.{TellsNew, TellsChange}

abbrev pub HasFocus : Seen → Type 0
HasFocus n = IsFocusedNode n.world n.id

-- a new node is noted unless it is focused; then the move of the focus is said
pub record SaysAdded (new : Seen) (m n : News) : Type 0 where
  pub focus : HasFocus new → n ≡ m
  pub other : ¬ (HasFocus new) → TellsNew new m n

-- of the focused node the changes are said, unless the focus has just moved there; any other node is noted
pub record SaysUpdated (old new : Seen) (v u : Speech) (m n : News) : Type 0 where
  pub stayed : HasFocus old → HasFocus new → SaysChange old new v u × (n ≡ m)
  pub come : ¬ (HasFocus old) → HasFocus new → (u ≡ v) × (n ≡ m)
  pub other : ¬ (HasFocus new) → (u ≡ v) × TellsChange old new m n

-- what is said of an event, and what is noted as new in live regions
abbrev pub Says : Event → Speech → Speech → News → News → Type 0
Says (NodeAdded new) v u m n = (u ≡ v) × SaysAdded new m n
Says (NodeUpdated old new) v u m n = SaysUpdated old new v u m n
Says (FocusMoved old new) v u m n = SaysMoved old new v u × (n ≡ m)
Says (NodeRemoved old) v u m n = (u ≡ v) × (n ≡ m)

-- what it has looked up in these worlds is right
abbrev pub KnowsRightly : World → World → Speaker → Type 0
KnowsRightly old new s = IsReady old new s.looks

-- the event is one of a step from the one world to the other
abbrev pub IsOfStep : World → World → Event → Type 0
IsOfStep old new (NodeAdded n) = n.world ≡ new
IsOfStep old new (NodeUpdated o n) = (o.world ≡ old) × (n.world ≡ new)
IsOfStep old new (FocusMoved before after) = ⊤
IsOfStep old new (NodeRemoved o) = ⊤

-- A speaker that knows rightly says what there is to say of an event of the step, and still knows rightly, unless an allocation
-- fails; from then on it is silent, and has said what it had said before the event.
pub record Hears (s : Speaker) (e : Event) (t : Speaker) : Type 0 where
  pub silent : IsTrue s.is_silent → t ≡ s
  pub says : (old new : World) → IsOfStep old new e → KnowsRightly old new s → t.is_silent ≡ false →
      Says e s.voice t.voice s.news t.news × KnowsRightly old new t
  pub kept : IsTrue t.is_silent → t.voice ≡ s.voice
  pub text : t.text ≡ s.text

-- the same of a speaker in a step
pub record Speaks (s : Speaker) (e : Event) (t : Speaker) : Type 0 where
  pub silent : IsTrue s.is_silent → t ≡ s
  pub says : t.is_silent ≡ false → Says e s.voice t.voice s.news t.news
  pub kept : IsTrue t.is_silent → t.voice ≡ s.voice
  pub text : t.text ≡ s.text

-- of a new tree the focus is said, or nothing where an allocation fails
pub record Begins (w : World) (s t : Speaker) : Type 0 where
  pub focus : Option FullNodeId
  pub is : IsFocus w focus
  pub says : t.is_silent ≡ false → SaysMoved None (option_map (seen_in w) focus) s.voice t.voice
  pub kept : IsTrue t.is_silent → t.voice ≡ s.voice
  pub news : t.news ≡ s.news
  pub text : t.text ≡ s.text

-- but for what it has looked up it is the same
pub record IsStillSaying (s t : Speaker) : Type 0 where
  pub voice : t.voice ≡ s.voice
  pub news : t.news ≡ s.news
  pub text : t.text ≡ s.text
  pub silent : t.is_silent ≡ s.is_silent
