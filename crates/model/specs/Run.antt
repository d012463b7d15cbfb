-- A run: commands one after another, with their effects on the world, their events and their replies.
use Rattle.std.specs.Prelude.{◌≡◌, ℕ, Bool, IsTrue, List, [], ◌∷◌, ◌++◌, take, slice_get, Some, ◌⊎◌, ◌↔◌, ⊤}
use Rattle.model.specs.declared.queries.Query.{Query}
use Rattle.model.specs.World.{World}
use Rattle.model.specs.Update.{UpdateData, Fault, index_for, Stands, IsAccepted}
use Rattle.model.specs.State.{empty_world, with_host}
use Rattle.model.specs.Events.{Event}
use Rattle.model.specs.Answers.{Answer}
use Rattle.model.specs.Queries.{answer_of, takes_memory}
use Rattle.model.specs.Differences.{PlanEvent, events, told_root, AreOfFocus, AreDifferences}

pub data CommandData : Type 0 where
  ToUpdate : (update : UpdateData) → CommandData
  ToHostFocus : (focused : Bool) → CommandData
  ToQuery : (query : Query) → CommandData

pub data ReplyData : Type 0 where
  Accepted : ReplyData
  Refused : (fault : Fault) → ReplyData
  OutOfMemory : ReplyData
  Answered : (answer : Answer) → ReplyData

-- the world that the first update makes; it reports nothing
abbrev pub Begins : Bool → UpdateData → World → Type 0
Begins host_focused u new = IsAccepted (empty_world host_focused) u new

-- the events of an accepted update
abbrev pub AreToldBy : World → UpdateData → World → List PlanEvent → Type 0
AreToldBy old u new differences = AreDifferences old new (told_root (index_for old u.name) u.info) differences

-- The effect of a command on a world, its events, and its reply. A refused update, lack of memory, and a query change nothing.
abbrev pub Does : World → CommandData → World → List Event → ReplyData → Type 0
Does old (ToUpdate u) new told Accepted =
    IsAccepted old u new × (differences : List PlanEvent) × AreToldBy old u new differences × (told ≡ events old new differences)
Does old (ToUpdate u) new told (Refused fault) = Stands old u fault × (new ≡ old) × (told ≡ [])
Does old (ToUpdate u) new told OutOfMemory = (new ≡ old) × (told ≡ [])
Does old (ToUpdate u) new told (Answered answer) = ⊥
Does old (ToHostFocus focused) new told Accepted =
    (new ≡ with_host old focused) × (differences : List PlanEvent) × AreOfFocus old new [] differences
    × (told ≡ events old new differences)
Does old (ToHostFocus focused) new told (Refused fault) = ⊥
Does old (ToHostFocus focused) new told OutOfMemory = ⊥
Does old (ToHostFocus focused) new told (Answered answer) = ⊥
Does old (ToQuery query) new told reply = (new ≡ old) × (told ≡ []) × (reply ≡ Answered (answer_of old query))

-- The commands in turn take the world w to v; these events are reported, and there is a reply to each command.
abbrev pub Runs : World → List CommandData → World → List Event → List ReplyData → Type 0
Runs w [] v told replies = (w ≡ v) × (told ≡ []) × (replies ≡ [])
Runs w (c ∷ cs) v told replies =
    (next : World) × (first rest : List Event) × (reply : ReplyData) × (others : List ReplyData)
    × Does w c next first reply × Runs next cs v rest others × (told ≡ first ++ rest) × (replies ≡ reply ∷ others)

-- the same reply, apart from the rule that is named
abbrev pub AreAlike : ReplyData → ReplyData → Type 0
AreAlike (Refused f) (Refused g) = ⊤
AreAlike r s = r ≡ s

-- memory ran out at both or at neither
abbrev pub WantAlike : ReplyData → ReplyData → Type 0
WantAlike r s = (r ≡ OutOfMemory) ↔ (s ≡ OutOfMemory)

-- A run may stop before its first command, if memory for its replies runs out, and at a query whose reply allocates.
abbrev pub MayStop : ℕ → List CommandData → Type 0
MayStop done cs = (done ≡ 0) ⊎ ((q : Query) × (slice_get cs done ≡ Some (ToQuery q)) × IsTrue (takes_memory q))

-- A run that stops is the run of its first commands; the others weren't run.
abbrev pub RunsUpTo : ℕ → World → List CommandData → World → List Event → List ReplyData → Type 0
RunsUpTo done w cs v told replies = MayStop done cs × Runs w (take done cs) v told replies
