-- Runs that differ in the characters of one password alone, and which of their replies and events are the same.
use Rattle.std.specs.Prelude.{◌≡◌, ℕ, ◌==◌, Bool, false, not, ◌&&◌, ◌||◌, List, [], ◌∷◌, map, filter, Some, option_map, if◌then◌else◌, ⊤}
use Rattle.std.specs.List.{list_any}
use Rattle.schema.specs.NodeData.{NodeData}
use Rattle.schema.specs.Roles.{same_role}
use Rattle.schema.specs.declared.NodeId.{NodeId}
use Rattle.schema.specs.declared.TreeId.{TreeId}
use Rattle.schema.specs.declared.Role.TheVariants.{TextRun}
use Rattle.model.specs.declared.FullNodeId.{FullNodeId}
use Rattle.model.specs.declared.queries.Query.{Query}
use Rattle.model.specs.declared.queries.Query.TheVariants as query
use Rattle.model.specs.World.{World, in_tree}
use Rattle.model.specs.Forest.{is_same}
use Rattle.model.specs.Update.{UpdateData, index_for}
use Rattle.model.specs.Events.{Event, Seen, NodeAdded, NodeUpdated, NodeRemoved}
use Rattle.model.specs.Events as handler
use Rattle.model.specs.Differences.{PlanEvent, Added, Updated, FocusMoved, Removed}
use Rattle.model.specs.Run.{CommandData, ReplyData, ToUpdate, ToHostFocus, ToQuery, Does, AreAlike, WantAlike, Runs}
use Rattle.model.specs.TextRuns.{run_ids}
use Rattle.model.specs.Queries.{node_named}
use Rattle.model.specs.Outline.{without_value, without_text}
use Rattle.model.specs.Shape.{AreAlikeWorlds}

-- ---- alike runs

-- the entry of an update of the tree with this index: of a run in the password's tree without its text, of the password without its own
-- value
abbrev pub unveiled_entry : FullNodeId → ℕ → NodeId × NodeData → NodeId × NodeData
unveiled_entry p index e =
    if index == p.tree && same_role e.1.role TextRun then (e.0, without_text e.1)
    else if is_same (in_tree index e.0) p then (e.0, without_value e.1) else e

-- two updates that differ at most in these; the names have the same indexes in both worlds
pub record AreAlikeUpdates (p : FullNodeId) (w : World) (u v : UpdateData) : Type 0 where
  pub name : u.name ≡ v.name
  pub info : u.info ≡ v.info
  pub focus : u.focus ≡ v.focus
  pub nodes : map (unveiled_entry p (index_for w u.name)) u.nodes ≡ map (unveiled_entry p (index_for w u.name)) v.nodes

abbrev pub AreAlikeCommands : FullNodeId → World → CommandData → CommandData → Type 0
AreAlikeCommands p w (ToUpdate u) (ToUpdate v) = AreAlikeUpdates p w u v
AreAlikeCommands p w (ToHostFocus a) (ToHostFocus b) = a ≡ b
AreAlikeCommands p w (ToQuery q) (ToQuery r) = q ≡ r
AreAlikeCommands p w (ToUpdate u) (ToHostFocus b) = ⊥
AreAlikeCommands p w (ToUpdate u) (ToQuery r) = ⊥
AreAlikeCommands p w (ToHostFocus a) (ToUpdate v) = ⊥
AreAlikeCommands p w (ToHostFocus a) (ToQuery r) = ⊥
AreAlikeCommands p w (ToQuery q) (ToUpdate v) = ⊥
AreAlikeCommands p w (ToQuery q) (ToHostFocus b) = ⊥

-- Two lists of commands with their replies: alike commands, memory running out at the same ones, and alike worlds at the start and
-- after each.
abbrev pub AreAlikeRuns : FullNodeId → World → List CommandData → List ReplyData → World → List CommandData → List ReplyData → Type 0
AreAlikeRuns p w [] rs v ds ss = AreAlikeWorlds p w v × (rs ≡ []) × (ds ≡ []) × (ss ≡ [])
AreAlikeRuns p w (c ∷ cs) [] v ds ss = ⊥
AreAlikeRuns p w (c ∷ cs) (r ∷ rs) v [] ss = ⊥
AreAlikeRuns p w (c ∷ cs) (r ∷ rs) v (d ∷ ds) [] = ⊥
AreAlikeRuns p w (c ∷ cs) (r ∷ rs) v (d ∷ ds) (s ∷ ss) =
    AreAlikeWorlds p w v × AreAlikeCommands p w c d × WantAlike r s
    × ((next other : World) (told heard : List Event) → Does w c next told r → Does v d other heard s
    → AreAlikeRuns p next cs rs other ds ss)

-- ---- replies

-- the name is that of the password, or of no node
abbrev pub IsAtMost : FullNodeId → World → NodeId × TreeId → Type 0
IsAtMost p w name = (id : FullNodeId) → node_named w name ≡ Some id → id ≡ p

-- The answer reveals nothing of the secret. A label may reveal it, and so may the value or the text of another node that contains the
-- password.
abbrev pub KeepsSecret : FullNodeId → World → Query → Type 0
KeepsSecret p w (query.Label name) = ⊥
KeepsSecret p w (query.Value name) = IsAtMost p w name
KeepsSecret p w (query.Text name) = IsAtMost p w name
KeepsSecret p w (query.Move name at move) = IsAtMost p w name
KeepsSecret p w (query.Indexes name at) = IsAtMost p w name
KeepsSecret p w (query.RangeText name from to) = IsAtMost p w name
KeepsSecret p w q = ⊤

-- Two replies to a command are the same, apart from what may reveal the secret and from the rule that a refusal names.
abbrev pub ReplyAlike : FullNodeId → World → CommandData → ReplyData → ReplyData → Type 0
ReplyAlike p w (ToQuery q) r s = KeepsSecret p w q → r ≡ s
ReplyAlike p w (ToUpdate u) r s = AreAlike r s
ReplyAlike p w (ToHostFocus focused) r s = r ≡ s

-- likewise to each of the commands in turn
abbrev pub AreAlikeReplies : FullNodeId → World → List CommandData → List ReplyData → List ReplyData → Type 0
AreAlikeReplies p w [] rs ss = (rs ≡ []) × (ss ≡ [])
AreAlikeReplies p w (c ∷ cs) [] ss = ⊥
AreAlikeReplies p w (c ∷ cs) (r ∷ rs) [] = ⊥
AreAlikeReplies p w (c ∷ cs) (r ∷ rs) (s ∷ ss) =
    ReplyAlike p w c r s × ((next : World) (told : List Event) → Does w c next told r → AreAlikeReplies p next cs rs ss)

-- ---- events

-- the kind of an event, and its ids
abbrev pub difference_of : Event → PlanEvent
difference_of (NodeAdded new) = Added new.id
difference_of (NodeUpdated old new) = Updated new.id
difference_of (handler.Event.FocusMoved old new) = FocusMoved (option_map (λ s. s.id) old) (option_map (λ s. s.id) new)
difference_of (NodeRemoved old) = Removed old.id

-- the node that is seen is the password or one of its runs
abbrev pub is_of_secret : FullNodeId → Seen → Bool
is_of_secret p s = is_same s.id p || list_any (is_same s.id) (run_ids s.world p)

-- the password, or one of its runs before or after, is reported as updated
abbrev pub tells_of_secret : FullNodeId → Event → Bool
tells_of_secret p (NodeUpdated old new) = is_of_secret p old || is_of_secret p new
tells_of_secret p (NodeAdded new) = false
tells_of_secret p (handler.Event.FocusMoved old new) = false
tells_of_secret p (NodeRemoved old) = false

-- all other events, each by its kind and its ids alone
abbrev pub told_openly : FullNodeId → List Event → List PlanEvent
told_openly p told = map difference_of (filter (λ e. not (tells_of_secret p e)) told)

-- ---- runs that show nothing

-- Each run that is alike has alike replies and reports the same openly, so replies and open events don't distinguish them.
abbrev pub RunsAlike : World → List CommandData → List Event → List ReplyData → Type 0
RunsAlike w cs told rs =
    (p : FullNodeId) (v other : World) (ds : List CommandData) (heard : List Event) (ss : List ReplyData)
    → AreAlikeRuns p w cs rs v ds ss → Runs v ds other heard ss →
    AreAlikeReplies p w cs rs ss × (told_openly p told ≡ told_openly p heard)
