-- What a walk over what a filter shows has left, and how an item is taken from it.
use Rattle.std.specs.Prelude.{◌≡◌, ℕ, List, Option, None, IfSome, IfNone}
use Rattle.std.specs.Iterator.{YieldsFirstBy, YieldsLastBy}
use Rattle.model.specs.declared.FullNodeId.{FullNodeId}
use Rattle.model.specs.declared.filters.FilterResult.{FilterResult}
use Rattle.model.specs.World.{World}
use Rattle.views.specs.declared.node.node_ref.NodeRef.{NodeRef}
use Rattle.views.specs.declared.walks.course.Course.{Course}
use Rattle.views.specs.ShownWorlds.{world_of}
use Rattle.views.specs.Nodes.{world_at, id_at}
use Rattle.views.specs.Follows.{Follows}
use Rattle.views.specs.Courses.{SpansIf, between_if, work_if}

abbrev pub walked_world : Course → World
walked_world c = world_of c.state

-- its ends are shown, the front before the back
abbrev pub IsOnCourse : (FullNodeId → FilterResult) → Course → Type 0
IsOnCourse f c = SpansIf f (walked_world c) c.top c.ends

-- the ids that it has left
abbrev pub ids_left : (FullNodeId → FilterResult) → Course → List FullNodeId
ids_left f c = between_if f (walked_world c) c.top c.ends

-- more than it can return, whatever the filter answers
abbrev pub work_of : Course → ℕ
work_of c = work_if (walked_world c) c.top c.ends

abbrev pub IsOver : Course → Type 0
IsOver c = c.ends ≡ None

-- the walk is in this world, and by each f that the filter follows it is on its course and has these ids left
pub record HasLeft (On : (FullNodeId → FilterResult) → Course → Type 0) (left : (FullNodeId → FilterResult) → Course → List FullNodeId)
    (answers : NodeRef → FilterResult → Type 0) (w : World) (ids : (FullNodeId → FilterResult) → List FullNodeId) (c : Course)
    : Type 0 where
  pub world : walked_world c ≡ w
  pub list : (f : FullNodeId → FilterResult) → Follows answers w f → On f c × (left f c ≡ ids f)

abbrev pub HasIdsLeft : (NodeRef → FilterResult → Type 0) → World → ((FullNodeId → FilterResult) → List FullNodeId) → Course → Type 0
HasIdsLeft = HasLeft IsOnCourse ids_left

-- what a call leaves of a walk, from either end: it is in the same world, each item is a node of that, and at its end it stays there
pub record WalksOn (s : Course) (r : Option NodeRef) (t : Course) : Type 0 where
  pub world : walked_world t ≡ walked_world s
  pub item : IfSome r (λ n. world_at n ≡ walked_world s)
  pub ends : IfNone r (IsOver t)
  pub stays : IsOver s → r ≡ None

-- by each f that the filter follows, the call takes an item of what is left from one end
pub record Takes (Yields : (Course → List FullNodeId) → Course → Option NodeRef → Course → Type 0)
    (On : (FullNodeId → FilterResult) → Course → Type 0) (left : (FullNodeId → FilterResult) → Course → List FullNodeId)
    (answers : NodeRef → FilterResult → Type 0) (s : Course) (r : Option NodeRef) (t : Course) : Type 0 where
  pub goes : WalksOn s r t
  pub list : (f : FullNodeId → FilterResult) → Follows answers (walked_world s) f → On f s → On f t × Yields (left f) s r t

-- the first
abbrev pub TakesFront : (NodeRef → FilterResult → Type 0) → Course → Option NodeRef → Course → Type 0
TakesFront = Takes (YieldsFirstBy id_at) IsOnCourse ids_left

-- or the last
abbrev pub TakesBack : (NodeRef → FilterResult → Type 0) → Course → Option NodeRef → Course → Type 0
TakesBack = Takes (YieldsLastBy id_at) IsOnCourse ids_left
