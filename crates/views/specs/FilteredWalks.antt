-- The filtered walks: what each has left, and what its calls return from either end.
use Rattle.std.specs.Prelude.{◌≡◌, List, map, reverse, Option}
use Rattle.std.specs.Iterator.{YieldsFirstBy, YieldsLastBy}
use Rattle.model.specs.declared.FullNodeId.{FullNodeId}
use Rattle.model.specs.declared.filters.FilterResult.{FilterResult}
use Rattle.model.specs.World.{World}
use Rattle.model.specs.Views.{item_filter}
use Rattle.model.specs.Mixtures.{Call, AreCalls, AreTaken, call_seen}
use Rattle.views.specs.declared.node.node_ref.NodeRef.{NodeRef}
use Rattle.views.specs.declared.walks.course.Course.{Course}
use Rattle.views.specs.declared.walks.filtered.FilteredChildren.{FilteredChildren}
use Rattle.views.specs.declared.walks.filtered.FollowingFilteredSiblings.{FollowingFilteredSiblings}
use Rattle.views.specs.declared.walks.filtered.PrecedingFilteredSiblings.{PrecedingFilteredSiblings}
use Rattle.views.specs.declared.walks.descendants.FilteredDescendants.{FilteredDescendants}
use Rattle.views.specs.declared.walks.items.Items.{Items}
use Rattle.views.specs.Nodes.{id_at}
use Rattle.views.specs.Follows.{Follows}
use Rattle.views.specs.Walks.{walked_world, IsOnCourse, ids_left, WalksOn}
use Rattle.views.specs.Descents.{IsOnDescent, descent_left}

-- a walk of type S with a filter of type F, as contracts see it: the filter, the walk's state, and for a filter that answers f
-- that its ends are shown, and the ids that it has left
pub record WalkOf (S F : Type 0) : Type 1 where
  pub filter : S → F
  pub course : S → Course
  pub OnCourse : (FullNodeId → FilterResult) → S → Type 0
  pub left : (FullNodeId → FilterResult) → S → List FullNodeId

-- the walk is in this world, and by each f that the filter follows it has these ids left
pub record BeginsWalk {S F : Type 0} (answers : NodeRef → FilterResult → Type 0) (walk : WalkOf S F) (w : World)
    (ids : (FullNodeId → FilterResult) → List FullNodeId) (s : S) : Type 0 where
  pub world : walked_world (walk.course s) ≡ w
  pub list : (f : FullNodeId → FilterResult) → Follows answers w f → walk.OnCourse f s × (walk.left f s ≡ ids f)

-- the filter stays; the walk stays in its world, each item is a node of that, and at its end the walk stays there;
-- and by each f that the filter follows the call returns an item of what is left from one end
pub record Gives {S F : Type 0} (Yields : (S → List FullNodeId) → S → Option NodeRef → S → Type 0)
    (answers : F → NodeRef → FilterResult → Type 0) (walk : WalkOf S F) (s : S) (r : Option NodeRef) (t : S) : Type 0 where
  pub filter : walk.filter t ≡ walk.filter s
  pub goes : WalksOn (walk.course s) r (walk.course t)
  pub list : (f : FullNodeId → FilterResult) → Follows (answers (walk.filter s)) (walked_world (walk.course s)) f → walk.OnCourse f s →
      walk.OnCourse f t × Yields (walk.left f) s r t

-- the first
abbrev pub GivesFirst : {S F : Type 0} → (F → NodeRef → FilterResult → Type 0) → WalkOf S F → S → Option NodeRef → S → Type 0
GivesFirst = Gives (YieldsFirstBy id_at)

-- or the last
abbrev pub GivesLast : {S F : Type 0} → (F → NodeRef → FilterResult → Type 0) → WalkOf S F → S → Option NodeRef → S → Type 0
GivesLast = Gives (YieldsLastBy id_at)

-- however calls at both ends are mixed, by each f that the filter follows they take what is left
abbrev pub MixturesTakeShown : {S F : Type 0} → (S → Option NodeRef → S → Type 0) → (S → Option NodeRef → S → Type 0)
    → (F → NodeRef → FilterResult → Type 0) → WalkOf S F → Type 0
MixturesTakeShown {S} next next_back answers walk =
    (s t : S) (calls : List (Call NodeRef)) → AreCalls next next_back s calls t → (f : FullNodeId → FilterResult)
    → Follows (answers (walk.filter s)) (walked_world (walk.course s)) f → walk.OnCourse f s →
    AreTaken (walk.left f s) (map (call_seen id_at) calls) (walk.left f t)

-- a walk whose ids are those of its state
abbrev walk_by : {S F : Type 0} → (S → F) → (S → Course) → ((FullNodeId → FilterResult) → Course → Type 0)
    → ((FullNodeId → FilterResult) → Course → List FullNodeId) → WalkOf S F
walk_by filter course On left =
    record { filter = filter; course = course; OnCourse = λ f s. On f (course s); left = λ f s. left f (course s) }

abbrev pub children_walk : {F : Type 0} → WalkOf (FilteredChildren F) F
children_walk = walk_by (λ s. s.filter) (λ s. s.course) IsOnCourse ids_left

abbrev pub following_walk : {F : Type 0} → WalkOf (FollowingFilteredSiblings F) F
following_walk = walk_by (λ s. s.filter) (λ s. s.course) IsOnCourse ids_left

-- nearest first
abbrev pub preceding_walk : {F : Type 0} → WalkOf (PrecedingFilteredSiblings F) F
preceding_walk = walk_by (λ s. s.filter) (λ s. s.course) IsOnCourse (λ f c. reverse (ids_left f c))

-- over all depths
abbrev pub descendants_walk : {F : Type 0} → WalkOf (FilteredDescendants F) F
descendants_walk = walk_by (λ s. s.filter) (λ s. s.course) IsOnDescent descent_left

-- of the items, by the answer of f for a node that is one
abbrev pub items_walk : {F : Type 0} → WalkOf (Items F) F
items_walk = record {
  filter = λ s. s.filter.filter;
  course = λ s. s.course;
  OnCourse = λ f s. IsOnCourse (item_filter f (walked_world s.course)) s.course;
  left = λ f s. ids_left (item_filter f (walked_world s.course)) s.course;
}
