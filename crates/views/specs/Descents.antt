-- The state of a walk in pre-order over what a filter shows below a node, and what it has left.
use Rattle.std.specs.Prelude.{◌≡◌, ℕ, ◌+◌, ◌≤◌, List, [], ◌∷◌, ◌++◌, length, take, drop, slice_range, cond, Option, Some, None, refl}
use Rattle.std.specs.Coded.{Coded-set, coded_list, le_prop}
use Rattle.std.specs.Iterator.{YieldsFirstBy, YieldsLastBy}
use Rattle.model.specs.declared.FullNodeId.{FullNodeId}
use Rattle.model.specs.declared.filters.FilterResult.{FilterResult}
use Rattle.model.specs.FullIds.{coded_full}
use Rattle.model.specs.World.{World, children, Place}
use Rattle.model.specs.Forest.{plant, below, above, is_same}
use Rattle.model.specs.Covers.{is_included}
use Rattle.model.specs.Beside.{work_from, work_before}
use Rattle.views.specs.declared.node.node_ref.NodeRef.{NodeRef}
use Rattle.views.specs.declared.walks.ends.Ends.{Ends}
use Rattle.views.specs.declared.walks.course.Course.{Course}
use Rattle.views.specs.Nodes.{id_at}
use Rattle.views.specs.Walks.{walked_world, HasLeft, Takes}
use Rattle.views.specs.Descendants.{shown_nodes, filtered_descendants}

-- the node, if it is included
abbrev pub own_part : (FullNodeId → FilterResult) → FullNodeId → List FullNodeId
own_part f id = cond (is_included (f id)) (id ∷ []) []

module _ (f : FullNodeId → FilterResult) (w : World) (top : FullNodeId) where
  -- what is shown below top before a node, of which these are the places from it up: unless the parent is top, before the parent
  -- and the parent itself, and then what is shown of the parent's earlier children
  abbrev pub earlier : List Place → List FullNodeId
  earlier [] = []
  earlier (p ∷ up) = cond (is_same top p.0) [] (earlier up ++ own_part f p.0) ++ shown_nodes f (plant (below w) (take p.1 (children w p.0)))

  -- what is shown after the node and not below it: of the parent's later children, and unless the parent is top, after the parent
  abbrev pub later : List Place → List FullNodeId
  later [] = []
  later (p ∷ up) = shown_nodes f (plant (below w) (drop (p.1 + 1) (children w p.0))) ++ cond (is_same top p.0) [] (later up)

  abbrev pub earlier_in : FullNodeId → List FullNodeId
  earlier_in id = earlier (above w id)

  -- below the node, and after that
  abbrev pub later_in : FullNodeId → List FullNodeId
  later_in id = filtered_descendants f w id ++ later (above w id)

  -- before a place
  abbrev pub earlier_at : Place → List FullNodeId
  earlier_at p =
      cond (is_same top p.0) [] (earlier (above w p.0) ++ own_part f p.0) ++ shown_nodes f (plant (below w) (take p.1 (children w p.0)))

  -- the node is one of those that are shown
  abbrev pub IsAmong : FullNodeId → Type 0
  IsAmong id = earlier_in id ++ id ∷ later_in id ≡ filtered_descendants f w top

-- both ends are shown, and the front isn't after the back
pub record SpansAll (f : FullNodeId → FilterResult) (w : World) (top front back : FullNodeId) : Type 0 where
  pub first : IsAmong f w top front
  pub last : IsAmong f w top back
  pub order : length (earlier_in f w top front) ≤ length (earlier_in f w top back)

-- what is shown from the front to the back
abbrev pub all_between : (FullNodeId → FilterResult) → World → FullNodeId → FullNodeId → FullNodeId → List FullNodeId
all_between f w top front back =
    slice_range (filtered_descendants f w top) (length (earlier_in f w top front)) (length (earlier_in f w top back) + 1)

abbrev pub SpansAllEnds : (FullNodeId → FilterResult) → World → FullNodeId → Ends → Type 0
SpansAllEnds f w top e = SpansAll f w top e.front.member.id e.back.member.id

abbrev pub all_between_ends : (FullNodeId → FilterResult) → World → FullNodeId → Ends → List FullNodeId
all_between_ends f w top e = all_between f w top e.front.member.id e.back.member.id

-- the walk is over if it has no ends
abbrev pub SpansAllIf : (FullNodeId → FilterResult) → World → FullNodeId → Option Ends → Type 0
SpansAllIf f w top None = Unit {0}
SpansAllIf f w top (Some e) = SpansAllEnds f w top e

abbrev pub all_between_if : (FullNodeId → FilterResult) → World → FullNodeId → Option Ends → List FullNodeId
all_between_if f w top None = []
all_between_if f w top (Some e) = all_between_ends f w top e

-- how much work is left, whatever the filter answers
abbrev pub work_inside : World → FullNodeId → Ends → ℕ
work_inside w top e = work_from w top (e.front.member.id, 0) + work_before w top (above w e.back.member.id) + 1

abbrev pub work_inside_if : World → FullNodeId → Option Ends → ℕ
work_inside_if w top None = 0
work_inside_if w top (Some e) = work_inside w top e

-- ---- a walk

abbrev pub IsOnDescent : (FullNodeId → FilterResult) → Course → Type 0
IsOnDescent f c = SpansAllIf f (walked_world c) c.top c.ends

-- the ids that it has left
abbrev pub descent_left : (FullNodeId → FilterResult) → Course → List FullNodeId
descent_left f c = all_between_if f (walked_world c) c.top c.ends

-- more than it can return, whatever the filter answers
abbrev pub descent_work : Course → ℕ
descent_work c = work_inside_if (walked_world c) c.top c.ends

-- the call takes the first of what is left, or the last
abbrev pub TakesFirst : (NodeRef → FilterResult → Type 0) → Course → Option NodeRef → Course → Type 0
TakesFirst = Takes (YieldsFirstBy id_at) IsOnDescent descent_left

abbrev pub TakesLast : (NodeRef → FilterResult → Type 0) → Course → Option NodeRef → Course → Type 0
TakesLast = Takes (YieldsLastBy id_at) IsOnDescent descent_left

-- the walk has these ids left
abbrev pub BeginsDescent : (NodeRef → FilterResult → Type 0) → World → ((FullNodeId → FilterResult) → List FullNodeId) → Course → Type 0
BeginsDescent = HasLeft IsOnDescent descent_left

IsAmong-prop : (f : FullNodeId → FilterResult) (w : World) (top id : FullNodeId) → IsProp (IsAmong f w top id)
IsAmong-prop f w top id =
    Coded-set (coded_list coded_full) (earlier_in f w top id ++ id ∷ later_in f w top id) (filtered_descendants f w top)

-- it has one proof at most, so a walk can keep it
SpansAllIf-prop : (f : FullNodeId → FilterResult) (w : World) (top : FullNodeId) (o : Option Ends) → IsProp (SpansAllIf f w top o)
SpansAllIf-prop f w top None a b = refl
SpansAllIf-prop f w top (Some e) a b = λ i. record {
  first = IsAmong-prop f w top e.front.member.id a.first b.first i;
  last = IsAmong-prop f w top e.back.member.id a.last b.last i;
  order = le_prop a.order b.order i;
}

pub IsOnDescent-prop : (f : FullNodeId → FilterResult) (c : Course) → IsProp (IsOnDescent f c)
IsOnDescent-prop f c = SpansAllIf-prop f (walked_world c) c.top c.ends
