use Rattle.model.specs.Forest.{is_same as is_same_id}
use Rattle.model.specs.Beside.{left_at, work_from}
use Rattle.views.specs.ShownWorlds.{world_of}
use Rattle.views.proofs.Searching.{IsSearched}
use Rattle.views.proofs.walks.searches.next_shown.Given as goal

abbrev pub invariant-loop-child : goal.invariant-loop-child
invariant-loop-child g l =
    IsSearched (g.F.Filter.answers l.filter) (world_of l.fn.state) l.fn.top (work_from (world_of l.fn.state) l.fn.top) (λ f. left_at f (world_of l.fn.state) (is_same_id l.fn.top)) (l.fn.start.id, l.fn.start_index) l.parent l.index

abbrev pub decreases-loop-child : goal.decreases-loop-child
decreases-loop-child g l = work_from (world_of l.fn.state) l.fn.top (l.parent.id, l.index)
