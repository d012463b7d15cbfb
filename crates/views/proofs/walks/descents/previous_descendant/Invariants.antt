use Rattle.model.specs.Beside.{work_until}
use Rattle.views.specs.ShownWorlds.{world_of}
use Rattle.views.specs.Descents.{earlier_at}
use Rattle.views.proofs.Searching.{IsSearched}
use Rattle.views.proofs.walks.descents.previous_descendant.Given as goal

abbrev pub invariant-loop-index : goal.invariant-loop-index
invariant-loop-index g l =
    IsSearched (g.F.Filter.answers l.filter) (world_of l.fn.state) l.fn.top (work_until (world_of l.fn.state) l.fn.top) (λ f. earlier_at f (world_of l.fn.state) l.fn.top) (l.fn.start.id, l.fn.start_index) l.parent l.index

abbrev pub decreases-loop-index : goal.decreases-loop-index
decreases-loop-index g l = work_until (world_of l.fn.state) l.fn.top (l.parent.id, l.index)
