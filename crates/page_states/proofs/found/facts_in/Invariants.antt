use Rattle.views.specs.ShownWorlds.{world_of}
use Rattle.page_states.specs.Found.{AreRight}
use Rattle.page_states.proofs.found.facts_in.Given as goal

-- what is found so far is right
abbrev pub invariant-loop-place : goal.invariant-loop-place
invariant-loop-place l = AreRight (world_of l.fn.state) l.found
