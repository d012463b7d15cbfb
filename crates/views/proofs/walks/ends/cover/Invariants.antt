use Rattle.std.proofs.Common.{◌≡◌, true}
use Rattle.model.specs.declared.FullNodeId.{FullNodeId}
use Rattle.model.specs.declared.filters.FilterResult.{FilterResult}
use Rattle.model.specs.Paths.{depth}
use Rattle.model.specs.Upward.{is_within}
use Rattle.model.specs.Covers.{cover as cover_of}
use Rattle.views.specs.ShownWorlds.{world_of}
use Rattle.views.specs.Spots.{IsMember}
use Rattle.views.specs.Follows.{Follows}
use Rattle.views.proofs.walks.ends.cover.Given as goal

-- the node lies within the current one, which has the same cover
abbrev pub invariant-loop-spot : goal.invariant-loop-spot
invariant-loop-spot g l =
    let w = world_of l.fn.state in
    record {
      known : IsMember w l.current;
      within : is_within w l.current.id l.fn.node.id ≡ true;
      exact : (f : FullNodeId → FilterResult) → Follows (g.F.Filter.answers l.filter) w f → cover_of f w l.fn.node.id ≡ cover_of f w l.current.id;
    }

abbrev pub decreases-loop-spot : goal.decreases-loop-spot
decreases-loop-spot g l = depth (world_of l.fn.state) l.current.id
