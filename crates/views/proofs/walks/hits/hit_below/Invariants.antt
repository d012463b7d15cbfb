use Rattle.std.proofs.Common.{◌≡◌, ◌-◌, ◌≤◌, length, true}
use Rattle.model.specs.declared.FullNodeId.{FullNodeId}
use Rattle.model.specs.declared.filters.FilterResult.{FilterResult}
use Rattle.model.specs.World.{children}
use Rattle.model.specs.Upward.{is_within}
use Rattle.model.specs.Beside.{work_until}
use Rattle.model.specs.Hits.{hit_seen, last_hit, uncut_until, seen_within}
use Rattle.views.specs.ShownWorlds.{world_of}
use Rattle.views.specs.Spots.{IsMember}
use Rattle.views.specs.Follows.{Follows}
use Rattle.views.specs.SeenPoints.{AreNear, wide_of}
use Rattle.views.proofs.walks.hits.hit_below.Given as goal

-- the place lies within top, the point is as the parent sees it, and the hit is the last before the place;
-- with each move some of the work was done
abbrev pub invariant-loop-index : goal.invariant-loop-index
invariant-loop-index g l =
    let w = world_of l.fn.top.state in
    let top = l.fn.top.id in
    let done = work_until w top (top, length (children w top)) - work_until w top (l.parent.id, l.index) in
    record {
      known : IsMember w l.parent;
      in_it : l.index ≤ length (children w l.parent.id);
      within : is_within w top l.parent.id ≡ true;
      seen : wide_of l.seen ≡ seen_within w top l.parent.id (wide_of l.fn.at);
      spent : work_until w top (l.parent.id, l.index) ≤ work_until w top (top, length (children w top));
      near : AreNear done l.seen;
      exact : (f : FullNodeId → FilterResult) → Follows (g.F.Filter.answers l.filter) w f →
          hit_seen f w top (wide_of l.fn.at) ≡ last_hit f w top (wide_of l.fn.at) (uncut_until f w top (l.parent.id, l.index));
    }

abbrev pub decreases-loop-index : goal.decreases-loop-index
decreases-loop-index g l = work_until (world_of l.fn.top.state) l.fn.top.id (l.parent.id, l.index)
