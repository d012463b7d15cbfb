use Rattle.std.proofs.Common.{refl}
use Rattle.views.specs.Nodes.{world_at, id_at}
use Rattle.views.proofs.RunSteps.{runs_follow, last_among, none_last}
use Rattle.views.proofs.runs.Run.last.Goals as goal

pub invariant_of-result : goal.invariant_of-result
invariant_of-result c =
    let w = world_at c.args.root in
    let found = last_among w c.know.ensures.formed (id_at c.args.root) c.child_count-count.result c.in-Some.spot.member.id c.child_count-count.ensures (c.in-Some.ensures.exact _ (runs_follow w (id_at c.args.root))) in
    record { known = record { spot = c.in-Some.ensures.there; below = c.in-Some.ensures.below; among = found.0 } }

pub returns-in-Some : goal.returns-in-Some
returns-in-Some c =
    let w = world_at c.args.root in
    let found = last_among w c.know.ensures.formed (id_at c.args.root) c.child_count-count.result c.in-Some.spot.member.id c.child_count-count.ensures (c.in-Some.ensures.exact _ (runs_follow w (id_at c.args.root))) in
    record { root = refl; order = found.1 }

pub returns-in-None : goal.returns-in-None
returns-in-None c =
    let w = world_at c.args.root in
    none_last w c.know.ensures.formed (id_at c.args.root) c.child_count-count.result c.child_count-count.ensures (c.in-None.ensures.exact _ (runs_follow w (id_at c.args.root)))
