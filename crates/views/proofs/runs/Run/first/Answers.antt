use Rattle.std.proofs.Common.{refl}
use Rattle.views.specs.Nodes.{world_at, id_at}
use Rattle.views.proofs.RunSteps.{runs_follow, first_among, none_first}
use Rattle.views.proofs.runs.Run.first.Goals as goal

pub invariant_of-result : goal.invariant_of-result
invariant_of-result c =
    let w = world_at c.args.root in
    let found = first_among w c.know.ensures.formed (id_at c.args.root) c.in-Some.spot.member.id (c.in-Some.ensures.exact _ (runs_follow w (id_at c.args.root))) in
    record { known = record { spot = c.in-Some.ensures.there; below = c.in-Some.ensures.below; among = found.0 } }

pub returns-in-Some : goal.returns-in-Some
returns-in-Some c =
    let w = world_at c.args.root in
    let found = first_among w c.know.ensures.formed (id_at c.args.root) c.in-Some.spot.member.id (c.in-Some.ensures.exact _ (runs_follow w (id_at c.args.root))) in
    record { root = refl; order = found.1 }

pub returns-in-None : goal.returns-in-None
returns-in-None c =
    let w = world_at c.args.root in
    none_first w c.know.ensures.formed (id_at c.args.root) (c.in-None.ensures.exact _ (runs_follow w (id_at c.args.root)))
