use Rattle.std.proofs.Common.{refl}
use Rattle.views.specs.Nodes.{world_at, id_at}
use Rattle.views.proofs.RunSteps.{runs_follow, previous_among}
use Rattle.views.proofs.runs.Run.previous.Goals as goal

pub invariant_of-result : goal.invariant_of-result
invariant_of-result c =
    let w = world_at c.args.self.root in
    let at = c.in-Some.ensures.exact _ (runs_follow w (id_at c.args.self.root)) in
    let found = previous_among w c.know.ensures.formed (id_at c.args.self.root) c.args.self.spot.member.id c.in-Some.spot.member.id c.args.self.known.among at in
    record { known = record { spot = c.in-Some.ensures.there; below = c.in-Some.ensures.below; among = found.0 } }

pub returns-in-Some : goal.returns-in-Some
returns-in-Some c =
    let w = world_at c.args.self.root in
    let at = c.in-Some.ensures.exact _ (runs_follow w (id_at c.args.self.root)) in
    let found = previous_among w c.know.ensures.formed (id_at c.args.self.root) c.args.self.spot.member.id c.in-Some.spot.member.id c.args.self.known.among at in
    record { root = refl; after = found.1; before = at }

pub returns-in-None : goal.returns-in-None
returns-in-None c = c.in-None.ensures.exact _ (runs_follow (world_at c.args.self.root) (id_at c.args.self.root))
