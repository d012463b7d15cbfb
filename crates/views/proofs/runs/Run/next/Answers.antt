use Rattle.std.proofs.Common.{refl}
use Rattle.views.specs.Nodes.{world_at, id_at}
use Rattle.views.proofs.RunSteps.{next_among}
use Rattle.views.proofs.runs.Run.next.Goals as goal

pub invariant_of-result : goal.invariant_of-result
invariant_of-result c =
    let at = c.in-Some.ensures in
    let found = next_among (world_at c.args.self.root) c.know.ensures.formed (id_at c.args.self.root) c.args.self.spot.member.id c.in-Some.spot.member.id c.args.self.known.among at.after in
    record { known = record { spot = at.there; below = at.below; among = found.0 } }

pub returns-in-Some : goal.returns-in-Some
returns-in-Some c =
    let at = c.in-Some.ensures in
    let found = next_among (world_at c.args.self.root) c.know.ensures.formed (id_at c.args.self.root) c.args.self.spot.member.id c.in-Some.spot.member.id c.args.self.known.among at.after in
    record { root = refl; after = at.after; before = found.1 }
