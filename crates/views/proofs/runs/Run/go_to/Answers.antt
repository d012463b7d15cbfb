use Rattle.std.proofs.Common.{refl}
use Rattle.views.specs.Nodes.{world_at, id_at}
use Rattle.views.proofs.RunSteps.{next_among}
use Rattle.views.proofs.runs.Run.go_to.Goals as goal

pub invariant_of-self : goal.invariant_of-self
invariant_of-self c =
    let r = c.args.self.now in
    let at = c.requires in
    let found = next_among (world_at r.root) c.know.ensures.formed (id_at r.root) r.spot.member.id c.args.spot.member.id r.known.among at.after in
    record { known = record { spot = at.there; below = at.below; among = found.0 } }

pub returns : goal.returns
returns c =
    let r = c.args.self.now in
    let at = c.requires in
    let found = next_among (world_at r.root) c.know.ensures.formed (id_at r.root) r.spot.member.id c.args.spot.member.id r.known.among at.after in
    record { root = refl; after = at.after; before = found.1 }
