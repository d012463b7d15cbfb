use Rattle.std.proofs.Common.{◌≡◌, ◌+◌, sym, subst, arith}
use Rattle.model.specs.World.{StandsAt}
use Rattle.model.specs.Beside.{next_place}
use Rattle.views.specs.Nodes.{world_at, id_at}
use Rattle.views.specs.Spots.{place_at}
use Rattle.views.proofs.RunSteps.{beside_is_next, run_by_role}
use Rattle.views.proofs.runs.Run.beside.Goals as goal

pub returns-in-TextRun : goal.returns-in-TextRun
returns-in-TextRun c =
    let known = c.args.self.known in
    let w = world_at c.args.self.root in
    let p = place_at c.args.self.spot in
    let s = c.in_ok-spot.spot in
    let there = c.in_ok-spot.ensures.there in
    let past : c.in_ok-index.index ≡ c.args.self.spot.index + 1 = omega (arith, c.in_ok-index.ensures) in
    let stands : StandsAt w (next_place p) s.member.id = subst (λ k. StandsAt w (p.0, k) s.member.id) past (sym c.in_ok-spot.ensures.none) in
    let is = run_by_role w s.member.id s.member.node.now there.0.member.known (sym c.in-TextRun.ensures) in
    let found = beside_is_next w c.know.ensures.formed (id_at c.args.self.root) p c.args.self.spot.member.id s.member.id known.spot.stands stands is known.below in
    record { there = there.0; below = found.0; after = found.1 }
