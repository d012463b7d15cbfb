use Rattle.std.proofs.Common.{◌≡◌, map, ap, sym, subst, ◌∙◌}
use Rattle.std.specs.Prelude.{All, OnOk}
use Rattle.std.specs.Io.KnownBytes.{Appends}
use Rattle.views.specs.Nodes.{world_at, id_at}
use Rattle.find.specs.Near.{near_lines}
use Rattle.find.proofs.near.write_found.Goals as goal

pub write_all_near-requires-clause-world : goal.write_all_near-requires-clause-world
write_all_near-requires-clause-world g c =
    let w = world_at c.args.top in
    subst (All (λ n. world_at n ≡ w)) (sym c.deref.ensures.value) c.in_ok-nodes.ensures.world

pub returns : goal.returns
returns g c =
    let w = world_at c.args.top in
    subst (λ ids. OnOk c.write_all_near.result (Appends (g.O.Write.contents c.args.out.now) (g.O.Write.contents c.write_all_near.new.out) (near_lines c.args.how.now w ids)))
    (ap (map id_at) c.deref.ensures.value ∙ c.in_ok-nodes.ensures.ids) c.write_all_near.ensures
