use Rattle.std.proofs.Common.{rules, ◌≡◌, [], cond, map, ap, sym, subst, ◌∙◌}
use Rattle.std.specs.Prelude.{All}
use Rattle.std.specs.Io.KnownBytes.{Appends}
use Rattle.views.specs.Nodes.{world_at, id_at}
use Rattle.find.specs.Found.{found, shown_from, is_enough}
use Rattle.find.specs.Near.{hints}
use Rattle.find.specs.Printed.{nodes_text}
use Rattle.find.specs.Viewed.{AreNodes}
use Rattle.find.specs.Wanted.{sought_of}
use Rattle.find.proofs.Listing.{as_many, told_of}
use Rattle.find.proofs.search.tell_found.Goals as goal

pub wanted_among-requires-clause-shown : goal.wanted_among-requires-clause-shown
wanted_among-requires-clause-shown g c =
    let w = world_at c.args.top in
    subst (AreNodes w (shown_from w (id_at c.args.top))) (sym c.deref.ensures.value) c.in_ok-shown.ensures

pub write_nodes-requires-clause-world : goal.write_nodes-requires-clause-world
write_nodes-requires-clause-world g c =
    let w = world_at c.args.top in
    subst (All (λ n. world_at n ≡ w)) (sym c.deref-2.ensures.value) c.in_ok-found.ensures.world

pub write_near_if-requires-clause-shown : goal.write_near_if-requires-clause-shown
write_near_if-requires-clause-shown g c =
    let w = world_at c.args.top in
    subst (AreNodes w (shown_from w (id_at c.args.top))) (sym c.deref-3.ensures.value) c.in_ok-shown.ensures

pub returns-clause-printed : goal.returns-clause-printed
returns-clause-printed g c =
    let w = world_at c.args.top in
    let top = id_at c.args.top in
    let sought = sought_of c.args.wanted.now in
    let ids = map id_at c.in_ok-found.found.items in
    let before = g.O.Write.contents c.args.output.now in
    let between = g.O.Write.contents c.write_nodes.new.output in
    let after = g.O.Write.contents c.write_near_if.new.output in
    told_of c.args.near sought w top ids before between after c.in_ok-found.ensures.ids
    (subst (λ ns. Appends before between (nodes_text w top (map id_at ns))) c.deref-2.ensures.value c.in_ok-write_nodes.ensures)
    (subst (λ ns. Appends between after (cond c.args.near (hints sought w top (map id_at ns)) [])) c.deref-4.ensures.value c.in_ok-write_near_if.ensures)

pub returns-clause-enough : goal.returns-clause-enough
returns-clause-enough g c =
    let w = world_at c.args.top in
    let ids = found (sought_of c.args.wanted.now) w (id_at c.args.top) in
    c.is_enough.ensures ∙ ap (is_enough c.args.wanted.now.any_number) (c.len.ensures ∙ c.in_ok-found.found.ok.0 ∙ as_many w ids c.in_ok-found.found.items c.in_ok-found.ensures)
