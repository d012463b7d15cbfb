use Rattle.std.proofs.Common.{map, ap, subst, take_all, ◌∙◌}
use Rattle.std.specs.Prelude.{filter}
use Rattle.views.specs.Nodes.{world_at, id_at}
use Rattle.find.specs.Viewed.{AreNodes}
use Rattle.find.specs.Wanted.{is_wanted, sought_of}
use Rattle.find.proofs.Listing.{node_here, passed_more}
use Rattle.find.proofs.search.wanted_among.Goals as goal

pub is_wanted-requires-clause-world : goal.is_wanted-requires-clause-world
is_wanted-requires-clause-world c =
    node_here (world_at c.args.top) c.args.shown.now c.loop-node.node-index c.node-item.result c.loop-node-test.true c.node-item.is c.requires.shown.world

pub loop-node-preserved : goal.loop-node-preserved
loop-node-preserved c =
    let w = world_at c.args.top in
    passed_more w (is_wanted (sought_of c.args.wanted.now) w) c.args.shown.now c.loop-node.found.items c.keep_if.new.found.items c.loop-node.node-index c.node-item.result c.in_ok-fits.fits
    c.loop-node-test.true c.node-item.is c.requires.shown.world c.in_ok-fits.ensures c.loop-node.invariant c.in_ok-keep_if.ensures

pub returns : goal.returns
returns c =
    let w = world_at c.args.top in
    let test = is_wanted (sought_of c.args.wanted.now) w in
    subst (λ ids. AreNodes w (filter test ids) c.loop-node.found.items)
    (ap (map id_at) (take_all c.loop-node.node-index c.args.shown.now c.loop-node-test.false) ∙ c.requires.shown.ids) c.loop-node.invariant
