use Rattle.std.proofs.Common.{subst, take_all}
use Rattle.queries.specs.Found.{AreSought}
use Rattle.queries.proofs.Fitting.{sought_more}
use Rattle.queries.proofs.search.fitting.Goals as goal

pub loop-node-preserved : goal.loop-node-preserved
loop-node-preserved g c = λ w all.
    sought_more w c.args.nodes.now c.loop-node.found.items c.keep_if.new.found.items c.loop-node.node-index c.node-item.result c.in_ok-fits.fits
    c.loop-node-test.true c.node-item.is all c.in_ok-fits.ensures (c.loop-node.invariant w all) c.in_ok-keep_if.ensures

pub returns : goal.returns
returns g c = λ w all.
    subst (λ xs. AreSought c.args.by.now.wanted (g.C.Condition.answers c.args.by.now.condition) w xs c.loop-node.found.items)
    (take_all c.loop-node.node-index c.args.nodes.now c.loop-node-test.false) (c.loop-node.invariant w all)
