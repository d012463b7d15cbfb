use Rattle.std.proofs.Common.{rules, ◌≡◌, []}
use Rattle.find.specs.Viewed.{IsKnownOf}
use Rattle.find.proofs.Upward.{last_known, none_written, next_written, all_written}
use Rattle.find.proofs.report.names.write_later.Goals as goal

pub loop-node-init : goal.loop-node-init
loop-node-init g c = record { names = none_written (g.O.Write.contents c.args.out.now) c.args.nodes.items; known = c.requires }

pub write_next-requires : goal.write_next-requires
write_next-requires g c = (last_known (IsKnownOf c.args.passwords.now) c.loop-node.left.items c.pop.new.self.items c.in-Some.node c.in-Some.ensures.items c.loop-node.invariant.known).last

pub loop-node-preserved : goal.loop-node-preserved
loop-node-preserved g c =
    let old = c.loop-node.left.items in
    let left = c.pop.new.self.items in
    let n = c.in-Some.node in
    record {
      names = next_written (g.O.Write.contents c.args.out.now) (g.O.Write.contents c.loop-node.out) (g.O.Write.contents c.write_next.new.out) c.args.nodes.items old left n c.in-Some.ensures.items c.loop-node.invariant.names c.in_ok-write_next.ensures;
      known = (last_known (IsKnownOf c.args.passwords.now) old left n c.in-Some.ensures.items c.loop-node.invariant.known).others;
    }

pub returns : goal.returns
returns g c =
    let none : c.loop-node.left.items ≡ [] = search rules in
    all_written (g.O.Write.contents c.args.out.now) (g.O.Write.contents c.loop-node.out) c.args.nodes.items c.loop-node.left.items none c.loop-node.invariant.names
