use Rattle.std.proofs.Common.{sym, subst}
use Rattle.std.specs.Prelude.{Some}
use Rattle.views.specs.Nodes.{id_at}
use Rattle.views.specs.ShownWorlds.{world_of}
use Rattle.views.specs.Deepest.{ends, goes, IsDeepest}
use Rattle.views.proofs.Depths.{less_deeper}
use Rattle.views.proofs.walks.deepest.deepest.Goals as goal

pub loop-next-smaller : goal.loop-next-smaller
loop-next-smaller g c = less_deeper (world_of c.args.node.state) c.loop-next.deepest.id c.in-Some-below.next.member.id c.in-Some-below.ensures.deeper

pub loop-next-preserved : goal.loop-next-preserved
loop-next-preserved g c = record {
  known = c.in-Some-below.ensures.there.member;
  exact = λ step leads last to_last.
      c.loop-next.invariant.exact step leads last (goes c.loop-next.deepest.id c.in-Some-below.next.member.id last (sym (c.in-Some-below.ensures.exact step leads)) to_last);
}

pub returns-clause-exact : goal.returns-clause-exact
returns-clause-exact g c = λ step leads.
    subst (λ i. IsDeepest step (id_at c.args.node) (Some i)) (sym c.view.ensures.id)
    (c.loop-next.invariant.exact step leads c.loop-next.deepest.id (ends c.loop-next.deepest.id (sym (c.in_default-below.ensures.exact step leads))))
