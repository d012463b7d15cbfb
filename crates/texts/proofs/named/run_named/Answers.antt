use Rattle.std.proofs.Common.{◌∙◌}
use Rattle.texts.proofs.NamedRuns.{named_here, named_later, named_never, none_named}
use Rattle.texts.proofs.named.run_named.Goals as goal

pub returns-in_default-clause-named : goal.returns-in_default-clause-named
returns-in_default-clause-named c = none_named c.args.root c.args.raw c.in_default.ensures

pub returns-then-is_named-clause-named : goal.returns-then-is_named-clause-named
returns-then-is_named-clause-named c =
    named_here c.args.root c.args.raw c.loop-raw.run c.loop-raw.invariant.same c.loop-raw.invariant.sought c.is_named.result c.is_named.ensures c.if-is_named.true

pub returns-in_default-next-clause-named : goal.returns-in_default-next-clause-named
returns-in_default-next-clause-named c =
    named_never c.args.root c.args.raw c.loop-raw.run c.loop-raw.invariant.same c.loop-raw.invariant.sought c.is_named.result c.in_default-next.ensures c.is_named.ensures c.if-is_named.false

pub loop-raw-preserved : goal.loop-raw-preserved
loop-raw-preserved c = record {
  same = c.in-Some-next.ensures.root ∙ c.loop-raw.invariant.same;
  sought = named_later c.args.root c.args.raw c.loop-raw.run c.loop-raw.invariant.same c.loop-raw.invariant.sought c.is_named.result c.in-Some-next.next c.in-Some-next.ensures c.is_named.ensures c.if-is_named.false;
}
