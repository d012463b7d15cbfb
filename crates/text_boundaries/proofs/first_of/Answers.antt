use Rattle.std.proofs.Common.{sym, ◌∙◌}
use Rattle.text_boundaries.proofs.BoundarySearches.{turned, begins_here, starts_here, begins_before}
use Rattle.text_boundaries.proofs.first_of.Goals as goal

pub begins_after-requires : goal.begins_after-requires
begins_after-requires c = turned c.loop-previous.run c.in-Some.previous c.in-Some.ensures

pub returns-then-begins_after-clause-found : goal.returns-then-begins_after-clause-found
returns-then-begins_after-clause-found c =
    c.loop-previous.invariant.sought ∙ begins_here c.args.start c.requires c.loop-previous.run c.loop-previous.invariant.same c.args.mark (sym c.begins_after.ensures ∙ c.if-begins_after.true)

pub returns-in_default-clause-found : goal.returns-in_default-clause-found
returns-in_default-clause-found c =
    c.loop-previous.invariant.sought ∙ starts_here c.args.start c.requires c.loop-previous.run c.loop-previous.invariant.same c.args.mark c.in_default.ensures

pub loop-previous-preserved : goal.loop-previous-preserved
loop-previous-preserved c = record {
  same = c.in-Some.ensures.root ∙ c.loop-previous.invariant.same;
  sought = c.loop-previous.invariant.sought
      ∙ begins_before c.args.start c.requires c.loop-previous.run c.loop-previous.invariant.same c.args.mark c.in-Some.previous c.in-Some.ensures (sym c.begins_after.ensures ∙ c.if-begins_after.false);
}
