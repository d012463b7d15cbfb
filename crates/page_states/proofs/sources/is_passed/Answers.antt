use Rattle.std.proofs.Common.{Some, sym, ap, ◌∙◌}
use Rattle.model.specs.declared.FullNodeId.{FullNodeId}
use Rattle.page_states.proofs.SameRuns.{neither}
use Rattle.page_states.proofs.sources.is_passed.Goals as goal

pub returns : goal.returns
returns c = λ goes_on.
    let plain = neither _ _ c.ends_source.result c.ends_source.ensures goes_on in
    record {
      child = c.is_that.ensures.0 c.if-not-is_that.false ∙ ap (λ i. Some i) c.id-id.ensures;
      tree = sym (ap (λ (i : FullNodeId). i.tree) c.id-id.ensures) ∙ c.is_in_tree.ensures.0 c.if-not-is_in_tree.false;
      run = plain.0;
      plain = plain.1;
    }
