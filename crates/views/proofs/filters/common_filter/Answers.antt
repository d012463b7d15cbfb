use Rattle.std.proofs.Common.{◌∙◌, sym, ap, cond}
use Rattle.model.specs.declared.filters.FilterResult.TheVariants.{Include, ExcludeSubtree}
use Rattle.views.specs.Nodes.{world_at, id_at}
use Rattle.views.proofs.Filtering.{answer_on_the_way}
use Rattle.views.proofs.filters.common_filter.Goals as goal

pub returns-then-is_clipped_on_the_way : goal.returns-then-is_clipped_on_the_way
returns-then-is_clipped_on_the_way c =
    let r = c.is_clipped_on_the_way in
    sym (ap (λ b. cond b ExcludeSubtree Include) c.if-is_clipped_on_the_way.true)
    ∙ answer_on_the_way (world_at c.args.node.now) c.know.ensures.formed (id_at c.args.node.now) r.result (c.in_default.ensures c.focused_id-focused.ensures) r.ensures

pub returns : goal.returns
returns c =
    let r = c.is_clipped_on_the_way in
    sym (ap (λ b. cond b ExcludeSubtree Include) c.if-is_clipped_on_the_way.false)
    ∙ answer_on_the_way (world_at c.args.node.now) c.know.ensures.formed (id_at c.args.node.now) r.result (c.in_default.ensures c.focused_id-focused.ensures) r.ensures
