use Rattle.std.proofs.Common.{refl, sym, ◌∙◌}
use Rattle.views.specs.Nodes.{world_at, id_at}
use Rattle.views.proofs.Climbing.{says_shown}
use Rattle.page_states.specs.Sources.{reads_runs}
use Rattle.page_states.proofs.SameRuns.{carried_by_itself}
use Rattle.page_states.proofs.sources.own_source.Goals as goal

pub returns : goal.returns
returns c =
    let n = c.args.node in
    carried_by_itself (world_at n) (id_at n) _ (says_shown reads_runs (world_at n) n refl ∙ sym c.reads_runs.ensures ∙ c.if-not-reads_runs.false) c.id.ensures c.is_hidden.ensures c.only_child.ensures
