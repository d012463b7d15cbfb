use Rattle.std.proofs.Common.{refl, sym, ◌∙◌}
use Rattle.views.specs.Nodes.{world_at, id_at}
use Rattle.views.proofs.Climbing.{says_shown}
use Rattle.page_states.specs.Sources.{reads_runs}
use Rattle.page_states.proofs.SameRuns.{hides_as_source}
use Rattle.page_states.proofs.secrets.hides_with.Goals as goal

pub returns-then-reads_runs : goal.returns-then-reads_runs
returns-then-reads_runs c =
    let n = c.args.node.now in
    c.requires.hides
    ∙ sym (hides_as_source (world_at n) (id_at n) c.args.source.id c.requires.same (says_shown reads_runs (world_at n) n refl ∙ sym c.reads_runs.ensures ∙ c.if-reads_runs.true))
