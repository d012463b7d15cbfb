use Rattle.std.proofs.Common.{sym, ap, ◌∙◌}
use Rattle.std.proofs.lemmas.Result.{IfOk-weaker}
use Rattle.views.specs.Nodes.{world_at, id_at}
use Rattle.compare.specs.Rows.{rows_of}
use Rattle.compare.proofs.ShownRows.{root_rows}
use Rattle.compare.proofs.rows.rows_of.Goals as goal

pub returns-in-Some : goal.returns-in-Some
returns-in-Some c =
    let w = c.in-Some.session in
    let n = c.root.result in
    IfOk-weaker c.rows_from.result _ _ (λ rows e. e ∙ root_rows w c.state.result.now (world_at n) (id_at n) (c.state.ensures ∙ c.tree.ensures) c.root.ensures.world c.root.ensures.node ∙ ap rows_of (sym c.in-Some.is)) c.rows_from.ensures
