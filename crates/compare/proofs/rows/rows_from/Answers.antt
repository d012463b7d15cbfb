use Rattle.std.proofs.Common.{◌≡◌, map, rules, ap, ◌∙◌}
use Rattle.std.proofs.lemmas.Result.{IfOk-weaker}
use Rattle.views.specs.Nodes.{world_at, id_at}
use Rattle.compare.specs.Compared.{text_of}
use Rattle.compare.specs.Rows.{row_at, rows_from, shown_from}
use Rattle.compare.proofs.ShownRows.{rows_are}
use Rattle.compare.proofs.rows.rows_from.Goals as goal

pub returns : goal.returns
returns c =
    let w = world_at c.args.top in
    let nodes = c.in_ok-nodes.nodes.items in
    let same : c.deref.result.now ≡ nodes = search rules in
    IfOk-weaker c.rows_for.result (λ rows. map text_of rows.items ≡ map row_at c.deref.result.now) (λ rows. map text_of rows.items ≡ rows_from w (id_at c.args.top)) (λ rows e. e ∙ ap (map row_at) same ∙ rows_are w (shown_from w (id_at c.args.top)) nodes c.in_ok-nodes.ensures) c.rows_for.ensures
