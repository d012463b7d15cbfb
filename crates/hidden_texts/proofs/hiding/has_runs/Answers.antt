use Rattle.std.proofs.Common.{◌&&◌, sym, ap, ◌∙◌}
use Rattle.std.specs.Prelude.{is_some}
use Rattle.hidden_texts.proofs.Secrets.{runs_seen, runless}
use Rattle.hidden_texts.proofs.hiding.has_runs.Goals as goal

pub returns-then-holds_text : goal.returns-then-holds_text
returns-then-holds_text c =
    let n = c.args.node.now in
    c.is_some.ensures ∙ sym (ap (λ b. b && is_some c.first.result) (sym c.holds_text.ensures ∙ c.if-holds_text.true)) ∙ runs_seen n c.first.result c.first.ensures

pub returns-else-holds_text : goal.returns-else-holds_text
returns-else-holds_text c = c.if-holds_text.false ∙ runless c.args.node.now (sym c.holds_text.ensures ∙ c.if-holds_text.false)
