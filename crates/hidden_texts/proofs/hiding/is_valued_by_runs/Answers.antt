use Rattle.std.proofs.Common.{◌||◌, sym, ap, ◌∙◌}
use Rattle.std.specs.Prelude.{is_none}
use Rattle.views.specs.Nodes.{data_at}
use Rattle.hidden_texts.proofs.Secrets.{as_borrowed, none_said, valued_seen}
use Rattle.hidden_texts.proofs.hiding.is_valued_by_runs.Goals as goal

pub returns-then-is_password_input : goal.returns-then-is_password_input
returns-then-is_password_input c =
    let n = c.args.node.now in
    let own = is_none (data_at n).value in
    c.if-is_password_input.true ∙ sym (ap (λ b. b || own) (sym c.is_password_input.ensures ∙ c.if-is_password_input.true)) ∙ valued_seen n

pub returns-else-is_password_input : goal.returns-else-is_password_input
returns-else-is_password_input c =
    let n = c.args.node.now in
    let own = is_none (data_at n).value in
    none_said c.is_none.result c.raw_value.result c.is_none.ensures ∙ as_borrowed c.raw_value.result (data_at n).value c.raw_value.ensures ∙ sym (ap (λ b. b || own) (sym c.is_password_input.ensures ∙ c.if-is_password_input.false)) ∙ valued_seen n
