use Rattle.std.specs.Prelude.{true, false}
use Rattle.hidden_texts.proofs.Secrets.{filter_seen}
use Rattle.hidden_texts.proofs.hiding.password_inputs.Goals as goal

pub returns-then-is_password_input : goal.returns-then-is_password_input
returns-then-is_password_input c = filter_seen c.args.node.now true c.is_password_input.result c.is_password_input.ensures c.if-is_password_input.true

pub returns : goal.returns
returns c = filter_seen c.args.node.now false c.is_password_input.result c.is_password_input.ensures c.if-is_password_input.false
