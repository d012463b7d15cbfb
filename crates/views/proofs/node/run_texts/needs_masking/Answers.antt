use Rattle.std.proofs.Common.{sym, ◌∙◌, ap}
use Rattle.std.specs.Prelude.{not}
use Rattle.views.proofs.DocumentTexts.{plain_unmasked, password_masked}
use Rattle.views.proofs.node.run_texts.needs_masking.Goals as goal

pub returns-else-is_password_input : goal.returns-else-is_password_input
returns-else-is_password_input c = c.if-is_password_input.false ∙ plain_unmasked c.args.root (sym c.is_password_input.ensures ∙ c.if-is_password_input.false)

pub returns-then-is_password_input : goal.returns-then-is_password_input
returns-then-is_password_input c = ap not c.has_one_character.ensures ∙ password_masked c.args.root (sym c.is_password_input.ensures ∙ c.if-is_password_input.true)
