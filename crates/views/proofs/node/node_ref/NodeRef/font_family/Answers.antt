use Rattle.std.proofs.Common.{rules, ap}
use Rattle.std.specs.Prelude.{is_some, option_copied}
use Rattle.views.proofs.Inheriting.{text_inherited, no_text_inherited}
use Rattle.views.proofs.node.node_ref.NodeRef.font_family.Goals as goal

pub returns-in_err-nearest : goal.returns-in_err-nearest
returns-in_err-nearest c = no_text_inherited (λ d. d.font_family) c.args.self.now _ (ap option_copied c.from_residual.ensures) (c.in_err-nearest.ensures.node (λ d. is_some d.font_family) (search rules))

pub returns : goal.returns
returns c = text_inherited (λ d. d.font_family) c.args.self.now _ c.in_ok-nearest.field-0 c.font_family.ensures c.in_ok-nearest.ensures.world (c.in_ok-nearest.ensures.node (λ d. is_some d.font_family) (search rules))
