use Rattle.std.proofs.Common.{◌≡◌, subst, ◌∙◌}
use Rattle.std.specs.Prelude.{IfOk}
use Rattle.read.specs.Asked.{is_told}
use Rattle.read.proofs.asked.AskedTeller.tell.Goals as goal

pub returns-clause-there : goal.returns-clause-there
returns-clause-there g c = subst (λ w. IfOk c.tell_node.result (λ there. there ≡ is_told w c.args.self.now.name)) (c.view.ensures ∙ c.state.ensures ∙ c.tree.ensures) c.tell_node.ensures.there
