use Rattle.std.proofs.Common.{◌||◌, sym, subst, ◌∙◌}
use Rattle.model.specs.Forest.{IsFormed}
use Rattle.model.specs.TextRuns.{is_password}
use Rattle.views.specs.Nodes.{world_at, id_at}
use Rattle.hidden_texts.specs.Hidden.{is_in_password}
use Rattle.hidden_texts.specs.Known.{AreRight}
use Rattle.hidden_texts.proofs.Memo.{by_parent, by_none}
use Rattle.hidden_texts.proofs.passwords.Passwords.is_below_password.Goals as goal

pub returns-in-Some : goal.returns-in-Some
returns-in-Some c = λ right.
    let w = world_at c.args.node.now in
    let q = c.in-Some.parent in
    let here = c.in-Some.ensures.world in
    c.is_secret.ensures (subst (λ v. AreRight v c.args.self.now) (sym here) right)
    ∙ (λ i. is_password (here i) (id_at q) || is_in_password (here i) (id_at q))
    ∙ by_parent w (subst IsFormed c.tree_state.ensures c.know.ensures.formed) (id_at c.args.node.now) (id_at q) c.in-Some.ensures.node

pub returns-in-None : goal.returns-in-None
returns-in-None c = λ right.
    by_none (world_at c.args.node.now) (subst IsFormed c.tree_state.ensures c.know.ensures.formed) (id_at c.args.node.now) c.in-None.ensures.node
