use Rattle.std.proofs.Common.{sym, ◌∙◌}
use Rattle.tree_plan.proofs.Becoming.{moving_stays, named_stays_by, goes_by}
use Rattle.tree_plan.proofs.verdicts.Found.is_removed.Goals as goal

pub returns-then-is_some : goal.returns-then-is_some
returns-then-is_some g c = (λ h. cc, λ gone. absurd (moving_stays g.step c.args.self.now c.requires.0 c.args.id c.args.moved c.requires.1.1 (sym c.if-is_some.ensures) gone))

pub returns-then-is_some-2 : goal.returns-then-is_some-2
returns-then-is_some-2 g c = (λ h. cc, λ gone. absurd (named_stays_by g.step c.args.self.now c.requires.0 c.args.id c.args.entry c.requires.1.0 (sym c.if-is_some-2.ensures) gone))

pub returns : goal.returns
returns g c = let is = goes_by g.step c.args.self.now c.requires.0 c.args.id in (λ h. is.0 (sym c.contains.ensures ∙ h), λ gone. c.contains.ensures ∙ is.1 gone)
