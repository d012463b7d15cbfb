use Rattle.std.proofs.Common.{◌≡◌, Some, refl, sym, ap, ◌∙◌}
use Rattle.std.specs.Prelude.{None, if◌then◌else◌}
use Rattle.model.specs.TextRuns.{supports_text_ranges}
use Rattle.model.specs.Ranges.{WeakRange}
use Rattle.views.specs.ShownWorlds.{world_of}
use Rattle.texts.proofs.WeakSteps.{absent_no_text}
use Rattle.texts.proofs.weak.WeakTextRange.node_in.Goals as goal

pub returns-in_default-clause-node : goal.returns-in_default-clause-node
returns-in_default-clause-node c =
    let root = c.self.inside.root in
    let none = absent_no_text (world_of c.args.state) root (λ there. let off = (c.in_default.ensures.node root).1 (refl, there) in cc) in
    let shown : c.args.self.now.root ≡ root = (let v = ap (λ (x : WeakRange). x.root) c.self.view_is in cc) in
    sym (ap (λ r. if supports_text_ranges (world_of c.args.state) r then Some r else None) shown ∙ ap (λ b. if b then Some root else None) none)
