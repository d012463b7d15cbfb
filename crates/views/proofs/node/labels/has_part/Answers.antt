use Rattle.std.proofs.Common.{sym, ◌∙◌, ap}
use Rattle.views.specs.LabelWalks.{labels_left}
use Rattle.views.specs.LabelTexts.{parts_of, has_parts}
use Rattle.views.proofs.LabelTexts.{given, not_given}
use Rattle.views.proofs.node.labels.has_part.Goals as goal

pub returns-then-gives_part : goal.returns-then-gives_part
returns-then-gives_part c =
    ap has_parts (sym (given (labels_left c.loop-node.nodes) (labels_left c.next.new.self) c.in-Some.node c.in-Some.ensures.steps (sym c.gives_part.ensures ∙ c.if-gives_part.true)))
    ∙ c.loop-node.invariant

pub loop-node-preserved : goal.loop-node-preserved
loop-node-preserved c =
    ap has_parts (sym (not_given (labels_left c.loop-node.nodes) (labels_left c.next.new.self) c.in-Some.node c.in-Some.ensures.steps (sym c.gives_part.ensures ∙ c.if-gives_part.false)))
    ∙ c.loop-node.invariant

pub returns : goal.returns
returns c = ap (λ ns. has_parts (parts_of ns)) (sym c.in_default.ensures.steps.0) ∙ c.loop-node.invariant
