use Rattle.std.proofs.Common.{sym, ap, ◌∙◌, Some}
use Rattle.schema.specs.NodeData.{NodeData}
use Rattle.texts.specs.Measures.{measures}
use Rattle.texts.proofs.PieceBoxes.{no_bounds, no_metrics, no_direction, box_given}
use Rattle.texts.proofs.pieces.Piece.bounding_box.Goals as goal

pub returns-in_err-rect : goal.returns-in_err-rect
returns-in_err-rect c = c.from_residual.ensures ∙ no_bounds c.args.self (sym (c.in_err-rect.ensures ∙ ap (λ (d : NodeData). d.bounds) c.node.ensures))

pub returns-in_err-metrics : goal.returns-in_err-metrics
returns-in_err-metrics c =
    c.from_residual-in_err-metrics.ensures ∙ no_metrics c.args.self c.in_ok-rect.rect (sym (c.in_ok-rect.ensures ∙ ap (λ (d : NodeData). d.bounds) c.node.ensures)) (sym c.in_err-metrics.ensures)

pub returns-in_err-direction : goal.returns-in_err-direction
returns-in_err-direction c =
    c.from_residual-in_err-direction.ensures
    ∙ no_direction c.args.self c.in_ok-rect.rect (sym (c.in_ok-rect.ensures ∙ ap (λ (d : NodeData). d.bounds) c.node.ensures)) (measures c.in_ok-metrics.metrics) (sym c.in_ok-metrics.ensures)
    (sym c.in_err-direction.ensures)

pub returns : goal.returns
returns c =
    ap Some c.placed.ensures
    ∙ box_given c.args.self c.in_ok-rect.rect (sym (c.in_ok-rect.ensures ∙ ap (λ (d : NodeData). d.bounds) c.node.ensures)) (measures c.in_ok-metrics.metrics) (sym c.in_ok-metrics.ensures)
    c.in_ok-direction.direction (sym c.in_ok-direction.ensures)
