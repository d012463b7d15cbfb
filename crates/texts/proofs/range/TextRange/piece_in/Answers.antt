use Rattle.std.proofs.Common.{◌≡◌, refl, ap, sym, ◌∙◌}
use Rattle.std.specs.Prelude.{if◌then◌else◌}
use Rattle.model.specs.Ranges.{piece_in}
use Rattle.model.specs.FlatText.{count_in}
use Rattle.text_boundaries.specs.RunNumbers.{number_in}
use Rattle.texts.specs.TextRanges.{text_in, range_at}
use Rattle.texts.proofs.TextEnds.{counted_in}
use Rattle.texts.proofs.RangeRuns.{start_position, end_position, named_here, named_elsewhere, same_piece}
use Rattle.texts.proofs.range.TextRange.piece_in.Goals as goal
use Rattle.texts.proofs.range.TextRange.piece_in.Goals.{then-is_same, else-is_same, then-is_same-2, else-is_same-2}

pub returns-clause-is : goal.returns-clause-is
returns-clause-is c =
    let r = c.args.self in
    let k = c.args.run in
    let d = piece_in (text_in r) (range_at r) (number_in k) in
    let from : c.if-is_same.from ≡ d.from =
    elim c.if-is_same.branch [
      | then-is_same w ↦ w.from-is ∙ ap (λ b. if b then r.first.index else 0) (named_here (start_position r) k (sym c.requires) c.id.result c.is_same.result c.id.ensures c.is_same.ensures w.if-is_same.true)
      | else-is_same w ↦ w.from-is ∙ ap (λ b. if b then r.first.index else 0) (named_elsewhere (start_position r) k (sym c.requires) c.id.result c.is_same.result c.id.ensures c.is_same.ensures w.if-is_same.false)
    ] in
    let to : c.if-is_same-2.to ≡ d.to =
    elim c.if-is_same-2.branch [
      | then-is_same-2 w ↦ w.to-is ∙ ap (λ b. if b then r.last.index else count_in (text_in r) (number_in k)) (named_here (end_position r) k (sym c.requires) c.id-2.result c.is_same-2.result c.id-2.ensures c.is_same-2.ensures w.if-is_same-2.true)
      | else-is_same-2 w ↦ w.to-is ∙ counted_in r.root k c.character_count-to.result c.requires c.character_count-to.ensures
          ∙ ap (λ b. if b then r.last.index else count_in (text_in r) (number_in k)) (named_elsewhere (end_position r) k (sym c.requires) c.id-2.result c.is_same-2.result c.id-2.ensures c.is_same-2.ensures w.if-is_same-2.false)
    ] in
    same_piece d (number_in k) c.if-is_same.from c.if-is_same-2.to refl from to
