use Rattle.std.proofs.Common.{refl, sym, ap, ◌∙◌}
use Rattle.std.specs.Prelude.{◌&&◌, not}
use Rattle.model.specs.FlatText.{is_document_end}
use Rattle.texts.specs.Positions.{position_text, flat_position}
use Rattle.texts.proofs.Separators.{none_to_separate, one_to_separate, separates}
use Rattle.texts.proofs.position.TextPosition.is_paragraph_separator.Goals as goal

pub returns-then-start-character_count : goal.returns-then-start-character_count
returns-then-start-character_count c =
    none_to_separate c.args.self.now c.biased_to_start-start.result c.biased_to_start-start.ensures c.character_count.result c.character_count.ensures c.if-start-character_count.true

pub forward_to_character_end-end-requires : goal.forward_to_character_end-end-requires
forward_to_character_end-end-requires c =
    one_to_separate c.args.self.now c.biased_to_start-start.result c.biased_to_start-start.ensures c.character_count.result c.character_count.ensures c.if-start-character_count.false

pub returns-else-is_paragraph_end : goal.returns-else-is_paragraph_end
returns-else-is_paragraph_end c =
    let p = c.args.self.now in
    let e = c.forward_to_character_end-end.result in
    let less = one_to_separate p c.biased_to_start-start.result c.biased_to_start-start.ensures c.character_count.result c.character_count.ensures c.if-start-character_count.false in
    let y = is_document_end (position_text e) (flat_position e) in
    c.if-is_paragraph_end.false ∙ sym (ap (λ x. x && not y) c.if-is_paragraph_end.false) ∙ separates p e c.is_paragraph_end.result y less c.forward_to_character_end-end.ensures.moved c.is_paragraph_end.ensures refl

pub returns-then-is_paragraph_end : goal.returns-then-is_paragraph_end
returns-then-is_paragraph_end c =
    let p = c.args.self.now in
    let e = c.forward_to_character_end-end.result in
    let less = one_to_separate p c.biased_to_start-start.result c.biased_to_start-start.ensures c.character_count.result c.character_count.ensures c.if-start-character_count.false in
    sym (ap (λ x. x && not c.is_document_end.result) c.if-is_paragraph_end.true)
    ∙ separates p e c.is_paragraph_end.result c.is_document_end.result less c.forward_to_character_end-end.ensures.moved c.is_paragraph_end.ensures c.is_document_end.ensures
