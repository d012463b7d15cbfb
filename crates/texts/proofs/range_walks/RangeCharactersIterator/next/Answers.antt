use Rattle.std.proofs.Common.{true, sym, ◌∙◌}
use Rattle.model.specs.FlatText.{offset}
use Rattle.texts.specs.Positions.{flat_position}
use Rattle.texts.specs.TextRanges.{text_in, range_at}
use Rattle.texts.specs.RangeCuts.{characters_left}
use Rattle.texts.proofs.RangeRuns.{range_whole}
use Rattle.texts.proofs.RangeSplits.{first_taken}
use Rattle.texts.proofs.RangeTakes.{side_stays, character_after, to_character, made_progress}
use Rattle.texts.proofs.range_walks.RangeCharactersIterator.next.Goals as goal

pub forward_to_character_start-next-requires : goal.forward_to_character_start-next-requires
forward_to_character_start-next-requires c = character_after c.args.self.now.left (sym c.is_degenerate.ensures ∙ c.if-is_degenerate.false) c.start.result c.start.ensures

pub take_to-requires-clause-side : goal.take_to-requires-clause-side
take_to-requires-clause-side c =
    side_stays (text_in c.args.self.now.left) (range_whole c.args.self.now.left) (λ q. true) (offset (text_in c.args.self.now.left) (range_at c.args.self.now.left).start) (flat_position c.forward_to_character_start-next.result)
    (to_character c.args.self.now.left (sym c.is_degenerate.ensures ∙ c.if-is_degenerate.false) c.start.result c.start.ensures c.forward_to_character_start-next.result c.forward_to_character_start-next.ensures.moved)

pub take_to-requires-clause-past : goal.take_to-requires-clause-past
take_to-requires-clause-past c = (to_character c.args.self.now.left (sym c.is_degenerate.ensures ∙ c.if-is_degenerate.false) c.start.result c.start.ensures c.forward_to_character_start-next.result c.forward_to_character_start-next.ensures.moved).above

pub returns-clause-steps : goal.returns-clause-steps
returns-clause-steps c =
    first_taken (λ t p. true) c.args.self.now.left c.take_to.result c.take_to.new.self (flat_position c.forward_to_character_start-next.result) (to_character c.args.self.now.left (sym c.is_degenerate.ensures ∙ c.if-is_degenerate.false) c.start.result c.start.ensures c.forward_to_character_start-next.result c.forward_to_character_start-next.ensures.moved) (sym c.is_degenerate.ensures ∙ c.if-is_degenerate.false) c.take_to.ensures.taken c.take_to.ensures.left

pub returns-clause-goes : goal.returns-clause-goes
returns-clause-goes c =
    made_progress _ characters_left c.args.self.now (record { left = c.take_to.new.self }) c.take_to.result tt
    (first_taken (λ t p. true) c.args.self.now.left c.take_to.result c.take_to.new.self (flat_position c.forward_to_character_start-next.result) (to_character c.args.self.now.left (sym c.is_degenerate.ensures ∙ c.if-is_degenerate.false) c.start.result c.start.ensures c.forward_to_character_start-next.result c.forward_to_character_start-next.ensures.moved) (sym c.is_degenerate.ensures ∙ c.if-is_degenerate.false) c.take_to.ensures.taken c.take_to.ensures.left)
