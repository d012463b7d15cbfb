use Rattle.std.proofs.Common.{sym, ◌∙◌}
use Rattle.model.specs.FlatText.{offset, is_word_start}
use Rattle.texts.specs.Positions.{flat_position}
use Rattle.texts.specs.TextRanges.{text_in, range_at}
use Rattle.texts.specs.RangeCuts.{words_left}
use Rattle.texts.proofs.RangeRuns.{range_whole}
use Rattle.texts.proofs.RangeSplits.{first_taken}
use Rattle.texts.proofs.RangeTakes.{side_stays, to_word, made_progress}
use Rattle.texts.proofs.range_walks.RangeWordsIterator.next.Goals as goal

pub take_to-requires-clause-side : goal.take_to-requires-clause-side
take_to-requires-clause-side c =
    side_stays (text_in c.args.self.now.left) (range_whole c.args.self.now.left) (is_word_start (text_in c.args.self.now.left)) (offset (text_in c.args.self.now.left) (range_at c.args.self.now.left).start) (flat_position c.forward_to_word_start-next.result)
    (to_word c.args.self.now.left (sym c.is_degenerate.ensures ∙ c.if-is_degenerate.false) c.start.result c.start.ensures c.forward_to_word_start-next.result c.forward_to_word_start-next.ensures.moved)

pub take_to-requires-clause-past : goal.take_to-requires-clause-past
take_to-requires-clause-past c = (to_word c.args.self.now.left (sym c.is_degenerate.ensures ∙ c.if-is_degenerate.false) c.start.result c.start.ensures c.forward_to_word_start-next.result c.forward_to_word_start-next.ensures.moved).above

pub returns-clause-steps : goal.returns-clause-steps
returns-clause-steps c =
    first_taken is_word_start c.args.self.now.left c.take_to.result c.take_to.new.self (flat_position c.forward_to_word_start-next.result) (to_word c.args.self.now.left (sym c.is_degenerate.ensures ∙ c.if-is_degenerate.false) c.start.result c.start.ensures c.forward_to_word_start-next.result c.forward_to_word_start-next.ensures.moved) (sym c.is_degenerate.ensures ∙ c.if-is_degenerate.false) c.take_to.ensures.taken c.take_to.ensures.left

pub returns-clause-goes : goal.returns-clause-goes
returns-clause-goes c =
    made_progress _ words_left c.args.self.now (record { left = c.take_to.new.self }) c.take_to.result tt
    (first_taken is_word_start c.args.self.now.left c.take_to.result c.take_to.new.self (flat_position c.forward_to_word_start-next.result) (to_word c.args.self.now.left (sym c.is_degenerate.ensures ∙ c.if-is_degenerate.false) c.start.result c.start.ensures c.forward_to_word_start-next.result c.forward_to_word_start-next.ensures.moved) (sym c.is_degenerate.ensures ∙ c.if-is_degenerate.false) c.take_to.ensures.taken c.take_to.ensures.left)
