use Rattle.std.proofs.Common.{nat_lt, find, reverse, refl, ap, ◌∙◌, arith}
use Rattle.texts.specs.Positions.{position_text, flat_position}
use Rattle.texts.proofs.FlatPositions.{text_is_whole}
use Rattle.texts.proofs.WordMarks.{word_before_found, none_before_found}
use Rattle.texts.proofs.RunWords.{on_end, below_within, word_previous, back_run, text_there}
use Rattle.texts.proofs.position.TextPosition.word_before.Goals as goal

pub invariant_of-result : goal.invariant_of-result
invariant_of-result c =
    let p = c.args.self in
    let low = below_within p.index c.in-Some.index (reverse c.shown_words.result.now) c.in-Some.ensures in
    let fits = p.within in
    record { text = p.text; within = omega (arith, low, fits) }

pub returns-in-Some : goal.returns-in-Some
returns-in-Some c =
    let p = c.args.self in
    record {
      same = refl;
      at = word_before_found (position_text p) (text_is_whole p) (flat_position p) (on_end p c.requires) c.in-Some.index (c.in-Some.ensures ∙ ap (λ xs. find (λ k. nat_lt k p.index) (reverse xs)) c.shown_words.ensures);
    }

pub loop-previous-init : goal.loop-previous-init
loop-previous-init c =
    let p = c.args.self in
    record {
      same = refl;
      back = none_before_found (position_text p) (text_is_whole p) (flat_position p) (on_end p c.requires) (c.in_default.ensures ∙ ap (λ xs. find (λ k. nat_lt k p.index) (reverse xs)) c.shown_words.ensures);
    }

pub invariant_of-result-in-Some-last_below : goal.invariant_of-result-in-Some-last_below
invariant_of-result-in-Some-last_below c =
    let low = below_within c.character_count.result c.in-Some-last_below.index (reverse c.shown_words-in-loop-previous.result.now) c.in-Some-last_below.ensures in
    record { text = text_there c.args.self c.in-Some-previous.previous (c.in-Some-previous.ensures.root ∙ c.loop-previous.invariant.same); within = omega (arith, low, c.character_count.ensures) }

pub returns-in-Some-last_below : goal.returns-in-Some-last_below
returns-in-Some-last_below c =
    let loop = c.loop-previous.invariant in
    record {
      same = c.in-Some-previous.ensures.root ∙ loop.same;
      at = word_previous c.args.self c.loop-previous.run loop.same c.in-Some-previous.previous c.in-Some-previous.ensures loop.back c.begins_after.result c.begins_after.ensures c.if-begins_after.false
          c.character_count.result c.character_count.ensures c.in-Some-last_below.index
          (c.in-Some-last_below.ensures ∙ ap (λ xs. find (λ k. nat_lt k c.character_count.result) (reverse xs)) c.shown_words-in-loop-previous.ensures);
    }

pub loop-previous-preserved : goal.loop-previous-preserved
loop-previous-preserved c =
    back_run c.args.self c.loop-previous.run c.in-Some-previous.previous c.begins_after.result c.loop-previous.invariant c.in-Some-previous.ensures c.begins_after.ensures c.if-begins_after.false
    c.character_count.result c.character_count.ensures (c.in_default-last_below.ensures ∙ ap (λ xs. find (λ k. nat_lt k c.character_count.result) (reverse xs)) c.shown_words-in-loop-previous.ensures)
