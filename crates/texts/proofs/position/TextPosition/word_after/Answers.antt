use Rattle.std.proofs.Common.{◌≡◌, nat_lt, find, Some, refl, ap, ◌∙◌}
use Rattle.std.specs.Prelude.{slice_get}
use Rattle.model.specs.FlatText.{words_in}
use Rattle.text_boundaries.specs.RunNumbers.{number_in, text_around}
use Rattle.texts.specs.Positions.{position_text, flat_position}
use Rattle.texts.proofs.FlatPositions.{text_is_whole}
use Rattle.texts.proofs.WordMarks.{word_after_found, none_after_found}
use Rattle.texts.proofs.RunWords.{on_start, word_within, first_within, last_run_past, paragraph_next, word_next, past_run, text_there}
use Rattle.texts.proofs.position.TextPosition.word_after.Goals as goal

pub invariant_of-result : goal.invariant_of-result
invariant_of-result c =
    let p = c.args.self in
    record { text = p.text; within = word_within p p.run refl (λ k. nat_lt p.index k) c.in-Some.index (c.in-Some.ensures ∙ ap (find (λ k. nat_lt p.index k)) c.shown_words.ensures) }

pub returns-in-Some : goal.returns-in-Some
returns-in-Some c =
    let p = c.args.self in
    record {
      same = refl;
      at = word_after_found (position_text p) (text_is_whole p) (flat_position p) (on_start p c.requires) c.in-Some.index (c.in-Some.ensures ∙ ap (find (λ k. nat_lt p.index k)) c.shown_words.ensures);
    }

pub loop-next-init : goal.loop-next-init
loop-next-init c =
    let p = c.args.self in
    record {
      same = refl;
      past = none_after_found (position_text p) (text_is_whole p) (flat_position p) (on_start p c.requires) (c.in_default.ensures ∙ ap (find (λ k. nat_lt p.index k)) c.shown_words.ensures);
    }

pub returns-in_default-next : goal.returns-in_default-next
returns-in_default-next c =
    let loop = c.loop-next.invariant in
    record { same = loop.same; at = last_run_past c.args.self c.loop-next.run loop.same loop.past c.in_default-next.ensures c.character_count.result c.character_count.ensures }

pub returns-then-begins_after : goal.returns-then-begins_after
returns-then-begins_after c =
    let loop = c.loop-next.invariant in
    record {
      same = c.in-Some-next.ensures.root ∙ loop.same;
      at = paragraph_next c.args.self c.loop-next.run loop.same c.in-Some-next.next c.in-Some-next.ensures loop.past c.begins_after.result c.begins_after.ensures c.if-begins_after.true;
    }

pub invariant_of-result-in-Some-first : goal.invariant_of-result-in-Some-first
invariant_of-result-in-Some-first c =
    let p = c.args.self in
    let s = c.in-Some-next.next in
    let same = c.in-Some-next.ensures.root ∙ c.loop-next.invariant.same in
    let found : Some c.from.result ≡ slice_get (words_in (text_around s) (number_in s)) 0 =
    ap Some c.from.ensures ∙ c.in-Some-first.ensures.value ∙ ap (λ xs. slice_get xs 0) c.shown_words-in-loop-next.ensures in
    record { text = text_there p s same; within = first_within p s same c.from.result found }

pub returns-in-Some-first : goal.returns-in-Some-first
returns-in-Some-first c =
    let s = c.in-Some-next.next in
    let loop = c.loop-next.invariant in
    let found : Some c.from.result ≡ slice_get (words_in (text_around s) (number_in s)) 0 =
    ap Some c.from.ensures ∙ c.in-Some-first.ensures.value ∙ ap (λ xs. slice_get xs 0) c.shown_words-in-loop-next.ensures in
    record {
      same = c.in-Some-next.ensures.root ∙ loop.same;
      at = word_next c.args.self c.loop-next.run loop.same s c.in-Some-next.ensures loop.past c.begins_after.result c.begins_after.ensures c.if-begins_after.false c.from.result found;
    }

pub loop-next-preserved : goal.loop-next-preserved
loop-next-preserved c =
    past_run c.args.self c.loop-next.run c.in-Some-next.next c.begins_after.result c.loop-next.invariant c.in-Some-next.ensures c.begins_after.ensures c.if-begins_after.false
    (c.in_default-first.ensures.value ∙ ap (λ xs. slice_get xs 0) c.shown_words-in-loop-next.ensures)
