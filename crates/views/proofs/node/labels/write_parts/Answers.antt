use Rattle.std.proofs.Common.{[], true, refl, sym, ◌∙◌, ap}
use Rattle.std.specs.Prelude.{unwrap_or, ◌||◌}
use Rattle.std.specs.List.{join_with_byte}
use Rattle.model.specs.Labels.{label_part}
use Rattle.views.specs.Nodes.{world_at, id_at}
use Rattle.views.specs.LabelWalks.{labels_left}
use Rattle.views.specs.LabelTexts.{parts_of, spaced, rest_of_label, has_parts}
use Rattle.views.proofs.LabelTexts.{given, not_given, next_part, no_more, there_already, there_only, joined_is}
use Rattle.views.specs.ValueCalls.{calls_of, joined_calls, part_calls, rest_of_calls, spaced_calls}
use Rattle.views.proofs.Calling.{begins, called_on, broken_off, all_called, left_is}
use Rattle.views.proofs.ValueCalling.{given_its_calls, given_no_calls, next_calls, no_more_calls}
use Rattle.views.proofs.Writing.{starts, goes_on, stops, ends, rest_is, err_with, text_is, cut_is}
use Rattle.views.proofs.node.labels.write_parts.Goals as goal

pub loop-node-init : goal.loop-node-init
loop-node-init g c = record {
  way = starts (join_with_byte 32 (parts_of (labels_left c.args.labels))) c.args.writer.now;
  calls = begins g.W.TextWrite.steps (joined_calls (calls_of (labels_left c.args.labels))) c.args.writer.now;
  there = refl;
}

pub loop-node-preserved-then-not-gives_part : goal.loop-node-preserved-then-not-gives_part
loop-node-preserved-then-not-gives_part g c =
    let inv = c.loop-node.invariant in
    let e = not_given (labels_left c.loop-node.nodes) (labels_left c.next.new.self) c.in-Some.node c.in-Some.ensures.steps (sym c.gives_part.ensures ∙ c.if-not-gives_part.true) in
    record {
      way = rest_is (ap (rest_of_label c.loop-node.is_later) e) inv.way;
      calls = left_is g.W.TextWrite.steps
          (ap (rest_of_calls c.loop-node.is_later) (given_no_calls (labels_left c.loop-node.nodes) (labels_left c.next.new.self) c.in-Some.node c.in-Some.ensures.steps (sym c.gives_part.ensures ∙ c.if-not-gives_part.true))) inv.calls;
      there = ap (λ ps. c.loop-node.is_later || has_parts ps) (sym e) ∙ inv.there;
    }

pub returns-in_err-write_part-clause-err : goal.returns-in_err-write_part-clause-err
returns-in_err-write_part-clause-err g c =
    let n = c.in-Some.node in
    let part = unwrap_or (label_part (world_at n) (id_at n)) [] in
    let later = c.loop-node.is_later in
    let e = given (labels_left c.loop-node.nodes) (labels_left c.next.new.self) n c.in-Some.ensures.steps (sym c.gives_part.ensures ∙ c.if-not-gives_part.false) in
    let rest = parts_of (labels_left c.next.new.self) in
    err_with c.from_residual.result
    (cut_is (joined_is (parts_of (labels_left c.args.labels)))
    (stops (spaced later part) (rest_of_label true rest) (rest_is (ap (rest_of_label later) e ∙ next_part later part rest) c.loop-node.invariant.way) c.in_err-write_part.ensures.text.cut_short))

pub returns-in_err-write_part-clause-stopped : goal.returns-in_err-write_part-clause-stopped
returns-in_err-write_part-clause-stopped g c =
    let n = c.in-Some.node in
    let part = part_calls (world_at n) (id_at n) in
    let later = c.loop-node.is_later in
    let e = given_its_calls (labels_left c.loop-node.nodes) (labels_left c.next.new.self) n c.in-Some.ensures.steps (sym c.gives_part.ensures ∙ c.if-not-gives_part.false) in
    let rest = calls_of (labels_left c.next.new.self) in
    err_with c.from_residual.result
    (broken_off g.W.TextWrite.steps (spaced_calls later part) (rest_of_calls true rest) (left_is g.W.TextWrite.steps (ap (rest_of_calls later) e ∙ next_calls later part rest) c.loop-node.invariant.calls) c.in_err-write_part.ensures.calls.stopped)

pub loop-node-preserved : goal.loop-node-preserved
loop-node-preserved g c =
    let inv = c.loop-node.invariant in
    let n = c.in-Some.node in
    let part = unwrap_or (label_part (world_at n) (id_at n)) [] in
    let later = c.loop-node.is_later in
    let e = given (labels_left c.loop-node.nodes) (labels_left c.next.new.self) n c.in-Some.ensures.steps (sym c.gives_part.ensures ∙ c.if-not-gives_part.false) in
    let rest = parts_of (labels_left c.next.new.self) in
    record {
      way = goes_on (rest_is (ap (rest_of_label later) e ∙ next_part later part rest) inv.way) c.in_ok-write_part.ensures.text.written;
      calls = called_on g.W.TextWrite.steps (spaced_calls later (part_calls (world_at n) (id_at n)))
          (left_is g.W.TextWrite.steps
          (ap (rest_of_calls later) (given_its_calls (labels_left c.loop-node.nodes) (labels_left c.next.new.self) n c.in-Some.ensures.steps (sym c.gives_part.ensures ∙ c.if-not-gives_part.false))
          ∙ next_calls later (part_calls (world_at n) (id_at n)) (calls_of (labels_left c.next.new.self))) inv.calls)
          c.in_ok-write_part.ensures.calls.called;
      there = there_already later ∙ ap (λ ps. later || has_parts ps) (sym e) ∙ inv.there;
    }

pub returns-clause-ok : goal.returns-clause-ok
returns-clause-ok g c =
    let inv = c.loop-node.invariant in
    let later = c.loop-node.is_later in
    let e = ap parts_of c.in_default.ensures.steps.0 in (
      there_only later ∙ ap (λ ps. later || has_parts ps) (sym e) ∙ inv.there,
      text_is (joined_is (parts_of (labels_left c.args.labels))) (ends (rest_is (ap (rest_of_label later) e ∙ no_more later) inv.way)),
    )

pub returns-clause-called : goal.returns-clause-called
returns-clause-called g c =
    let later = c.loop-node.is_later in
    all_called g.W.TextWrite.steps (left_is g.W.TextWrite.steps (ap (λ ns. rest_of_calls later (calls_of ns)) c.in_default.ensures.steps.0 ∙ no_more_calls later) c.loop-node.invariant.calls)
