use Rattle.std.proofs.Common.{rules, [], ◌∷◌, sym, ap}
use Rattle.std.specs.Prelude.{unwrap_or}
use Rattle.model.specs.Labels.{label_part}
use Rattle.views.specs.Nodes.{world_at, id_at}
use Rattle.views.specs.LabelTexts.{spaced}
use Rattle.schema.specs.TextCalls.{WithCharacter}
use Rattle.views.specs.ValueCalls.{part_calls, spaced_calls}
use Rattle.views.proofs.Calling.{calls_as, begins, broken_off, one_failed}
use Rattle.views.proofs.ValueCalling.{one_before, one_before_fault}
use Rattle.views.proofs.Writing.{starts, goes_on, stops, err_with, cut_is, all_taken, none_taken, written_as, cut_short_as, last_written, last_cut_short}
use Rattle.views.proofs.node.node_ref.NodeRef.write_part.Goals as goal

pub returns-then-not-is_later-clause-text : goal.returns-then-not-is_later-clause-text
returns-then-not-is_later-clause-text g c =
    let e = sym (ap (λ b. spaced b (unwrap_or (label_part (world_at c.args.self.now) (id_at c.args.self.now)) [])) c.if-not-is_later.true) in
    record {
      written = written_as g.W.TextWrite.received g.W.TextWrite.faults c.args.writer.now c.write_bare_part.new.writer c.write_bare_part.result e c.write_bare_part.ensures.ok;
      cut_short = cut_short_as g.W.TextWrite.received g.W.TextWrite.faults c.args.writer.now c.write_bare_part.new.writer c.write_bare_part.result e c.write_bare_part.ensures.err;
    }

pub returns-in_err-write_char-clause-text : goal.returns-in_err-write_char-clause-text
unfolding lib.Utf8.encode
returns-in_err-write_char-clause-text g c =
    let part = unwrap_or (label_part (world_at c.args.self.now) (id_at c.args.self.now)) [] in
    record {
      written = search rules;
      cut_short = err_with c.from_residual.result
          (cut_is (sym (ap (λ b. spaced b part) c.if-not-is_later.false)) (stops (32 ∷ []) part (starts (32 ∷ part) c.args.writer.now) (none_taken c.in_err-write_char.ensures.err)));
    }

pub returns-clause-text : goal.returns-clause-text
unfolding lib.Utf8.encode
returns-clause-text g c =
    let part = unwrap_or (label_part (world_at c.args.self.now) (id_at c.args.self.now)) [] in
    let e = sym (ap (λ b. spaced b part) c.if-not-is_later.false) in
    let after = goes_on {rest = part} {part = 32 ∷ []} (starts (32 ∷ part) c.args.writer.now) (all_taken c.in_ok-write_char.ensures.ok) in
    record {
      written = written_as g.W.TextWrite.received g.W.TextWrite.faults c.args.writer.now c.write_bare_part-2.new.writer c.write_bare_part-2.result e
          (last_written after c.write_bare_part-2.result c.write_bare_part-2.new.writer c.write_bare_part-2.ensures.ok);
      cut_short = cut_short_as g.W.TextWrite.received g.W.TextWrite.faults c.args.writer.now c.write_bare_part-2.new.writer c.write_bare_part-2.result e
          (last_cut_short after c.write_bare_part-2.result c.write_bare_part-2.new.writer c.write_bare_part-2.ensures.err);
    }

pub returns-then-not-is_later-clause-calls : goal.returns-then-not-is_later-clause-calls
returns-then-not-is_later-clause-calls g c =
    let calls = part_calls (world_at c.args.self.now) (id_at c.args.self.now) in
    calls_as g.W.TextWrite.steps c.args.writer.now c.write_bare_part.new.writer c.write_bare_part.result (sym (ap (λ b. spaced_calls b calls) c.if-not-is_later.true))
    (record { called = c.write_bare_part.ensures.called; stopped = c.write_bare_part.ensures.stopped })

pub returns-in_err-write_char-clause-calls : goal.returns-in_err-write_char-clause-calls
returns-in_err-write_char-clause-calls g c =
    let calls = part_calls (world_at c.args.self.now) (id_at c.args.self.now) in
    calls_as g.W.TextWrite.steps c.args.writer.now c.write_char.new.self c.from_residual.result (sym (ap (λ b. spaced_calls b calls) c.if-not-is_later.false))
    (record {
      called = search rules;
      stopped = err_with c.from_residual.result
          (broken_off g.W.TextWrite.steps (WithCharacter 32 ∷ []) calls (begins g.W.TextWrite.steps (WithCharacter 32 ∷ calls) c.args.writer.now) (one_failed g.W.TextWrite.steps (WithCharacter 32) c.in_err-write_char.ensures.called));
    })

pub returns-clause-calls : goal.returns-clause-calls
returns-clause-calls g c =
    let calls = part_calls (world_at c.args.self.now) (id_at c.args.self.now) in
    calls_as g.W.TextWrite.steps c.args.writer.now c.write_bare_part-2.new.writer c.write_bare_part-2.result (sym (ap (λ b. spaced_calls b calls) c.if-not-is_later.false))
    (record {
      called = one_before g.W.TextWrite.steps c.args.writer.now c.write_char.new.self c.write_bare_part-2.new.writer c.write_bare_part-2.result (WithCharacter 32) calls c.in_ok-write_char.ensures.called c.write_bare_part-2.ensures.called;
      stopped = one_before_fault g.W.TextWrite.steps c.args.writer.now c.write_char.new.self c.write_bare_part-2.new.writer c.write_bare_part-2.result (WithCharacter 32) calls c.in_ok-write_char.ensures.called c.write_bare_part-2.ensures.stopped;
    })
