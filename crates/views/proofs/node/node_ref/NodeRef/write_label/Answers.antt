use Rattle.std.proofs.Common.{◌≡◌, [], ◌∙◌, ap, subst}
use Rattle.std.specs.Prelude.{is_some, unwrap_or, IfOk, OnErr}
use Rattle.model.specs.Labels.{joined_text}
use Rattle.views.specs.LabelTexts.{parts_of}
use Rattle.views.specs.Writes.{IsWritten, IsCutShort}
use Rattle.views.proofs.ValueTexts.{text_there, is_there}
use Rattle.views.proofs.LabelTexts.{label_is_own, label_is_joined}
use Rattle.schema.specs.TextCalls.{WithText}
use Rattle.views.specs.ValueCalls.{calls_of, joined_calls}
use Rattle.views.proofs.Calling.{called_as, broken_off_as, one_taken, one_failed}
use Rattle.views.proofs.ValueCalling.{calls_are, broken_off_is, own_label_calls, joined_label_calls}
use Rattle.views.proofs.Writing.{err_with, text_is, cut_is, all_taken, none_taken}
use Rattle.views.proofs.node.node_ref.NodeRef.write_label.Goals as goal

pub returns-in_err-write_str-clause-err : goal.returns-in_err-write_str-clause-err
returns-in_err-write_str-clause-err g c = err_with c.from_residual.result (cut_is (text_there (label_is_own c.args.self.now c.in-Some.label.now c.in-Some.ensures)) (none_taken c.in_err-write_str.ensures.err))

pub returns-in-Some-clause-ok : goal.returns-in-Some-clause-ok
returns-in-Some-clause-ok g c =
    let e = label_is_own c.args.self.now c.in-Some.label.now c.in-Some.ensures in
    (is_there e, text_is (text_there e) (all_taken c.in_ok-write_str.ensures.ok))

pub returns-clause-ok : goal.returns-clause-ok
returns-clause-ok g c =
    let r = c.write_parts.result in
    subst (λ text. IfOk r (λ there. (there ≡ is_some text) × IsWritten g.W.TextWrite.received g.W.TextWrite.faults (unwrap_or text []) c.args.writer.now c.write_parts.new.writer))
    (ap (λ ns. joined_text (parts_of ns)) c.labelled_by.ensures ∙ label_is_joined c.args.self.now c.in_default.ensures) c.write_parts.ensures.ok

pub returns-clause-err : goal.returns-clause-err
returns-clause-err g c =
    let r = c.write_parts.result in
    subst (λ text. OnErr r (IsCutShort g.W.TextWrite.received g.W.TextWrite.faults (unwrap_or text []) c.args.writer.now c.write_parts.new.writer))
    (ap (λ ns. joined_text (parts_of ns)) c.labelled_by.ensures ∙ label_is_joined c.args.self.now c.in_default.ensures) c.write_parts.ensures.err

pub returns-in_err-write_str-clause-stopped : goal.returns-in_err-write_str-clause-stopped
returns-in_err-write_str-clause-stopped g c =
    err_with c.from_residual.result
    (broken_off_is g.W.TextWrite.steps (own_label_calls c.args.self.now c.in-Some.label.now c.in-Some.ensures) (one_failed g.W.TextWrite.steps (WithText c.in-Some.label.now) c.in_err-write_str.ensures.called))

pub returns-in-Some-clause-called : goal.returns-in-Some-clause-called
returns-in-Some-clause-called g c =
    calls_are g.W.TextWrite.steps c.args.writer.now c.write_str.new.self (own_label_calls c.args.self.now c.in-Some.label.now c.in-Some.ensures) (one_taken g.W.TextWrite.steps (WithText c.in-Some.label.now) c.in_ok-write_str.ensures.called)

pub returns-clause-called : goal.returns-clause-called
returns-clause-called g c =
    called_as g.W.TextWrite.steps c.args.writer.now c.write_parts.new.writer c.write_parts.result
    (ap (λ ns. joined_calls (calls_of ns)) c.labelled_by.ensures ∙ joined_label_calls c.args.self.now c.in_default.ensures) c.write_parts.ensures.called

pub returns-clause-stopped : goal.returns-clause-stopped
returns-clause-stopped g c =
    broken_off_as g.W.TextWrite.steps c.args.writer.now c.write_parts.new.writer c.write_parts.result
    (ap (λ ns. joined_calls (calls_of ns)) c.labelled_by.ensures ∙ joined_label_calls c.args.self.now c.in_default.ensures) c.write_parts.ensures.stopped
