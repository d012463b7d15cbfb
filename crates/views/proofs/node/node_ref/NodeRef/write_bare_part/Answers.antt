use Rattle.std.proofs.Common.{[], sym, ◌∙◌, ap}
use Rattle.std.specs.Prelude.{unwrap_or}
use Rattle.schema.specs.TextCalls.{WithText}
use Rattle.views.specs.ValueCalls.{text_calls}
use Rattle.views.proofs.Calling.{called_as, broken_off_as, taken_by, failed_by}
use Rattle.views.proofs.ValueCalling.{calls_are, broken_off_is, part_of_value, part_of_label}
use Rattle.views.proofs.LabelTexts.{part_is_value, part_is_label}
use Rattle.views.proofs.Writing.{err_with, text_is, cut_is, taken_as, refused_as}
use Rattle.views.proofs.node.node_ref.NodeRef.write_bare_part.Goals as goal

pub returns-in_err-write_value-clause-err : goal.returns-in_err-write_value-clause-err
returns-in_err-write_value-clause-err g c =
    err_with c.from_residual.result
    (cut_is (ap (λ o. unwrap_or o []) (part_is_value c.args.self.now (sym c.label_comes_from_value.ensures ∙ c.if-label_comes_from_value.true))) c.in_err-write_value.ensures.err)

pub returns-then-label_comes_from_value-clause-ok : goal.returns-then-label_comes_from_value-clause-ok
returns-then-label_comes_from_value-clause-ok g c =
    text_is (ap (λ o. unwrap_or o []) (part_is_value c.args.self.now (sym c.label_comes_from_value.ensures ∙ c.if-label_comes_from_value.true))) c.in_ok-write_value.ensures.ok.1

pub returns-clause-ok : goal.returns-clause-ok
returns-clause-ok g c =
    taken_as g.W.TextWrite.received g.W.TextWrite.faults c.args.writer.now c.write_str.new.self c.write_str.result
    (c.own_label.ensures ∙ ap (λ o. unwrap_or o []) (part_is_label c.args.self.now (sym c.label_comes_from_value.ensures ∙ c.if-label_comes_from_value.false))) c.write_str.ensures.ok

pub returns-clause-err : goal.returns-clause-err
returns-clause-err g c =
    refused_as g.W.TextWrite.received g.W.TextWrite.faults c.args.writer.now c.write_str.new.self c.write_str.result
    (c.own_label.ensures ∙ ap (λ o. unwrap_or o []) (part_is_label c.args.self.now (sym c.label_comes_from_value.ensures ∙ c.if-label_comes_from_value.false))) c.write_str.ensures.err

pub returns-in_err-write_value-clause-stopped : goal.returns-in_err-write_value-clause-stopped
returns-in_err-write_value-clause-stopped g c =
    err_with c.from_residual.result
    (broken_off_is g.W.TextWrite.steps (part_of_value c.args.self.now (sym c.label_comes_from_value.ensures ∙ c.if-label_comes_from_value.true)) c.in_err-write_value.ensures.stopped)

pub returns-then-label_comes_from_value-clause-called : goal.returns-then-label_comes_from_value-clause-called
returns-then-label_comes_from_value-clause-called g c =
    calls_are g.W.TextWrite.steps c.args.writer.now c.write_value.new.writer (part_of_value c.args.self.now (sym c.label_comes_from_value.ensures ∙ c.if-label_comes_from_value.true)) c.in_ok-write_value.ensures.called

pub returns-clause-called : goal.returns-clause-called
returns-clause-called g c =
    called_as g.W.TextWrite.steps c.args.writer.now c.write_str.new.self c.write_str.result
    (ap text_calls c.own_label.ensures ∙ part_of_label c.args.self.now (sym c.label_comes_from_value.ensures ∙ c.if-label_comes_from_value.false))
    (taken_by g.W.TextWrite.steps c.args.writer.now c.write_str.new.self (WithText c.own_label.result.now) c.write_str.result c.write_str.ensures.called)

pub returns-clause-stopped : goal.returns-clause-stopped
returns-clause-stopped g c =
    broken_off_as g.W.TextWrite.steps c.args.writer.now c.write_str.new.self c.write_str.result
    (ap text_calls c.own_label.ensures ∙ part_of_label c.args.self.now (sym c.label_comes_from_value.ensures ∙ c.if-label_comes_from_value.false))
    (failed_by g.W.TextWrite.steps c.args.writer.now c.write_str.new.self (WithText c.own_label.result.now) c.write_str.result c.write_str.ensures.called)
