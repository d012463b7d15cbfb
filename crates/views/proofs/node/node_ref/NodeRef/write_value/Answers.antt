use Rattle.std.proofs.Common.{refl, sym, ◌∙◌}
use Rattle.model.proofs.Text.Secrets.{one_value}
use Rattle.views.specs.Nodes.{world_at, id_at}
use Rattle.views.proofs.ValueCalling.{calls_are, broken_off_is, calls_of_own, calls_of_document, no_calls}
use Rattle.views.proofs.ValueTexts.{value_is_own, value_in_runs, no_value, text_there, is_there, no_text, is_not_there}
use Rattle.views.proofs.Writing.{err_with, nothing_written, text_is, cut_is}
use Rattle.views.proofs.node.node_ref.NodeRef.write_value.Goals as goal

pub returns-in_err-write_own_value-clause-err : goal.returns-in_err-write_own_value-clause-err
returns-in_err-write_own_value-clause-err g c = err_with c.from_residual.result (cut_is (text_there (value_is_own c.args.self.now c.in-Some.value.now c.in-Some.ensures)) c.in_err-write_own_value.ensures.err)

pub returns-in-Some-clause-ok : goal.returns-in-Some-clause-ok
returns-in-Some-clause-ok g c =
    let e = value_is_own c.args.self.now c.in-Some.value.now c.in-Some.ensures in
    (is_there e, text_is (text_there e) c.in_ok-write_own_value.ensures.ok)

pub returns-then-not-has_value_in_runs-clause-ok : goal.returns-then-not-has_value_in_runs-clause-ok
returns-then-not-has_value_in_runs-clause-ok g c =
    let e = no_value c.args.self.now c.in_default.ensures (sym c.has_value_in_runs.ensures ∙ c.if-not-has_value_in_runs.true) in
    (is_not_there e, text_is (no_text e) (nothing_written c.args.writer.now))

pub returns-in_err-write_document-clause-err : goal.returns-in_err-write_document-clause-err
returns-in_err-write_document-clause-err g c =
    let e = value_in_runs c.args.self.now c.in_default.ensures (sym c.has_value_in_runs.ensures ∙ c.if-not-has_value_in_runs.false) in
    err_with c.from_residual-in_err-write_document.result (cut_is (text_there e) c.in_err-write_document.ensures.err)

pub returns-clause-ok : goal.returns-clause-ok
returns-clause-ok g c =
    let e = value_in_runs c.args.self.now c.in_default.ensures (sym c.has_value_in_runs.ensures ∙ c.if-not-has_value_in_runs.false) in
    (is_there e, text_is (text_there e) c.in_ok-write_document.ensures.ok)

-- how the writer is called
pub returns-in_err-write_own_value-clause-stopped : goal.returns-in_err-write_own_value-clause-stopped
returns-in_err-write_own_value-clause-stopped g c =
    err_with c.from_residual.result (broken_off_is g.W.TextWrite.steps (calls_of_own c.args.self.now c.in-Some.value.now c.in-Some.ensures) c.in_err-write_own_value.ensures.calls.stopped)

pub returns-in-Some-clause-called : goal.returns-in-Some-clause-called
returns-in-Some-clause-called g c = calls_are g.W.TextWrite.steps c.args.writer.now c.write_own_value.new.writer (calls_of_own c.args.self.now c.in-Some.value.now c.in-Some.ensures) c.in_ok-write_own_value.ensures.calls.called

pub returns-then-not-has_value_in_runs-clause-called : goal.returns-then-not-has_value_in_runs-clause-called
returns-then-not-has_value_in_runs-clause-called g c =
    calls_are g.W.TextWrite.steps c.args.writer.now c.args.writer.now (no_calls c.args.self.now c.in_default.ensures (sym c.has_value_in_runs.ensures ∙ c.if-not-has_value_in_runs.true)) refl

pub returns-in_err-write_document-clause-stopped : goal.returns-in_err-write_document-clause-stopped
returns-in_err-write_document-clause-stopped g c =
    let e = calls_of_document c.args.self.now c.in_default.ensures (sym c.has_value_in_runs.ensures ∙ c.if-not-has_value_in_runs.false) in
    err_with c.from_residual-in_err-write_document.result (broken_off_is g.W.TextWrite.steps e c.in_err-write_document.ensures.stopped)

pub returns-clause-called : goal.returns-clause-called
returns-clause-called g c =
    let e = calls_of_document c.args.self.now c.in_default.ensures (sym c.has_value_in_runs.ensures ∙ c.if-not-has_value_in_runs.false) in
    calls_are g.W.TextWrite.steps c.args.writer.now c.write_document.new.writer e c.in_ok-write_document.ensures.called

-- in a world of equal shape the value is the same
pub returns-in-Some-clause-secret : goal.returns-in-Some-clause-secret
returns-in-Some-clause-secret g c = λ v same.
    let n = c.args.self.now in
    let e = value_is_own n c.in-Some.value.now c.in-Some.ensures ∙ one_value (id_at n) (world_at n) v same in
    (is_there e, text_is (text_there e) c.in_ok-write_own_value.ensures.ok)

pub returns-then-not-has_value_in_runs-clause-secret : goal.returns-then-not-has_value_in_runs-clause-secret
returns-then-not-has_value_in_runs-clause-secret g c = λ v same.
    let n = c.args.self.now in
    let e = no_value n c.in_default.ensures (sym c.has_value_in_runs.ensures ∙ c.if-not-has_value_in_runs.true) ∙ one_value (id_at n) (world_at n) v same in
    (is_not_there e, text_is (no_text e) (nothing_written c.args.writer.now))

pub returns-clause-secret : goal.returns-clause-secret
returns-clause-secret g c = λ v same.
    let n = c.args.self.now in
    let e = value_in_runs n c.in_default.ensures (sym c.has_value_in_runs.ensures ∙ c.if-not-has_value_in_runs.false) ∙ one_value (id_at n) (world_at n) v same in
    (is_there e, text_is (text_there e) c.in_ok-write_document.ensures.ok)
