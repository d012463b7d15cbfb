use Rattle.std.proofs.Common.{refl, sym, ◌∙◌}
use Rattle.schema.specs.TextCalls.{WithText}
use Rattle.model.specs.RoleClasses.{is_password_input}
use Rattle.views.specs.Nodes.{world_at, id_at}
use Rattle.views.proofs.Calling.{calls_as, one_call}
use Rattle.views.proofs.Climbing.{says_shown}
use Rattle.views.proofs.ValueCalling.{no_password, no_runs, masked_runs, plain_runs}
use Rattle.views.proofs.node.node_ref.NodeRef.write_own_value.Goals as goal

pub returns-then-not-is_password_input-clause-calls : goal.returns-then-not-is_password_input-clause-calls
returns-then-not-is_password_input-clause-calls g c =
    let n = c.args.self.now in
    let is = says_shown (λ d. is_password_input d.role) (world_at n) n refl ∙ sym c.is_password_input.ensures in
    calls_as g.W.TextWrite.steps c.args.writer.now c.write_str.new.self c.write_str.result
    (no_password (world_at n) (id_at n) c.args.value.now (is ∙ c.if-not-is_password_input.true))
    (one_call g.W.TextWrite.steps c.args.writer.now c.write_str.new.self (WithText c.args.value.now) c.write_str.result c.write_str.ensures.called)

pub returns-then-not-supports_text_ranges-clause-calls : goal.returns-then-not-supports_text_ranges-clause-calls
returns-then-not-supports_text_ranges-clause-calls g c =
    let n = c.args.self.now in
    let is = says_shown (λ d. is_password_input d.role) (world_at n) n refl ∙ sym c.is_password_input.ensures in
    calls_as g.W.TextWrite.steps c.args.writer.now c.write_alone.new.writer c.write_alone.result
    (no_runs (world_at n) (id_at n) c.args.value.now (is ∙ c.if-not-is_password_input.false) (sym c.supports_text_ranges.ensures ∙ c.if-not-supports_text_ranges.true))
    c.write_alone.ensures.calls

pub returns-then-needs_masking-clause-calls : goal.returns-then-needs_masking-clause-calls
returns-then-needs_masking-clause-calls g c =
    let n = c.args.self.now in
    let is = says_shown (λ d. is_password_input d.role) (world_at n) n refl ∙ sym c.is_password_input.ensures in
    calls_as g.W.TextWrite.steps c.args.writer.now c.write_document.new.writer c.write_document.result
    (masked_runs (world_at n) (id_at n) c.args.value.now (is ∙ c.if-not-is_password_input.false) (sym c.supports_text_ranges.ensures ∙ c.if-not-supports_text_ranges.false) (sym c.needs_masking.ensures ∙ c.if-needs_masking.true))
    (record { called = c.write_document.ensures.called; stopped = c.write_document.ensures.stopped })

pub returns-clause-calls : goal.returns-clause-calls
returns-clause-calls g c =
    let n = c.args.self.now in
    let is = says_shown (λ d. is_password_input d.role) (world_at n) n refl ∙ sym c.is_password_input.ensures in
    calls_as g.W.TextWrite.steps c.args.writer.now c.write_str-2.new.self c.write_str-2.result
    (plain_runs (world_at n) (id_at n) c.args.value.now (is ∙ c.if-not-is_password_input.false) (sym c.supports_text_ranges.ensures ∙ c.if-not-supports_text_ranges.false) (sym c.needs_masking.ensures ∙ c.if-needs_masking.false))
    (one_call g.W.TextWrite.steps c.args.writer.now c.write_str-2.new.self (WithText c.args.value.now) c.write_str-2.result c.write_str-2.ensures.called)
