use Rattle.std.proofs.Common.{◌∙◌, sym, ap}
use Rattle.views.specs.Nodes.{world_at, id_at}
use Rattle.views.specs.RunTexts.{shown_text}
use Rattle.views.proofs.DocumentTexts.{document_is_shown}
use Rattle.model.specs.TextRuns.{sent_runs}
use Rattle.views.specs.ValueCalls.{calls_of_runs}
use Rattle.views.proofs.Calling.{called_as, broken_off_as}
use Rattle.views.proofs.Writing.{written_as, cut_short_as}
use Rattle.views.proofs.node.run_texts.write_document.Goals as goal

pub returns-clause-ok : goal.returns-clause-ok
returns-clause-ok g c =
    let w = world_at c.args.root in
    let id = id_at c.args.root in
    written_as g.W.TextWrite.received g.W.TextWrite.faults c.args.writer.now c.write_runs.new.writer c.write_runs.result (ap (λ m. shown_text m w id) c.needs_masking.ensures ∙ sym (document_is_shown w id c.requires.text)) c.write_runs.ensures.ok

pub returns-clause-err : goal.returns-clause-err
returns-clause-err g c =
    let w = world_at c.args.root in
    let id = id_at c.args.root in
    cut_short_as g.W.TextWrite.received g.W.TextWrite.faults c.args.writer.now c.write_runs.new.writer c.write_runs.result (ap (λ m. shown_text m w id) c.needs_masking.ensures ∙ sym (document_is_shown w id c.requires.text)) c.write_runs.ensures.err

pub returns-clause-called : goal.returns-clause-called
returns-clause-called g c =
    let runs = sent_runs (world_at c.args.root) (id_at c.args.root) in
    called_as g.W.TextWrite.steps c.args.writer.now c.write_runs.new.writer c.write_runs.result (ap (λ m. calls_of_runs m runs) c.needs_masking.ensures) c.write_runs.ensures.called

pub returns-clause-stopped : goal.returns-clause-stopped
returns-clause-stopped g c =
    let runs = sent_runs (world_at c.args.root) (id_at c.args.root) in
    broken_off_as g.W.TextWrite.steps c.args.writer.now c.write_runs.new.writer c.write_runs.result (ap (λ m. calls_of_runs m runs) c.needs_masking.ensures) c.write_runs.ensures.stopped
