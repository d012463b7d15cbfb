use Rattle.std.proofs.Common.{sym, ap, ◌∙◌}
use Rattle.schema.specs.NodeData.{NodeData}
use Rattle.views.specs.Nodes.{id_at}
use Rattle.views.specs.Runs.{sent_of, sents_after}
use Rattle.views.specs.DefectWalks.{defect_from}
use Rattle.views.proofs.DefectRuns.{not_linked_back}
use Rattle.views.proofs.runs.well_formed.first_defect.Goals as goal

pub returns : goal.returns
returns c =
    let n = c.args.root in
    let r = c.args.first in
    c.defect_from.ensures ∙ ap (λ password. defect_from (id_at n).tree password 0 (sent_of r) (sents_after r)) c.is_password_input.ensures
    ∙ sym (not_linked_back n r c.requires (sym (c.in_default.ensures ∙ ap (λ (d : NodeData). d.previous_on_line) c.node.ensures)))
