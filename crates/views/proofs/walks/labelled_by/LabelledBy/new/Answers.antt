use Rattle.std.proofs.Common.{◌∙◌, map, sym, ap}
use Rattle.views.specs.Nodes.{world_at, id_at, data_at}
use Rattle.views.specs.PlainWalks.{node_in}
use Rattle.views.specs.Controlled.{named_nodes}
use Rattle.views.specs.LabelWalks.{source_left}
use Rattle.views.proofs.LabelSteps.{labelled_within, labelled_by_named}
use Rattle.views.proofs.walks.labelled_by.LabelledBy.new.Goals as goal
use Rattle.views.proofs.walks.labelled_by.LabelledBy.new.Goals.{then-looks_within, else-looks_within}

pub returns : goal.returns
returns c =
    let n = c.args.node in
    let w = world_at n in
    elim c.if-looks_within.branch [
      | then-looks_within b ↦
          ap source_left b.source-is ∙ b.new.ensures
          ∙ ap (map (node_in w)) (sym (labelled_within w (id_at n) (data_at n) n.known (sym c.looks_within.ensures ∙ b.if-looks_within.true)))
      | else-looks_within b ↦
          ap source_left b.source-is ∙ b.over.ensures ∙ ap (named_nodes w (id_at n).tree) b.labelled_by.ensures
          ∙ ap (map (node_in w)) (sym (labelled_by_named w (id_at n) (data_at n) n.known (sym c.looks_within.ensures ∙ b.if-looks_within.false)))
    ]
