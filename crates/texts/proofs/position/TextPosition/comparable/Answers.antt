use Rattle.std.proofs.Common.{sym, ap, subst, ◌∙◌}
use Rattle.std.specs.Prelude.{option_map}
use Rattle.std.proofs.lemmas.Option.{same_Some}
use Rattle.model.specs.Lists.{IsWithin}
use Rattle.views.specs.Nodes.{world_at, id_at}
use Rattle.views.specs.Runs.{run_id}
use Rattle.text_boundaries.proofs.FlatRuns.{shown_at_number}
use Rattle.texts.proofs.WeakSteps.{view_within}
use Rattle.texts.proofs.position.TextPosition.comparable.Goals as goal

pub relative_index_path-requires : goal.relative_index_path-requires
relative_index_path-requires c =
    let run = c.biased_to_start-side.result.run in
    let node = c.inner_node-node.result in
    let is = same_Some (id_at node) (run_id run) (sym c.inner_node-node.ensures.run ∙ ap (option_map (λ s. s.id)) (shown_at_number run)) in
    let within = view_within run node c.root.result c.inner_node-node.ensures.world is c.root.ensures in
    subst (λ top. IsWithin (world_at node) top (id_at node)) (sym c.id.ensures) within
