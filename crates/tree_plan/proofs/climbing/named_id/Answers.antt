use Rattle.std.proofs.Common.{◌≡◌, Some, length, slice_get, option_map, refl, ap, ◌∙◌}
use Rattle.std.proofs.lemmas.Option.{slice_get_read, slice_get-map}
use Rattle.schema.specs.NodeData.{NodeData}
use Rattle.schema.specs.declared.NodeId.{NodeId}
use Rattle.model.specs.World.{in_tree}
use Rattle.tree_plan.proofs.climbing.named_id.Goals as goal

pub returns : goal.returns
returns c =
    let xs = c.args.update.now.nodes.items in
    let here : slice_get xs c.args.entry ≡ Some c.index.result.now = slice_get_read xs (length xs) c.args.entry _ refl c.requires c.index.ensures in
    slice_get-map (λ (e : NodeId × NodeData). in_tree c.args.opened.now.index e.0) xs c.args.entry ∙ ap (option_map (λ (e : NodeId × NodeData). in_tree c.args.opened.now.index e.0)) here
