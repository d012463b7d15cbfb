use Rattle.std.proofs.Common.{ap, ◌∙◌}
use Rattle.texts.specs.NodeTexts.{root_of}
use Rattle.texts.specs.Positions.{flat_position, node_text}
use Rattle.model.specs.Moves.{to_global_utf16_index}
use Rattle.views.specs.Nodes.{world_at, id_at}
use Rattle.read.proofs.Characters.{secret_at, index_by_count, index_by_units}
use Rattle.read.proofs.reading.shown.shown_index.Goals as goal

pub returns-then-is_password_input : goal.returns-then-is_password_input
returns-then-is_password_input c =
    let root = root_of c.args.text in
    c.characters_before.ensures
    ∙ index_by_count root (flat_position c.args.position)
    (secret_at (world_at root) (id_at root) c.node.result c.is_password_input.result (ap world_at c.node.ensures) (ap id_at c.node.ensures) c.is_password_input.ensures ∙ c.if-is_password_input.true)

pub returns : goal.returns
returns c =
    let root = root_of c.args.text in
    c.to_global_utf16_index.ensures.index
    ∙ ap (λ n. to_global_utf16_index (node_text n) (flat_position c.args.position)) c.requires
    ∙ index_by_units root (flat_position c.args.position)
    (secret_at (world_at root) (id_at root) c.node.result c.is_password_input.result (ap world_at c.node.ensures) (ap id_at c.node.ensures) c.is_password_input.ensures ∙ c.if-is_password_input.false)
