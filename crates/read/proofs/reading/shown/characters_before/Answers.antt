use Rattle.std.proofs.Common.{length, sym, ap, ◌∙◌}
use Rattle.texts.specs.NodeTexts.{root_of}
use Rattle.texts.specs.Positions.{flat_position}
use Rattle.views.specs.Nodes.{world_at, id_at}
use Rattle.read.specs.Shown.{further}
use Rattle.read.proofs.Characters.{counted_to}
use Rattle.read.proofs.reading.shown.characters_before.Goals as goal

pub set_end-requires : goal.set_end-requires
set_end-requires c = record { world = ap world_at c.requires ∙ sym c.range-range.ensures.world; root = ap id_at c.requires ∙ sym c.range-range.ensures.root }

pub returns : goal.returns
returns c =
    c.count.ensures
    ∙ ap (λ ls. further 0 (length ls)) c.characters.ensures
    ∙ ap (further 0) (counted_to (root_of c.args.text) (flat_position c.args.position) c.range-range.result c.set_end.new.self c.range-range.ensures c.set_end.ensures)
