use Rattle.model.specs.Ranges.{nearest_named}
use Rattle.texts.specs.Positions.{node_text}
use Rattle.texts.proofs.FoundSteps.{position_there}
use Rattle.texts.proofs.NamedRuns.{nearest_cut, nearest_within}
use Rattle.texts.proofs.named.nearest_named.Goals as goal

pub returns-then-raw-count : goal.returns-then-raw-count
returns-then-raw-count c =
    position_there c.args.root (nearest_named (node_text c.args.root) c.args.raw) _ c.in-Some.ensures.same
    (nearest_cut c.args.root c.args.raw c.in-Some.run' c.character_count-count.result c.in-Some.ensures.same c.in-Some.ensures.named c.character_count-count.ensures c.if-raw-count.true)

pub returns : goal.returns
returns c =
    position_there c.args.root (nearest_named (node_text c.args.root) c.args.raw) _ c.in-Some.ensures.same
    (nearest_within c.args.root c.args.raw c.in-Some.run' c.character_count-count.result c.in-Some.ensures.same c.in-Some.ensures.named c.character_count-count.ensures c.if-raw-count.false)
