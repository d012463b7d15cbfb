use Rattle.model.specs.Ranges.{position_named}
use Rattle.texts.specs.Positions.{node_text}
use Rattle.texts.proofs.FoundSteps.{position_there, position_absent}
use Rattle.texts.proofs.NamedRuns.{named_past, named_within}
use Rattle.texts.proofs.named.position_named.Goals as goal

pub returns-then-raw-character_count : goal.returns-then-raw-character_count
returns-then-raw-character_count c =
    position_absent c.args.root (position_named (node_text c.args.root) c.args.raw)
    (named_past c.args.root c.args.raw c.in-Some.run' c.character_count.result c.in-Some.ensures.same c.in-Some.ensures.named c.character_count.ensures c.if-raw-character_count.true)

pub returns : goal.returns
returns c =
    position_there c.args.root (position_named (node_text c.args.root) c.args.raw) _ c.in-Some.ensures.same
    (named_within c.args.root c.args.raw c.in-Some.run' c.character_count.result c.in-Some.ensures.same c.in-Some.ensures.named c.character_count.ensures c.if-raw-character_count.false)
