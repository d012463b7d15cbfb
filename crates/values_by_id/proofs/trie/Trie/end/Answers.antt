use Rattle.std.proofs.Common.{◌≡◌, ◌+◌, ◌<◌, length, ap, ◌∙◌, arith}
use Rattle.values_by_id.specs.declared.trie.Cell.TheVariants.{Node}
use Rattle.values_by_id.specs.Ways.{cell_at}
use Rattle.values_by_id.proofs.Ways.{on_next, cell_is, smaller}
use Rattle.values_by_id.proofs.trie.Trie.end.Goals as goal

pub way-smaller : goal.way-smaller
way-smaller c =
    let cells = c.self.inside.cells.items in
    let place = c.way.first + c.digit.result in
    let within : place < length cells = omega (arith, c.way.invariant.whole, c.digit.ensures.below) in
    let is : cell_at cells place ≡ Node c.in-Node.next c.in-Node.below = cell_is cells place c.index.result.now c.index.ensures within ∙ c.in-Node.is in
    let less : c.way.first < c.in-Node.below = omega (arith, c.self.invariant.behind place c.in-Node.next c.in-Node.below is) in
    smaller (length cells) c.way.first c.in-Node.below less (c.self.invariant.whole place c.in-Node.next c.in-Node.below is)

pub way-preserved : goal.way-preserved
way-preserved c =
    let cells = c.self.inside.cells.items in
    let place = c.way.first + c.digit.result in
    let within : place < length cells = omega (arith, c.way.invariant.whole, c.digit.ensures.below) in
    on_next cells c.args.id c.way.shift c.way.first place c.in-Node.next c.in-Node.below c.self.invariant c.way.invariant (ap (λ d. c.way.first + d) c.digit.ensures.value)
    (cell_is cells place c.index.result.now c.index.ensures within ∙ c.in-Node.is)
