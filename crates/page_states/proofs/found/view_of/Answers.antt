use Rattle.std.proofs.Common.{refl}
use Rattle.page_states.proofs.found.view_of.Goals as goal

pub returns : goal.returns
returns c = λ ready.
    let right = c.in_ok-known.ensures ready in
    ((refl, c.facts_of-facts.ensures right), right)
