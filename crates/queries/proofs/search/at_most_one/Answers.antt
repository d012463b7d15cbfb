use Rattle.std.proofs.Common.{◌∙◌, ◌≤◌, length, arith}
use Rattle.queries.proofs.Outcomes.{first_is_only}
use Rattle.queries.proofs.search.at_most_one.Goals as goal

pub returns : goal.returns
returns g c =
    let short : length c.args.found.now ≤ 1 = omega arith in
    first_is_only c.args.by.now.wanted c.args.found.now c.copied.result short (c.copied.ensures ∙ c.first.ensures.value)
