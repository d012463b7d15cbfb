use Rattle.std.proofs.Common.{refl}
use Rattle.texts.proofs.LineWalks.{begin_of, line_after}
use Rattle.texts.proofs.text_lines.TextLines.nearest.Goals as goal

pub beginning-found-requires-clause-begins : goal.beginning-found-requires-clause-begins
beginning-found-requires-clause-begins c =
    let l = c.loop-found.found in
    line_after l (begin_of l) c.run_at.result refl refl c.run_at.ensures.root c.run_at.ensures.spot c.in-Some.next c.in-Some.ensures
