use Rattle.std.proofs.Common.{rules}
use Rattle.compare.proofs.ShownRows.{same_text}
use Rattle.compare.proofs.comparing.is_same.Goals as goal

pub returns : goal.returns
returns c = same_text _ c.args.one.now c.args.other.now (search rules)
