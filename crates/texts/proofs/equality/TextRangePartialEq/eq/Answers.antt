use Rattle.std.proofs.lemmas.Bool.Decides.{same_from_decides}
use Rattle.texts.specs.SameKeys.{same_key-decides}
use Rattle.texts.specs.SameRanges.{coded_ends, ends_of, same_text_range}
use Rattle.texts.proofs.equality.TextRangePartialEq.eq.Goals as goal

pub returns-clause-value : goal.returns-clause-value
returns-clause-value c =
    same_from_decides c.same.result (same_text_range c.args.self.now c.args.other.now) c.same.ensures (same_key-decides coded_ends ends_of c.args.self.now c.args.other.now)
