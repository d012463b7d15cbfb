use Rattle.std.proofs.lemmas.Bool.Decides.{same_from_decides}
use Rattle.texts.specs.SameKeys.{same_key-decides}
use Rattle.texts.specs.SamePositions.{coded_key, key_of, same_text_position}
use Rattle.texts.proofs.equality.TextPositionPartialEq.eq.Goals as goal

pub returns-clause-value : goal.returns-clause-value
returns-clause-value c =
    same_from_decides c.same.result (same_text_position c.args.self.now c.args.other.now) c.same.ensures (same_key-decides coded_key key_of c.args.self.now c.args.other.now)
