use Rattle.std.proofs.lemmas.Bool.Decides.{same_from_decides}
use Rattle.texts.specs.WeakRanges.{same_weak, same_weak-decides}
use Rattle.texts.proofs.weak.WeakTextRangePartialEq.eq.Goals as goal

pub returns-clause-value : goal.returns-clause-value
returns-clause-value c = same_from_decides c.same.result (same_weak c.args.self.now c.args.other.now) c.same.ensures (same_weak-decides c.args.self.now c.args.other.now)
