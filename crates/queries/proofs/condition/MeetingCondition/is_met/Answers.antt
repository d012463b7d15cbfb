use Rattle.std.proofs.Common.{refl}
use Rattle.std.proofs.lemmas.Fn.{says_at}
use Rattle.queries.proofs.condition.MeetingCondition.is_met.Goals as goal

pub returns : goal.returns
returns g c = says_at g.F.Fn c.f.ensures refl
