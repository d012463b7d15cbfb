use Rattle.std.proofs.Common.{refl}
use Rattle.page.proofs.Failing.{heard, stays}
use Rattle.page.proofs.reported.ReporterTreeChangeHandler.node_updated.Goals as goal

pub returns-else-is_none : goal.returns-else-is_none
returns-else-is_none g c = (refl, refl, stays _ c.args.self.now.fault c.is_none.result c.is_none.ensures c.if-is_none.false)

pub returns-then-is_none : goal.returns-then-is_none
returns-then-is_none g c =
    heard _ c.tell_updated.ensures.output c.tell_updated.ensures.kept.0 c.args.self.now.fault c.tell_updated.result _ c.is_none.result c.is_none.ensures c.if-is_none.true c.err-self.ensures.value c.tell_updated.ensures.told
