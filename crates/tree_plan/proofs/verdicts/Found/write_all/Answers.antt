use Rattle.std.proofs.Common.{refl}
use Rattle.tree_plan.proofs.Walked.{writes_all}
use Rattle.tree_plan.proofs.verdicts.Found.write_all.Goals as goal

pub returns-clause-ok : goal.returns-clause-ok
returns-clause-ok g c =
    let last = c.in_ok-_end.ensures in
    writes_all g.step c.args.self.now c.requires.0 c.args.self.now.removed.gone.keys c.in_ok-rows.rows c.in_ok-_end._end c.args.written.now c.write_removed.new.written c.write_before.new.written
    c.requires.1.0 c.requires.1.1.0 c.requires.1.1.1 refl c.in_ok-rows.ensures.ok last.ok (last.named refl) (last.entered refl)
