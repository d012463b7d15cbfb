use Rattle.session.proofs.Running.{mirrored}
use Rattle.session.proofs.session.Session.run_mirrored.Goals as goal

pub returns-clause-mirrored : goal.returns-clause-mirrored
returns-clause-mirrored c = λ held. mirrored c.args.self.now c.run.new.self c.args.commands.items c.run.result c.run.ensures.run.0 c.args.mirror.now c.run.new.handler c.run.ensures.run.1 c.run.ensures.run.2 held
