use Rattle.std.specs.Prelude.{Ok}
use Rattle.session.specs.declared.commands.Reply.TheVariants as reply
use Rattle.session.proofs.Running.{step_keeps_secret}
use Rattle.session.proofs.session.Session.step.Goals as goal

pub returns-in-Update-clause-alike : goal.returns-in-Update-clause-alike
returns-in-Update-clause-alike g c = λ told. step_keeps_secret c.args.self.now c.update.new.self c.args.command told (Ok c.update.result)

pub returns-in-HostFocus-clause-alike : goal.returns-in-HostFocus-clause-alike
returns-in-HostFocus-clause-alike g c = λ told. step_keeps_secret c.args.self.now c.refocus.new.self c.args.command told (Ok reply.Accepted)

pub returns-in-Query-clause-alike : goal.returns-in-Query-clause-alike
returns-in-Query-clause-alike g c = λ told. step_keeps_secret c.args.self.now c.args.self.now c.args.command told c.ask.result
