use Rattle.views.proofs.Overlaid.{state_shown, formed_shown}
use Rattle.views.proofs.laid.Laid.know.Goals as goal

pub returns-in_default-clause-state : goal.returns-in_default-clause-state
returns-in_default-clause-state c = state_shown c.args.self.base.now.world c.args.self.overlay _ c.args.self.is_host_focused c.in_default.is c.know.ensures.state

pub returns-in_default-clause-formed : goal.returns-in_default-clause-formed
returns-in_default-clause-formed c = formed_shown c.args.self.base.now.world c.args.self.overlay _ c.args.self.is_host_focused c.in_default.is c.know.ensures.state

pub returns-clause-state : goal.returns-clause-state
returns-clause-state c = state_shown c.args.self.base.now.world c.args.self.overlay _ c.args.self.is_host_focused c.in-Some.is c.know-2.ensures.state

pub returns-clause-formed : goal.returns-clause-formed
returns-clause-formed c = formed_shown c.args.self.base.now.world c.args.self.overlay _ c.args.self.is_host_focused c.in-Some.is c.know-2.ensures.state
