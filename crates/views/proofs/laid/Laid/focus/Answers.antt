use Rattle.views.proofs.Overlaid.{focus_shown}
use Rattle.views.proofs.laid.Laid.focus.Goals as goal

pub returns-in-Some : goal.returns-in-Some
returns-in-Some c = focus_shown c.args.self.base.now.world c.args.self.overlay _ c.args.self.is_host_focused c.in-Some.is c.focus.result c.focus.ensures

pub returns-in-None : goal.returns-in-None
returns-in-None c = focus_shown c.args.self.base.now.world c.args.self.overlay _ c.args.self.is_host_focused c.in-None.is c.focus-in-None.result c.focus-in-None.ensures
