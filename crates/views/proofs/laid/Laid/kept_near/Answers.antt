use Rattle.views.proofs.Overlaid.{kept_shown}
use Rattle.views.proofs.laid.Laid.kept_near.Goals as goal

pub returns-in-Some-clause-place : goal.returns-in-Some-clause-place
returns-in-Some-clause-place c = kept_shown c.args.self.base.now.world c.args.self.overlay _ c.args.self.is_host_focused c.in-Some.is c.args.id c.kept_near.result c.kept_near.ensures.place

pub returns-in-None-clause-place : goal.returns-in-None-clause-place
returns-in-None-clause-place c = kept_shown c.args.self.base.now.world c.args.self.overlay _ c.args.self.is_host_focused c.in-None.is c.args.id c.kept.result c.kept.ensures.place
