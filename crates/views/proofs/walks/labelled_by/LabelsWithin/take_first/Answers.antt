use Rattle.views.proofs.LabelSteps.{first_stays, first_taken}
use Rattle.views.proofs.walks.labelled_by.LabelsWithin.take_first.Goals as goal

pub invariant_of-self : goal.invariant_of-self
invariant_of-self c = record { on_course = first_stays c.args.self.now.course c.take_front-found.new.self c.take_front-found.result c.args.self.now.on_course c.take_front-found.ensures.steps }

pub returns : goal.returns
returns c = first_taken c.args.self.now.course c.take_front-found.new.self c.take_front-found.result c.args.self.now.on_course c.take_front-found.ensures.steps
