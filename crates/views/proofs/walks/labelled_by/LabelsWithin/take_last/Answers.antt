use Rattle.views.proofs.LabelSteps.{last_stays, last_taken}
use Rattle.views.proofs.walks.labelled_by.LabelsWithin.take_last.Goals as goal

pub invariant_of-self : goal.invariant_of-self
invariant_of-self c = record { on_course = last_stays c.args.self.now.course c.take_back-found.new.self c.take_back-found.result c.args.self.now.on_course c.take_back-found.ensures.steps }

pub returns : goal.returns
returns c = last_taken c.args.self.now.course c.take_back-found.new.self c.take_back-found.result c.args.self.now.on_course c.take_back-found.ensures.steps
