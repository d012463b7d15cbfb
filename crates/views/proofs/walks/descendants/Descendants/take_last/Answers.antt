use Rattle.views.proofs.EachNode.{last_stays, last_given}
use Rattle.views.proofs.walks.descendants.Descendants.take_last.Goals as goal

pub invariant_of-self : goal.invariant_of-self
invariant_of-self c = record { known = last_stays c.args.self.now.course c.take_last-found.new.self c.take_last-found.result c.args.self.now.known c.take_last-found.ensures.steps }

pub returns : goal.returns
returns c = last_given c.args.self.now.course c.take_last-found.new.self c.take_last-found.result c.args.self.now.known c.take_last-found.ensures.steps
