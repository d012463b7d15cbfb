use Rattle.views.proofs.EachNode.{first_stays, first_given}
use Rattle.views.proofs.walks.descendants.Descendants.take_first.Goals as goal

pub invariant_of-self : goal.invariant_of-self
invariant_of-self c = record { known = first_stays c.args.self.now.course c.take_first-found.new.self c.take_first-found.result c.args.self.now.known c.take_first-found.ensures.steps }

pub returns : goal.returns
returns c = first_given c.args.self.now.course c.take_first-found.new.self c.take_first-found.result c.args.self.now.known c.take_first-found.ensures.steps
