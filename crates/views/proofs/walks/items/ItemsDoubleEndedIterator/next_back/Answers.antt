use Rattle.std.proofs.Common.{refl}
use Rattle.views.proofs.ItemSteps.{items_last}
use Rattle.views.proofs.walks.items.ItemsDoubleEndedIterator.next_back.Goals as goal

pub returns-clause-steps : goal.returns-clause-steps
returns-clause-steps g c = record {
  filter = refl;
  goes = c.take_back.ensures.steps.goes;
  list = λ f follows on. items_last c.args.self.now.course c.take_back.result c.take_back.new.self f follows c.take_back.ensures.steps on;
}
