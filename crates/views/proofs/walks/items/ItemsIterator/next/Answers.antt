use Rattle.std.proofs.Common.{refl}
use Rattle.views.proofs.ItemSteps.{items_first}
use Rattle.views.proofs.walks.items.ItemsIterator.next.Goals as goal

pub returns-clause-steps : goal.returns-clause-steps
returns-clause-steps g c = record {
  filter = refl;
  goes = c.take_front.ensures.steps.goes;
  list = λ f follows on. items_first c.args.self.now.course c.take_front.result c.take_front.new.self f follows c.take_front.ensures.steps on;
}
