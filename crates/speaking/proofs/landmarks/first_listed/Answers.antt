use Rattle.std.proofs.Common.{rules}
use Rattle.views.specs.Nodes.{world_at}
use Rattle.views.specs.FilteredWalks.{children_walk}
use Rattle.speaking.specs.NodeTexts.{listed_answer}
use Rattle.speaking.proofs.FirstShown.{gives_first}
use Rattle.speaking.proofs.landmarks.first_listed.Goals as goal

pub returns-clause-first : goal.returns-clause-first
returns-clause-first c =
    let w = world_at c.args.list in
    gives_first _ children_walk _ w (listed_answer w) (search rules) _ c.filtered_children-found.result c.next.result _ c.filtered_children-found.ensures.filter c.filtered_children-found.ensures.begins c.next.ensures.steps
