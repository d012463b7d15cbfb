use Rattle.std.proofs.Common.{rules}
use Rattle.views.specs.Nodes.{world_at}
use Rattle.views.specs.FilteredWalks.{children_walk}
use Rattle.speaking.specs.Headers.{row_answer}
use Rattle.speaking.proofs.FirstShown.{gives_first}
use Rattle.speaking.proofs.headers.first_of.Goals as goal

pub returns-clause-row : goal.returns-clause-row
returns-clause-row c =
    let w = world_at c.args.table in
    gives_first _ children_walk _ w (row_answer w) (search rules) _ c.filtered_children-found.result c.next.result _ c.filtered_children-found.ensures.filter c.filtered_children-found.ensures.begins c.next.ensures.steps
