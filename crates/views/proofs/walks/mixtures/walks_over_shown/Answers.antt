use Rattle.views.specs.FilteredWalks.{children_walk, following_walk, preceding_walk, descendants_walk, items_walk}
use Rattle.views.proofs.Mixed.{shown_are_taken}
use Rattle.views.proofs.walks.mixtures.walks_over_shown.Goals as goal

pub returns-clause-filtered_children : goal.returns-clause-filtered_children
returns-clause-filtered_children g c = shown_are_taken g.F.Filter.answers children_walk

pub returns-clause-following_filtered_siblings : goal.returns-clause-following_filtered_siblings
returns-clause-following_filtered_siblings g c = shown_are_taken g.F.Filter.answers following_walk

pub returns-clause-preceding_filtered_siblings : goal.returns-clause-preceding_filtered_siblings
returns-clause-preceding_filtered_siblings g c = shown_are_taken g.F.Filter.answers preceding_walk

pub returns-clause-filtered_descendants : goal.returns-clause-filtered_descendants
returns-clause-filtered_descendants g c = shown_are_taken g.F.Filter.answers descendants_walk

pub returns-clause-items : goal.returns-clause-items
returns-clause-items g c = shown_are_taken g.F.Filter.answers items_walk
