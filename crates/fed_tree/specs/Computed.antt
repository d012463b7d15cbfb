-- What is computed of a node.
use Rattle.std.specs.Prelude.{ℕ, List, length, Option, Some, option_map}
use Rattle.model.specs.declared.FullNodeId.{FullNodeId}
use Rattle.model.specs.declared.filters.FilterResult.{FilterResult}
use Rattle.model.specs.World.{World, children}
use Rattle.model.specs.Forest.{place_of}
use Rattle.model.specs.FocusFound.{active_descendant}
use Rattle.model.specs.Labels.{labelled_by}
use Rattle.model.specs.Lists.{deepest_first_child, deepest_last_child, following_siblings, preceding_siblings}
use Rattle.model.specs.Covers.{following_filtered_siblings, preceding_filtered_siblings}
use Rattle.model.specs.Views.{computed_position_in_set, computed_size_of_set, controls, items, selection_container, size_of_set_from_container}
use Rattle.views.specs.Counted.{filtered_count, filtered_index}
use Rattle.views.specs.Descendants.{descendants, filtered_descendants}
use Rattle.fed_tree.specs.declared.computed.Count.{Count}
use Rattle.fed_tree.specs.declared.computed.Count.TheVariants as count
use Rattle.fed_tree.specs.declared.computed.Relative.{Relative}
use Rattle.fed_tree.specs.declared.computed.Relative.TheVariants as relative
use Rattle.fed_tree.specs.declared.lists.Listed.{Listed}
use Rattle.fed_tree.specs.declared.lists.Listed.TheVariants as list

abbrev pub count_of : Count → (FullNodeId → FilterResult) → World → FullNodeId → Option ℕ
count_of count.Children f w id = Some (length (children w id))
count_of count.Index f w id = option_map (λ place. place.1) (place_of w id)
count_of count.FilteredChildren f w id = Some (filtered_count f w id)
count_of count.FilteredIndex f w id = filtered_index f w id
count_of count.SetSize f w id = computed_size_of_set f w id
count_of count.SetPosition f w id = computed_position_in_set f w id
count_of count.ContainerSetSize f w id = size_of_set_from_container f w id

abbrev pub relative_of : Relative → (FullNodeId → FilterResult) → World → FullNodeId → Option FullNodeId
relative_of relative.ActiveDescendant f w id = active_descendant w id
relative_of relative.DeepestFirstChild f w id = deepest_first_child w id
relative_of relative.DeepestLastChild f w id = deepest_last_child w id
relative_of relative.SelectionContainer f w id = selection_container f w id

abbrev pub list_of : Listed → (FullNodeId → FilterResult) → World → FullNodeId → List FullNodeId
list_of list.LabelledBy f w id = labelled_by w id
list_of list.Controls f w id = controls w id
list_of list.PrecedingSiblings f w id = preceding_siblings w id
list_of list.FollowingSiblings f w id = following_siblings w id
list_of list.Descendants f w id = descendants w id
list_of list.Items f w id = items f w id
list_of list.PrecedingFilteredSiblings f w id = preceding_filtered_siblings f w id
list_of list.FollowingFilteredSiblings f w id = following_filtered_siblings f w id
list_of list.FilteredDescendants f w id = filtered_descendants f w id
