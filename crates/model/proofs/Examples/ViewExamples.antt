-- The small interfaces, worked out.
use Rattle.std.proofs.Common.{◌≡◌, ℕ, [], ◌∷◌, refl}
use Rattle.std.specs.Prelude.{true, None, Some}
use Rattle.schema.specs.declared.Role.TheVariants.{ListBoxOption}
use Rattle.model.specs.declared.filters.FilterResult.{FilterResult}
use Rattle.model.specs.declared.filters.FilterResult.TheVariants.{Include, ExcludeSubtree}
use Rattle.model.specs.Filters.{common_filter}
use Rattle.model.specs.ListExamples.{parent}
use Rattle.model.specs.Examples.{at}
use Rattle.model.specs.ViewExamples as example
use Rattle.model.proofs.Examples.WrittenViews.{data_at, above_at, below_at, focus_is, data_in, above_in, below_in, focus_in, root_in}

pub common_answers : example.CommonAnswers
common_answers = record {
  hidden = simp (above_in None example.hidden_button tt, data_in None example.hidden_button tt);
  hidden_with_focus = simp (focus_in (Some 1) example.hidden_button tt, data_in (Some 1) example.hidden_button tt, above_in (Some 1) example.hidden_button tt);
  container = simp (above_in None example.bare tt, data_in None example.bare tt);
  below_container = simp (above_in None example.bare tt, data_in None example.bare tt);
  container_as_root = simp (root_in None example.bare tt);
  root_hidden = simp (above_in None example.hidden_root tt, data_in None example.hidden_root tt);
  below_hidden = simp (above_in None example.hidden_root tt, data_in None example.hidden_root tt);
  root_without_focus = simp (focus_in (Some 1) example.hidden_root tt, data_in (Some 1) example.hidden_root tt, above_in (Some 1) example.hidden_root tt);
  focus_below_hidden = simp (focus_in (Some 1) example.hidden_root tt, data_in (Some 1) example.hidden_root tt, above_in (Some 1) example.hidden_root tt);
  run = simp (above_in None example.input tt, data_in None example.input tt);
  container_below_hidden = simp (above_in None example.hidden_window tt, data_in None example.hidden_window tt);
  container_graft = simp (above_in None example.empty_grafts tt, data_in None example.empty_grafts tt);
  other_graft = simp (above_in None example.empty_grafts tt, data_in None example.empty_grafts tt);
  graft_is_empty = simp (below_in None example.empty_grafts tt);
  named_option = simp (focus_in (Some 1) (example.choice 2) tt, data_in (Some 1) (example.choice 2) tt);
  names_option = simp (focus_in (Some 1) (example.choice 2) tt, data_in (Some 1) (example.choice 2) tt);
  names_itself = simp (focus_in (Some 1) (example.choice 1) tt, data_in (Some 1) (example.choice 1) tt);
}

pub pushed_lists : example.PushedLists
pushed_lists = record {
  of_window = simp (focus_is example.pushed.known example.pushed_trees example.pushed_nodes true tt tt, above_at example.pushed.known example.pushed_trees example.pushed_nodes true tt tt, data_at example.pushed.known example.pushed_trees example.pushed_nodes true tt tt, below_at example.pushed.known example.pushed_trees example.pushed_nodes true tt tt);
  of_document = simp (focus_is example.pushed.known example.pushed_trees example.pushed_nodes true tt tt, above_at example.pushed.known example.pushed_trees example.pushed_nodes true tt tt, data_at example.pushed.known example.pushed_trees example.pushed_nodes true tt tt, below_at example.pushed.known example.pushed_trees example.pushed_nodes true tt tt);
  focused = simp (focus_is example.pushed.known example.pushed_trees example.pushed_nodes true tt tt, data_at example.pushed.known example.pushed_trees example.pushed_nodes true tt tt);
}

abbrev answer : ℕ → FilterResult
answer n = common_filter (example.one_tree None example.scrolled) (at 0 n)

pub clipped_answers : example.ClippedAnswers
clipped_answers = record { each = λ i. above.0 i ∷ above.1 i ∷ above.2 i ∷ above.3 i ∷ seen.0 i ∷ seen.1 i ∷ seen.2 i ∷ below.0 i ∷ below.1 i ∷ below.2 i ∷ below.3 i ∷ [] }
  where
    above : (answer 1 ≡ ExcludeSubtree) × (answer 2 ≡ ExcludeSubtree) × (answer 3 ≡ Include) × (answer 4 ≡ ExcludeSubtree)
    above = (simp (above_in None example.scrolled tt, data_in None example.scrolled tt, below_in None example.scrolled tt), simp (above_in None example.scrolled tt, data_in None example.scrolled tt, below_in None example.scrolled tt), simp (above_in None example.scrolled tt, data_in None example.scrolled tt, below_in None example.scrolled tt), simp (above_in None example.scrolled tt, data_in None example.scrolled tt))

    seen : (answer 5 ≡ Include) × (answer 6 ≡ Include) × (answer 7 ≡ Include)
    seen = (simp (above_in None example.scrolled tt, data_in None example.scrolled tt, below_in None example.scrolled tt), simp (above_in None example.scrolled tt, data_in None example.scrolled tt, below_in None example.scrolled tt), simp (above_in None example.scrolled tt, data_in None example.scrolled tt, below_in None example.scrolled tt))

    below : (answer 8 ≡ ExcludeSubtree) × (answer 9 ≡ Include) × (answer 10 ≡ ExcludeSubtree) × (answer 11 ≡ ExcludeSubtree)
    below = (simp (above_in None example.scrolled tt, data_in None example.scrolled tt), simp (above_in None example.scrolled tt, data_in None example.scrolled tt, below_in None example.scrolled tt), simp (above_in None example.scrolled tt, data_in None example.scrolled tt, below_in None example.scrolled tt), simp (above_in None example.scrolled tt, data_in None example.scrolled tt, below_in None example.scrolled tt))

pub filtered_lists : example.FilteredLists
filtered_lists = record {
  shown = simp (below_in None example.four tt);
  after_first = simp (above_in None example.pairs tt, below_in None example.pairs tt);
  after_inner = simp (above_in None example.pairs tt, below_in None example.pairs tt);
  after_left_out = simp (above_in None example.pairs tt, below_in None example.pairs tt);
  before_third = simp (above_in None example.pairs tt, below_in None example.pairs tt);
  before_left_out = simp (above_in None example.pairs tt, below_in None example.pairs tt);
  after_cut_off = (simp (above_in None example.pairs tt), simp (above_in None example.pairs tt));
  before_cut_off = (simp (above_in None example.pairs tt), simp (above_in None example.pairs tt));
  parent_of_inner = simp (above_in None example.pairs tt);
  parent_of_cut_off = simp (above_in None example.pairs tt);
}

pub placed_views : example.PlacedViews
placed_views = record {
  box = simp (above_in None example.placed tt, data_in None example.placed tt);
  label = simp (above_in None example.placed tt, data_in None example.placed tt, below_in None example.placed tt);
  window = simp (above_in None example.placed tt, data_in None example.placed tt, below_in None example.placed tt);
  nothing = simp (above_in None example.placed tt, data_in None example.placed tt, below_in None example.placed tt);
}

pub upward_views : example.UpwardViews
upward_views = record {
  live = simp (above_in None example.polite tt, data_in None example.polite tt);
  clicked = simp (above_in None example.click_below tt, data_in None example.click_below tt);
  not_clicked = simp (above_in None example.click_below tt, data_in None example.click_below tt);
  invocable = simp (above_in None example.click_below tt, data_in None example.click_below tt);
  window_is_not_clicked = simp (above_in None example.click_below tt, data_in None example.click_below tt);
}

pub counted_sets : example.CountedSets
counted_sets = record {
  inner = simp (above_in None (example.options (parent ListBoxOption []) (parent ListBoxOption [])) tt, data_in None (example.options (parent ListBoxOption []) (parent ListBoxOption [])) tt, below_in None (example.options (parent ListBoxOption []) (parent ListBoxOption [])) tt);
  last = simp (above_in None (example.options (parent ListBoxOption []) (parent ListBoxOption [])) tt, data_in None (example.options (parent ListBoxOption []) (parent ListBoxOption [])) tt, below_in None (example.options (parent ListBoxOption []) (parent ListBoxOption [])) tt);
  label = simp (above_in None (example.options (parent ListBoxOption []) (parent ListBoxOption [])) tt, data_in None (example.options (parent ListBoxOption []) (parent ListBoxOption [])) tt, below_in None (example.options (parent ListBoxOption []) (parent ListBoxOption [])) tt);
  inner_without_hidden = simp (above_in None (example.options (example.hidden (parent ListBoxOption [])) (parent ListBoxOption [])) tt, data_in None (example.options (example.hidden (parent ListBoxOption [])) (parent ListBoxOption [])) tt, below_in None (example.options (example.hidden (parent ListBoxOption [])) (parent ListBoxOption [])) tt);
  hidden = simp (above_in None (example.options (example.hidden (parent ListBoxOption [])) (parent ListBoxOption [])) tt, data_in None (example.options (example.hidden (parent ListBoxOption [])) (parent ListBoxOption [])) tt, below_in None (example.options (example.hidden (parent ListBoxOption [])) (parent ListBoxOption [])) tt);
  sent_size = simp (above_in None (example.options (parent ListBoxOption []) (record (parent ListBoxOption []) { size_of_set = Some 10 })) tt, data_in None (example.options (parent ListBoxOption []) (record (parent ListBoxOption []) { size_of_set = Some 10 })) tt, below_in None (example.options (parent ListBoxOption []) (record (parent ListBoxOption []) { size_of_set = Some 10 })) tt);
}

pub own_views : example.OwnViews
own_views = record {
  list_box = refl;
  tab_list = refl;
  given_first = refl;
  button = refl;
  input = refl;
  flagged_input = refl;
  plain_button = refl;
  document = refl;
  disabled_input = refl;
  selected = refl;
  disabled = refl;
  tree_item = refl;
  expanded = refl;
  link_without_url = refl;
  url = refl;
  button_with_url = refl;
}

pub boxed_views : example.BoxedViews
boxed_views = record {
  items_by_all = simp (data_in None example.boxed tt, below_in None example.boxed tt);
  container = simp (above_in None example.boxed tt, data_in None example.boxed tt);
  no_container = simp (above_in None example.boxed tt, data_in None example.boxed tt);
  size = simp (above_in None example.boxed tt, data_in None example.boxed tt);
  size_by_all = simp (above_in None example.boxed tt, data_in None example.boxed tt);
  own_size_is_not_asked = simp (above_in None example.boxed tt, data_in None example.boxed tt);
  controlled = simp (data_in None example.boxed tt);
}

pub nested_answers : example.NestedAnswers
nested_answers = record {
  each = simp (above_in None example.nested tt, data_in None example.nested tt, below_in None example.nested tt);
  without_box = simp (above_in None example.unboxed tt, data_in None example.unboxed tt);
}

pub covered_views : example.CoveredViews
covered_views = record {
  box_of_reversed = simp (above_in None example.reversed tt, data_in None example.reversed tt);
  box_of_shifted = simp (above_in None example.shifted tt, data_in None example.shifted tt);
  reversed_has_no_point = simp (data_in None example.reversed tt, below_in None example.reversed tt);
  container_is_not_hit = simp (above_in None example.covered tt, data_in None example.covered tt, below_in None example.covered tt);
  cut_off_is_not_hit = simp (above_in None example.covered tt, data_in None example.covered tt, below_in None example.covered tt);
  hit_from_below = simp (above_in None example.placed tt, data_in None example.placed tt, below_in None example.placed tt);
}
