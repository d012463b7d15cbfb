-- What is read off the outline of a world is what is read off the world: the laws.
use Rattle.std.proofs.Common.{◌≡◌, ◌∷◌, Option, Some, None, refl, sym, ap, ◌∙◌, map, reverse, length, drop}
use Rattle.std.specs.Prelude.{option_map}
use Rattle.schema.specs.NodeData.{NodeData}
use Rattle.model.specs.World.{World, Place, data_of}
use Rattle.model.specs.Lists.{nodes_of, deepest_first, deepest_last}
use Rattle.model.specs.Outline.{without_text, outline}
use Rattle.model.specs.OutlineLaws.{OutlineRules, OutlineShows}
use Rattle.model.proofs.Text.Outlines.{data_bare, children_same, place_same, below_same_of, above_same, below_is, above_is, following_is, preceding_is, named_is, runs_same, focus_same, shown_is, focused_same, transform_same, box_same, named_same, filtered_same, following_same, preceding_same, hit_same}
use Rattle.model.proofs.Alike.Bare as bare
use Rattle.model.proofs.Alike.Bare.{SameBare}
use Rattle.model.proofs.Alike.Faults.{stands}
use Rattle.model.proofs.Alike.Faults as faults
use Rattle.model.proofs.Alike.Merging.{same_order}

twice_bare : (o : Option NodeData) → option_map without_text o ≡ option_map without_text (option_map without_text o)
twice_bare None = refl
twice_bare (Some d) = refl

same_outline : (w : World) → SameBare w (outline w)
same_outline w = record { known = refl; trees = refl; host = refl; bare = λ id. twice_bare (data_of w id) ∙ ap (option_map without_text) (sym (data_bare w id)) }

of_world : (w : World) → SameBare (outline w) w
of_world w = bare.turned (same_outline w)

pub outline_rules : OutlineRules
outline_rules = record {
  reached = λ w id. (bare.reached (same_outline w) id, bare.reached (of_world w) id);
  kept = λ w k. (bare.kept (same_outline w) k, bare.kept (of_world w) k);
  chain = λ w id. (bare.chain (same_outline w) id, bare.chain (of_world w) id);
  faults = λ u w f. let s = same_order w (outline w) u u (same_outline w) refl refl refl refl in (stands s f, stands (faults.turned s) f);
}

pub outline_shows : OutlineShows
outline_shows = record {
  children = λ id w. sym (children_same w id);
  places = λ id w. sym (place_same w id);
  below = λ id w. sym (below_same_of w id);
  above = λ id w. sym (above_same w id);
  orders = λ id w. sym (λ i. id ∷ nodes_of (below_is w i id));
  paths = λ id w. sym (λ i. reverse (map (λ (p : Place). p.1) (above_is w i id)));
  paths_from = λ top id w. sym (λ i. drop (length (above_is w i top)) (reverse (map (λ (p : Place). p.1) (above_is w i id))));
  deepest_first = λ id w. sym (λ i. deepest_first (below_is w i id));
  deepest_last = λ id w. sym (λ i. deepest_last (below_is w i id));
  following = λ id w. sym (λ i. following_is w i id);
  preceding = λ id w. sym (λ i. preceding_is w i id);
  names = λ name w. sym (λ i. named_is w i name);
  runs = λ root w i. sym (runs_same w) i root;
  focus = λ w. sym (focus_same w);
  shown = λ w. sym (shown_is w);
  focused = λ id w i. sym (focused_same w) i id;
  focus_ids = λ w answer. (bare.focus_id (same_outline w) answer, bare.focus_id (of_world w) answer);
  dialogs = λ w answer. (bare.active_dialog (same_outline w) answer, bare.active_dialog (of_world w) answer);
  moves = λ id w i. sym (transform_same w) i id;
  boxes = λ id w i. sym (box_same w) i id;
  filters = λ name id w i. sym (named_same w name) i id;
  lists = λ name id w. sym (λ i. filtered_same w (named_same w name i) i id);
  following_shown = λ name id w. sym (λ i. following_same w (named_same w name i) i id);
  preceding_shown = λ name id w. sym (λ i. preceding_same w (named_same w name i) i id);
  hits = λ name id p w. sym (λ i. hit_same w (named_same w name i) i id p);
}
