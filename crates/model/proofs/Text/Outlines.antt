-- What is read off the outline of a world is what is read off the world.
use Rattle.std.proofs.Common.{◌≡◌, ℕ, suc, zero, Bool, true, false, not, T, List, [], ◌∷◌, length, map, reverse, take, drop, ◌+◌, Option, Some, None, refl, sym, ap, subst, ◌∙◌}
use Rattle.std.specs.Prelude.{pos, option_and_then, option_map, unwrap_or, is_some, is_none, position, slice_get, filter, filter_map, find, cond, take_while, ◌+ℤ◌, ◌&&◌, ◌||◌, if◌then◌else◌}
use Rattle.std.specs.Bool.{then_some}
use Rattle.std.specs.Option.{option_map_or, option_or}
use Rattle.std.specs.List.{list_any, last_or}
use Rattle.std.specs.Ordering.{eq_by_cmp, is_lt, nat_cmp}
use Rattle.std.specs.Cmp.Lexicographic.{slice_cmp}
use Rattle.std.specs.FinMap.{keys, len, entries, entries_sorted, find as find_entry, is_sorted, get-entries, len-entries, get-from_sorted, entries-from_sorted}
use Rattle.std.specs.FinMap.Entries.{below_all}
use Rattle.std.proofs.lemmas.List.{length-map}
use Rattle.schema.specs.NodeData.{NodeData, empty_node}
use Rattle.schema.specs.Roles.{same_role}
use Rattle.schema.specs.declared.Role.TheVariants.{TextRun}
use Rattle.model.specs.declared.FullNodeId.{FullNodeId}
use Rattle.model.specs.declared.filters.FilterResult.{FilterResult}
use Rattle.model.specs.declared.filters.FilterResult.TheVariants.{Include, ExcludeNode, ExcludeSubtree}
use Rattle.model.specs.FullIds.{full_cmp}
use Rattle.model.specs.World.{World, data_of, listed_ids, graft_name, focus_of, focus_named, root_named, at_most_one, children, in_tree, index_of, Place}
use Rattle.model.specs.Forest.{plant, levels_below, below, place_among, place_of, chain, places_up, above, is_same}
use Rattle.model.specs.Lists.{ancestors, following_siblings, preceding_siblings}
use Rattle.model.specs.Frontier.{frontier, filtered_children}
use Rattle.model.specs.Upward.{field_at, says, upward, inherited_field, is_within, is_before, is_root}
use Rattle.model.specs.FocusFound.{focus_beyond, focus_from, effective_focus, active_descendant, is_focused, shown_focus}
use Rattle.model.specs.RoleClasses.{is_see_through}
use Rattle.model.specs.Covers.{is_included, is_left_out, is_cut_off, filtered_parent, cover, kindred_nodes, following_filtered_siblings, preceding_filtered_siblings}
use Rattle.model.specs.Geometry.{direct_transform, sum_of_moves, transform, transform_within, whole_rect, moved_rect, ordered_rect, bounding_box, meets, seen_from, contains_point, uncut, uncut_preorder, is_at_point, hit}
use Rattle.model.specs.Filters.{is_hidden, is_transparent, first_answer, base_filter, is_outside, is_first_inside, is_far_outside, is_clipped_by, is_clipped, answer_at, common_filter, NamedFilter, All, Common, CommonWithRoot, filter_named}
use Rattle.model.specs.Styles.{style_of}
use Rattle.model.specs.TextRuns.{run_ids, sent_run}
use Rattle.model.specs.Queries.{node_named}
use Rattle.model.specs.Outline.{outline, without_text, ReadsOutline}

pub funext : {A B : Type 0} (f g : A → B) → ((x : A) → f x ≡ g x) → f ≡ g
funext f g h = λ i x. h x i

-- ---- the map of bare nodes

abbrev bare_entry : FullNodeId × NodeData → FullNodeId × NodeData
bare_entry e = (e.0, without_text e.1)

below_same : (x : FullNodeId) (es : List (FullNodeId × NodeData)) → below_all full_cmp x (map bare_entry es) ≡ below_all full_cmp x es
below_same x [] = refl
below_same x (e ∷ es) = ap (λ b. is_lt (full_cmp x e.0) && b) (below_same x es)

sorted_same : (es : List (FullNodeId × NodeData)) → is_sorted full_cmp (map bare_entry es) ≡ is_sorted full_cmp es
sorted_same [] = refl
sorted_same (e ∷ es) = ap (λ b. b && is_sorted full_cmp (map bare_entry es)) (below_same e.0 es) ∙ ap (λ b. below_all full_cmp e.0 es && b) (sorted_same es)

is_bare_sorted : (w : World) → T (is_sorted full_cmp (map bare_entry (entries w.nodes)))
is_bare_sorted w = subst T (sym (sorted_same (entries w.nodes))) (entries_sorted w.nodes)

entries_bare : (w : World) → entries (outline w).nodes ≡ map bare_entry (entries w.nodes)
entries_bare w = entries-from_sorted full_cmp (map bare_entry (entries w.nodes)) (is_bare_sorted w)

find_bare : (q : FullNodeId) (es : List (FullNodeId × NodeData)) → find_entry full_cmp q (map bare_entry es) ≡ option_map without_text (find_entry full_cmp q es)
find_bare q [] = refl
find_bare q (e ∷ es) =
    let rest : find_entry full_cmp q (map bare_entry es) ≡ option_map without_text (find_entry full_cmp q es) = find_bare q es in
    elim (eq_by_cmp full_cmp q e.0) as (λ b. cond b (Some (without_text e.1)) (find_entry full_cmp q (map bare_entry es)) ≡ option_map without_text (cond b (Some e.1) (find_entry full_cmp q es))) [
      | true ↦ refl
      | false ↦ rest
    ]

pub data_bare : (w : World) (q : FullNodeId) → data_of (outline w) q ≡ option_map without_text (data_of w q)
data_bare w q =
    get-from_sorted full_cmp (map bare_entry (entries w.nodes)) q (is_bare_sorted w) ∙ find_bare q (entries w.nodes) ∙ ap (option_map without_text) (sym (get-entries w.nodes q))

keys_bare : (es : List (FullNodeId × NodeData)) → map (λ (e : FullNodeId × NodeData). e.0) (map bare_entry es) ≡ map (λ (e : FullNodeId × NodeData). e.0) es
keys_bare [] = refl
keys_bare (e ∷ es) = ap (λ ks. e.0 ∷ ks) (keys_bare es)

keys_same : (w : World) → keys (outline w).nodes ≡ keys w.nodes
keys_same w = ap (map (λ (e : FullNodeId × NodeData). e.0)) (entries_bare w) ∙ keys_bare (entries w.nodes)

len_same : (w : World) → len (outline w).nodes ≡ len w.nodes
len_same w = len-entries (outline w).nodes ∙ ap length (entries_bare w) ∙ length-map (entries w.nodes) bare_entry ∙ sym (len-entries w.nodes)

-- ---- what is read of one node

-- a reading that passes over value and lengths
abbrev pub IsBlind : {A : Type 0} → (NodeData → A) → Type 0
IsBlind of = (d : NodeData) → of (without_text d) ≡ of d

pub map_or_same : {A : Type 0} (of : NodeData → A) (d : A) → IsBlind of → (o : Option NodeData) → option_map_or of (option_map without_text o) d ≡ option_map_or of o d
map_or_same of d h None = refl
map_or_same of d h (Some x) = h x

pub and_then_same : {A : Type 0} (of : NodeData → Option A) → IsBlind of → (o : Option NodeData) → option_and_then of (option_map without_text o) ≡ option_and_then of o
and_then_same of h None = refl
and_then_same of h (Some x) = h x

pub reads_or : {A : Type 0} (of : NodeData → A) (d : A) (w : World) (id : FullNodeId) → IsBlind of → option_map_or of (data_of (outline w) id) d ≡ option_map_or of (data_of w id) d
reads_or of d w id h = ap (λ o. option_map_or of o d) (data_bare w id) ∙ map_or_same of d h (data_of w id)

pub reads_given : {A : Type 0} (of : NodeData → Option A) (w : World) (id : FullNodeId) → IsBlind of → option_and_then of (data_of (outline w) id) ≡ option_and_then of (data_of w id)
reads_given of w id h = ap (option_and_then of) (data_bare w id) ∙ and_then_same of h (data_of w id)

-- ---- the tree

pub children_same : (w : World) (id : FullNodeId) → children (outline w) id ≡ children w id
children_same w id =
    let name : graft_name (outline w) id ≡ graft_name w id = reads_given (λ d. d.tree_id) w id (λ d. refl) in
    let list : listed_ids (outline w) id ≡ listed_ids w id = reads_or (λ d. map (in_tree id.tree) d.children) [] w id (λ d. refl) in
    ap (λ o. option_map_or (λ n. at_most_one (root_named w n)) o (listed_ids (outline w) id)) name
    ∙ ap (λ l. option_map_or (λ n. at_most_one (root_named w n)) (graft_name w id) l) list

grown_same : (w : World) (n : ℕ) (id : FullNodeId) → levels_below (outline w) n id ≡ levels_below w n id
grown_same w zero id = refl
grown_same w (suc n) id =
    ap (plant (levels_below (outline w) n)) (children_same w id) ∙ ap (λ sub. plant sub (children w id)) (funext (levels_below (outline w) n) (levels_below w n) (grown_same w n))

pub below_same_of : (w : World) (id : FullNodeId) → below (outline w) id ≡ below w id
unfolding below
below_same_of w id = ap (λ n. levels_below (outline w) n id) (len_same w) ∙ grown_same w (len w.nodes) id

among_same : (w : World) (child : FullNodeId) (ps : List FullNodeId) → place_among (outline w) child ps ≡ place_among w child ps
among_same w child [] = refl
among_same w child (p ∷ ps) =
    ap (λ cs. option_or (option_map (λ i. (p, i)) (position (is_same child) cs)) (place_among (outline w) child ps)) (children_same w p)
    ∙ ap (λ o. option_or (option_map (λ i. (p, i)) (position (is_same child) (children w p))) o) (among_same w child ps)

pub place_same : (w : World) (id : FullNodeId) → place_of (outline w) id ≡ place_of w id
unfolding place_of
place_same w id = ap (place_among (outline w) id) (keys_same w) ∙ among_same w id (keys w.nodes)

climbed_same : (w : World) (n : ℕ) (id : FullNodeId) → places_up (outline w) n id ≡ places_up w n id
climbed_same w zero id = refl
climbed_same w (suc n) id =
    ap (chain (places_up (outline w) n)) (place_same w id) ∙ ap (λ up. chain up (place_of w id)) (funext (places_up (outline w) n) (places_up w n) (climbed_same w n))

pub above_same : (w : World) (id : FullNodeId) → above (outline w) id ≡ above w id
unfolding above
above_same w id = ap (λ n. places_up (outline w) n id) (len_same w) ∙ climbed_same w (len w.nodes) id

-- ---- each word in turn, of the outline and of the world

module _ (w : World) where
  abbrev o : World
  o = outline w

  pub there : (id : FullNodeId) → is_some (data_of o id) ≡ is_some (data_of w id)
  there id = ap is_some (data_bare w id) ∙ go (data_of w id)
    where
      go : (d : Option NodeData) → is_some (option_map without_text d) ≡ is_some d
      go None = refl
      go (Some d) = refl

  pub given_same : {A : Type 0} (field : NodeData → Option A) → IsBlind field → field_at field o ≡ field_at field w
  given_same field h i id = reads_given field w id h i

  pub says_same : (test : NodeData → Bool) → IsBlind test → says test o ≡ says test w
  says_same test h i id = reads_or test false w id h i

  pub above_is : above o ≡ above w
  above_is i id = above_same w id i

  pub below_is : below o ≡ below w
  below_is i id = below_same_of w id i

  up_same : upward o ≡ upward w
  up_same i id = id ∷ map (λ (p : Place). p.0) (above_is i id)

  ancestors_same : ancestors o ≡ ancestors w
  ancestors_same i id = map (λ (p : Place). p.0) (above_is i id)

  within_same : is_within o ≡ is_within w
  within_same i top id = list_any (is_same top) (up_same i id)

  pub before_same : is_before o ≡ is_before w
  before_same i a b = is_lt (slice_cmp nat_cmp (reverse (map (λ (p : Place). p.1) (above_is i a))) (reverse (map (λ (p : Place). p.1) (above_is i b))))

  pub inherited_same : {A : Type 0} (field : NodeData → Option A) → IsBlind field → inherited_field field o ≡ inherited_field field w
  inherited_same field h i id = slice_get (filter_map (given_same field h i) (up_same i id)) 0

  -- ---- the focus

  beyond_same : focus_beyond o ≡ focus_beyond w
  beyond_same i id = option_and_then (focus_named w) (given_same (λ d. d.tree_id) (λ d. refl) i id)

  from_same : (n : ℕ) → focus_from o n ≡ focus_from w n
  from_same zero = refl
  from_same (suc n) = λ i id. option_map_or (from_same n i) (beyond_same i id) id

  pub focus_same : effective_focus o ≡ effective_focus w
  unfolding effective_focus
  focus_same i = option_map (from_same (length w.known) i) (focus_of w 0)

  pub active_same : active_descendant o ≡ active_descendant w
  active_same i id = option_and_then (λ n. then_some (there (in_tree id.tree n) i) (in_tree id.tree n)) (given_same (λ d. d.active_descendant) (λ d. refl) i id)

  pub focused_same : is_focused o ≡ is_focused w
  focused_same i id =
      w.host_focused && option_map_or (λ e. cond (is_same id e) (is_none (active_same i e)) (option_map_or (is_same id) (active_same i e) false)) (focus_same i) false

  -- ---- moves and boxes

  direct_same : direct_transform o ≡ direct_transform w
  direct_same i id = unwrap_or (given_same (λ d. d.transform) (λ d. refl) i id) (record { x = pos 0; y = pos 0 })

  moves_same : (ids : List FullNodeId) → sum_of_moves o ids ≡ sum_of_moves w ids
  moves_same [] = refl
  moves_same (id ∷ ids) = λ i. record { x = (direct_same i id).x +ℤ (moves_same ids i).x; y = (direct_same i id).y +ℤ (moves_same ids i).y }

  pub transform_same : transform o ≡ transform w
  transform_same i id = moves_same (up_same i id) i

  pub transform_within_same : transform_within o ≡ transform_within w
  transform_within_same i top id = moves_same (take_while (λ a. not (is_same top a)) (up_same i id)) i

  pub box_same : bounding_box o ≡ bounding_box w
  box_same i id = option_map (λ r. ordered_rect (moved_rect (whole_rect r) (transform_same i id))) (given_same (λ d. d.bounds) (λ d. refl) i id)

  -- ---- lists, by any filter

  module _ (f : FullNodeId → FilterResult) where
    pub filtered_same : filtered_children f o ≡ filtered_children f w
    filtered_same i id = frontier f (below_is i id)

    parent_same : filtered_parent f o ≡ filtered_parent f w
    parent_same i id = find (λ a. is_included (f a)) (ancestors_same i id)

    pub cover_same : cover f o ≡ cover f w
    cover_same i id = option_and_then (λ a. then_some (is_included (f a)) a) (find (λ a. not (is_left_out (f a))) (ancestors_same i id))

    kindred_same : kindred_nodes f o ≡ kindred_nodes f w
    kindred_same i id = option_map_or (filtered_same i) (cover_same i id) []

    pub following_same : following_filtered_siblings f o ≡ following_filtered_siblings f w
    following_same i id = filter (λ m. before_same i id m && not (within_same i id m)) (kindred_same i id)

    pub preceding_same : preceding_filtered_siblings f o ≡ preceding_filtered_siblings f w
    preceding_same i id = reverse (filter (λ m. before_same i m id) (kindred_same i id))

    uncut_same : uncut_preorder f o ≡ uncut_preorder f w
    uncut_same i top = cond (is_cut_off (f top)) [] (top ∷ uncut f (below_is i top))

  -- ---- the named filters

  hidden_same : is_hidden o ≡ is_hidden w
  hidden_same i id = list_any (says_same (λ d. d.hidden) (λ d. refl) i) (up_same i id)

  transparent_same : is_transparent o ≡ is_transparent w
  transparent_same = says_same (λ d. is_some d.tree_id || is_see_through d.role) (λ d. refl)

  settled_same : first_answer o ≡ first_answer w
  settled_same i id = cond (focused_same i id) (Some Include) (cond (hidden_same i id) (Some ExcludeSubtree) (cond (transparent_same i id) (Some ExcludeNode) None))

  base_same : base_filter o ≡ base_filter w
  base_same i id = unwrap_or (settled_same i id) Include

  outside_same : is_outside o ≡ is_outside w
  outside_same i frame id = option_map_or (λ box. not (meets box frame)) (box_same i id) false

  inside_same : is_first_inside o ≡ is_first_inside w
  inside_same i frame ids = option_map_or (λ id. option_map_or (λ box. meets box frame) (box_same i id) false) (slice_get ids 0) false

  far_same : is_far_outside o ≡ is_far_outside w
  far_same i frame id = outside_same i frame id && not (inside_same i frame (following_same (base_same i) i id) || inside_same i frame (preceding_same (base_same i) i id))

  clipped_by_same : is_clipped_by o ≡ is_clipped_by w
  clipped_by_same i parent id = says_same (λ d. d.clips_children) (λ d. refl) i parent && option_map_or (λ frame. far_same i frame id) (box_same i parent) false

  clipped_same : is_clipped o ≡ is_clipped w
  clipped_same i id = option_map_or (λ parent. clipped_by_same i parent id) (parent_same (base_same i) i id) false

  answer_same : (ids : List FullNodeId) → answer_at o ids ≡ answer_at w ids
  answer_same [] = refl
  answer_same (id ∷ ids) = λ i. unwrap_or (settled_same i id) (cond (is_cut_off (answer_same ids i) || clipped_same i id) ExcludeSubtree Include)

  common_same : common_filter o ≡ common_filter w
  common_same i id = answer_same (up_same i id) i

  pub named_same : (name : NamedFilter) → filter_named name o ≡ filter_named name w
  named_same All = refl
  named_same Common = common_same
  named_same CommonWithRoot = λ i id. cond (is_root w id) Include (common_same i id)

  -- ---- the node of a name, the focus that is shown, and the nodes beside a node

  pub named_is : node_named o ≡ node_named w
  named_is i name = option_and_then (λ index. then_some (there (in_tree index name.0) i) (in_tree index name.0)) (index_of w name.1)

  pub shown_is : shown_focus o ≡ shown_focus w
  shown_is i = if w.host_focused then option_map (λ e. unwrap_or (active_same i e) e) (focus_same i) else None

  pub following_is : following_siblings o ≡ following_siblings w
  following_is i id = option_map_or (λ (p : Place). drop (p.1 + 1) (children_same w p.0 i)) (place_same w id i) []

  pub preceding_is : preceding_siblings o ≡ preceding_siblings w
  preceding_is i id = option_map_or (λ (p : Place). reverse (take p.1 (children_same w p.0 i))) (place_same w id i) []

  -- ---- hits

  at_point_same : is_at_point o ≡ is_at_point w
  at_point_same i top p id = option_map_or (λ r. contains_point r (seen_from (transform_within_same i top id) p)) (given_same (λ d. d.bounds) (λ d. refl) i id) false

  pub hit_same : (f : FullNodeId → FilterResult) → hit f o ≡ hit f w
  hit_same f i top p = last_or None (filter (λ id. is_included (f id) && at_point_same i top p id) (uncut_same f i top))

  -- ---- runs

  pub runs_same : run_ids o ≡ run_ids w
  runs_same i root = filtered_same (λ id. cond (is_same id root || says_same (λ d. same_role d.role TextRun) (λ d. refl) i id) Include ExcludeNode) i root

  pub style_same : style_of o ≡ style_of w
  style_same i id = record {
    font_family = inherited_same (λ d. d.font_family) (λ d. refl) i id;
    language = inherited_same (λ d. d.language) (λ d. refl) i id;
    font_size = inherited_same (λ d. d.font_size) (λ d. refl) i id;
    font_weight = inherited_same (λ d. d.font_weight) (λ d. refl) i id;
    background_color = inherited_same (λ d. d.background_color) (λ d. refl) i id;
    foreground_color = inherited_same (λ d. d.foreground_color) (λ d. refl) i id;
    overline = inherited_same (λ d. d.overline) (λ d. refl) i id;
    strikethrough = inherited_same (λ d. d.strikethrough) (λ d. refl) i id;
    underline = inherited_same (λ d. d.underline) (λ d. refl) i id;
    text_align = inherited_same (λ d. d.text_align) (λ d. refl) i id;
    vertical_offset = inherited_same (λ d. d.vertical_offset) (λ d. refl) i id;
  }

  -- a run of the outline is the run without its text
  pub sent_bare : (id : FullNodeId) → (sent_run o id).node ≡ without_text (sent_run w id).node
  sent_bare id = ap (λ d. unwrap_or d (empty_node TextRun)) (data_bare w id) ∙ go (data_of w id)
    where
      go : (d : Option NodeData) → unwrap_or (option_map without_text d) (empty_node TextRun) ≡ without_text (unwrap_or d (empty_node TextRun))
      go None = refl
      go (Some d) = refl

-- two worlds of one outline agree in what is read off it
pub agree : {A : Type 0} (of : World → A) (w v : World) → ReadsOutline of → outline w ≡ outline v → of w ≡ of v
agree of w v h e = h w ∙ ap of e ∙ sym (h v)
