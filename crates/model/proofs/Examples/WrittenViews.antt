-- Worlds that are written out: what views read of them.
use Rattle.std.proofs.Common.{◌≡◌, ℕ, suc, zero, Bool, List, [], ◌∷◌, length, refl, ◌∙◌, ap, map}
use Rattle.std.specs.Prelude.{Option, None, T, option_and_then, position}
use Rattle.std.specs.Option.{option_map, option_map_or, option_or}
use Rattle.std.specs.Ordering.{nat_cmp}
use Rattle.std.specs.FinMap.{find, len, get-from_sorted, entries-from_sorted, len-entries, is_sorted}
use Rattle.schema.specs.NodeData.{NodeData}
use Rattle.schema.specs.declared.TreeId.{TreeId}
use Rattle.model.specs.declared.FullNodeId.{FullNodeId}
use Rattle.model.specs.FullIds.{full_cmp}
use Rattle.model.specs.World.{ROOT_NAME, World, Tree, data_of, in_tree, index_of, at_most_one, children, root_of, focus_of, Place}
use Rattle.model.specs.Forest.{Forest, empty, plant, levels_below, is_same, place_among, place_of, chain, places_up, below, above}
use Rattle.model.specs.FocusFound.{focus_beyond, focus_from, effective_focus}
use Rattle.model.specs.ViewExamples.{written, one_tree, root_tree, focus_at, has_host}

abbrev pub grown_by : (FullNodeId → List FullNodeId) → ℕ → FullNodeId → Forest
grown_by kids zero id = empty
grown_by kids (suc n) id = plant (grown_by kids n) (kids id)

abbrev pub climbed_by : (FullNodeId → Option Place) → ℕ → FullNodeId → List Place
climbed_by place zero id = []
climbed_by place (suc n) id = chain (climbed_by place n) (place id)

abbrev pub place_by : (FullNodeId → List FullNodeId) → FullNodeId → List FullNodeId → Option Place
place_by kids child [] = None
place_by kids child (p ∷ ps) = option_or (option_map (λ i. (p, i)) (position (is_same child) (kids p))) (place_by kids child ps)

abbrev pub focus_by : (FullNodeId → Option FullNodeId) → ℕ → FullNodeId → FullNodeId
focus_by beyond zero id = id
focus_by beyond (suc n) id = option_map_or (focus_by beyond n) (beyond id) id

-- ---- of any world: its lists by its children, its climbs by its places

module _ (w : World) where
  pub grown_from : (n : ℕ) (id : FullNodeId) → levels_below w n id ≡ grown_by (children w) n id
  grown_from zero id = refl
  grown_from (suc n) id = ap (λ (g : FullNodeId → Forest). plant g (children w id)) (λ i c. grown_from n c i)

  pub climbed_from : (n : ℕ) (id : FullNodeId) → places_up w n id ≡ climbed_by (place_of w) n id
  climbed_from zero id = refl
  climbed_from (suc n) id = ap (λ (g : FullNodeId → List Place). chain g (place_of w id)) (λ i c. climbed_from n c i)

  pub place_among_from : (c : FullNodeId) (ps : List FullNodeId) → place_among w c ps ≡ place_by (children w) c ps
  place_among_from c [] = refl
  place_among_from c (p ∷ ps) = ap (option_or (option_map (λ i. (p, i)) (position (is_same c) (children w p)))) (place_among_from c ps)

  pub focus_from_from : (n : ℕ) (id : FullNodeId) → focus_from w n id ≡ focus_by (focus_beyond w) n id
  focus_from_from zero id = refl
  focus_from_from (suc n) id = ap (λ (g : FullNodeId → FullNodeId). option_map_or g (focus_beyond w id) id) (λ i c. focus_from_from n c i)

-- ---- of a world that is written out

module _ (known : List TreeId) (ts : List (ℕ × Tree)) (es : List (FullNodeId × NodeData)) (host : Bool) where
  abbrev w : World
  w = written known ts es host

  abbrev pub data_by : FullNodeId → Option NodeData
  data_by id = find full_cmp id es

  abbrev pub graft_by : FullNodeId → Option TreeId
  graft_by id = option_and_then (λ (d : NodeData). d.tree_id) (data_by id)

  abbrev pub root_by : ℕ → Option FullNodeId
  root_by index = option_map (λ (t : Tree). in_tree index t.root) (find nat_cmp index ts)

  abbrev pub declared_by : ℕ → Option FullNodeId
  declared_by index = option_map (λ (t : Tree). in_tree index t.focus) (find nat_cmp index ts)

  abbrev pub kids_by : FullNodeId → List FullNodeId
  kids_by id =
      option_map_or (λ name. at_most_one (option_and_then root_by (index_of w name))) (graft_by id) (option_map_or (λ (d : NodeData). map (in_tree id.tree) d.children) (data_by id) [])

  abbrev pub parent_by : FullNodeId → Option Place
  parent_by id = place_by kids_by id (map (λ (e : FullNodeId × NodeData). e.0) es)

  abbrev pub beyond_by : FullNodeId → Option FullNodeId
  beyond_by id = option_and_then (λ name. option_and_then declared_by (index_of w name)) (graft_by id)

  module _ (sorted : T (is_sorted full_cmp es)) (trees_sorted : T (is_sorted nat_cmp ts)) where
    data_is : data_of w ≡ data_by
    data_is i id = get-from_sorted full_cmp es id sorted i

    root_is : root_of w ≡ root_by
    root_is i index = option_map (λ (t : Tree). in_tree index t.root) (get-from_sorted nat_cmp ts index trees_sorted i)

    declared_is : focus_of w ≡ declared_by
    declared_is i index = option_map (λ (t : Tree). in_tree index t.focus) (get-from_sorted nat_cmp ts index trees_sorted i)

    kids_are : children w ≡ kids_by
    kids_are i id =
        option_map_or (λ name. at_most_one (option_and_then (root_is i) (index_of w name))) (option_and_then (λ (d : NodeData). d.tree_id) (data_is i id))
        (option_map_or (λ (d : NodeData). map (in_tree id.tree) d.children) (data_is i id) [])

    count_is : len w.nodes ≡ length es
    count_is = len-entries w.nodes ∙ ap length (entries-from_sorted full_cmp es sorted)

    place_is : place_of w ≡ parent_by
    unfolding place_of
    place_is = (λ i id. place_among w id (map (λ (e : FullNodeId × NodeData). e.0) (entries-from_sorted full_cmp es sorted i)))
        ∙ (λ i id. place_among_from w id (map (λ (e : FullNodeId × NodeData). e.0) es) i)
        ∙ (λ i id. place_by (kids_are i) id (map (λ (e : FullNodeId × NodeData). e.0) es))

    below_is : below w ≡ grown_by kids_by (length es)
    unfolding below
    below_is = (λ i id. levels_below w (count_is i) id) ∙ (λ i id. grown_from w (length es) id i) ∙ (λ i id. grown_by (kids_are i) (length es) id)

    above_is : above w ≡ climbed_by parent_by (length es)
    unfolding above
    above_is = (λ i id. places_up w (count_is i) id) ∙ (λ i id. climbed_from w (length es) id i) ∙ (λ i id. climbed_by (place_is i) (length es) id)

    beyond_is : focus_beyond w ≡ beyond_by
    beyond_is i id = option_and_then (λ name. option_and_then (declared_is i) (index_of w name)) (option_and_then (λ (d : NodeData). d.tree_id) (data_is i id))

    pub focus_is : effective_focus w ≡ option_map (focus_by beyond_by (length known)) (declared_by 0)
    unfolding effective_focus
    focus_is = ap (λ (g : FullNodeId → FullNodeId). option_map g (focus_of w 0)) (λ i c. focus_from_from w (length known) c i)
        ∙ (λ i. option_map (focus_by (beyond_is i) (length known)) (declared_is i 0))

    -- what is read of it, node by node
    pub data_at : (id : FullNodeId) → data_of w id ≡ data_by id
    data_at id i = data_is i id

    pub above_at : (id : FullNodeId) → above w id ≡ climbed_by parent_by (length es) id
    above_at id i = above_is i id

    pub below_at : (id : FullNodeId) → below w id ≡ grown_by kids_by (length es) id
    below_at id i = below_is i id

    pub root_at : (index : ℕ) → root_of w index ≡ root_by index
    root_at index i = root_is i index

-- ---- of one tree

module _ (focus : Option ℕ) (es : List (FullNodeId × NodeData)) (sorted : T (is_sorted full_cmp es)) where
  pub data_in : (id : FullNodeId) → data_of (one_tree focus es) id ≡ find full_cmp id es
  data_in = data_at (ROOT_NAME ∷ []) (root_tree (focus_at focus)) es (has_host focus) sorted tt

  pub above_in : (id : FullNodeId) → above (one_tree focus es) id ≡ climbed_by (parent_by (ROOT_NAME ∷ []) (root_tree (focus_at focus)) es (has_host focus)) (length es) id
  above_in = above_at (ROOT_NAME ∷ []) (root_tree (focus_at focus)) es (has_host focus) sorted tt

  pub below_in : (id : FullNodeId) → below (one_tree focus es) id ≡ grown_by (kids_by (ROOT_NAME ∷ []) (root_tree (focus_at focus)) es (has_host focus)) (length es) id
  below_in = below_at (ROOT_NAME ∷ []) (root_tree (focus_at focus)) es (has_host focus) sorted tt

  pub focus_in : effective_focus (one_tree focus es) ≡ option_map (focus_by (beyond_by (ROOT_NAME ∷ []) (root_tree (focus_at focus)) es (has_host focus)) 1) (declared_by (ROOT_NAME ∷ []) (root_tree (focus_at focus)) es (has_host focus) 0)
  focus_in = focus_is (ROOT_NAME ∷ []) (root_tree (focus_at focus)) es (has_host focus) sorted tt

  pub root_in : (index : ℕ) → root_of (one_tree focus es) index ≡ root_by (ROOT_NAME ∷ []) (root_tree (focus_at focus)) es (has_host focus) index
  root_in = root_at (ROOT_NAME ∷ []) (root_tree (focus_at focus)) es (has_host focus) sorted tt
