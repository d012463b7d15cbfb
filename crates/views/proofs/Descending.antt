-- What a filter shows below a node, from one node to the next in pre-order, forwards and backwards.
use Rattle.std.proofs.Common.{◌≡◌, ℕ, ◌+◌, ◌≤◌, Bool, true, false, cond, List, [], ◌∷◌, ◌++◌, length, take, drop, suc, zero, refl, sym, ◌∙◌, ap, subst, arith, append_assoc, append-nil, inl, inr}
use Rattle.std.specs.Prelude.{Option, Some, None, slice_get, flat_map, MatchOption, ◌⊎◌}
use Rattle.std.specs.FinMap.{len}
use Rattle.std.specs.List.{AllByRecursion}
use Rattle.std.proofs.Math.Seq.{take-length}
use Rattle.std.proofs.lemmas.Grind.{flat_map-append}
use Rattle.std.proofs.lemmas.List.{take-append-drop}
use Rattle.model.specs.declared.FullNodeId.{FullNodeId}
use Rattle.model.specs.declared.filters.FilterResult.{FilterResult}
use Rattle.model.specs.declared.filters.FilterResult.TheVariants.{Include, ExcludeNode, ExcludeSubtree}
use Rattle.model.specs.World.{World, Place, StandsAt, children}
use Rattle.model.specs.Forest.{Forest, empty, tree, plant, below, above, is_same, IsFormed}
use Rattle.model.specs.Lists.{nodes_of}
use Rattle.model.specs.Paths.{depth}
use Rattle.model.specs.Covers.{is_included, is_cut_off}
use Rattle.model.specs.Frontier.{frontier, shown_part, filtered_children}
use Rattle.model.specs.Beside.{next_place, after, after_in, left_at}
use Rattle.model.proofs.Forest.Grown.{below_is, above_child, depth_child, depth_at_most}
use Rattle.model.proofs.Forest.PlaceOf.{same_from_test, test_self}
use Rattle.model.proofs.Lists.Frontiers.{frontier_is}
use Rattle.model.proofs.Lists.Ranges.{drop_at, take_at}
use Rattle.model.proofs.Lists.Preorder.{HangsAt, hangs_below, all_append}
use Rattle.model.proofs.Lists.Shown.{above_parts}
use Rattle.views.specs.declared.walks.spot.Spot.{Spot}
use Rattle.views.specs.Descendants.{descendants, shown_tree, shown_nodes, filtered_descendants}
use Rattle.views.specs.Descents.{own_part, earlier, later, earlier_in, later_in, earlier_at, IsAmong}

-- ---- lists

flat_same : {A B : Type 0} (g h : A → List B) (cs : List A) → ((i : ℕ) (c : A) → slice_get cs i ≡ Some c → g c ≡ h c) → flat_map g cs ≡ flat_map h cs
flat_same g h [] e = refl
flat_same g h (c ∷ cs) e = ap (λ xs. xs ++ flat_map g cs) (e 0 c refl) ∙ ap (λ xs. h c ++ xs) (flat_same g h cs (λ i d s. e (suc i) d s))

flat_flat : {A B C : Type 0} (g : B → List C) (parts : A → List B) (cs : List A) → flat_map g (flat_map parts cs) ≡ flat_map (λ c. flat_map g (parts c)) cs
flat_flat g parts [] = refl
flat_flat g parts (c ∷ cs) = flat_map-append g (parts c) (flat_map parts cs) ∙ ap (λ xs. flat_map g (parts c) ++ xs) (flat_flat g parts cs)

all_at : (P : FullNodeId → Type 0) (xs ys : List FullNodeId) (c : FullNodeId) → AllByRecursion P (xs ++ c ∷ ys) → P c
all_at P [] ys c a = a.0
all_at P (x ∷ xs) ys c a = all_at P xs ys c a.1

-- ---- what is shown of planted trees

shown-plant : (f : FullNodeId → FilterResult) (sub : FullNodeId → Forest) (xs ys : List FullNodeId) → shown_nodes f (plant sub (xs ++ ys)) ≡ shown_nodes f (plant sub xs) ++ shown_nodes f (plant sub ys)
shown-plant f sub [] ys = refl
shown-plant f sub (x ∷ xs) ys = ap (λ (t : List FullNodeId). shown_tree (f x) x (shown_nodes f (sub x)) ++ t) (shown-plant f sub xs ys) ∙ sym (append_assoc (shown_tree (f x) x (shown_nodes f (sub x))) _ _)

shown_each : (f : FullNodeId → FilterResult) (sub : FullNodeId → Forest) (cs : List FullNodeId) → shown_nodes f (plant sub cs) ≡ flat_map (λ c. shown_tree (f c) c (shown_nodes f (sub c))) cs
shown_each f sub [] = refl
shown_each f sub (c ∷ cs) = ap (λ xs. shown_tree (f c) c (shown_nodes f (sub c)) ++ xs) (shown_each f sub cs)

all_nodes : (t : Forest) → shown_nodes (λ _. Include) t ≡ nodes_of t
all_nodes empty = refl
all_nodes (tree c inner rest) = ap (λ xs. c ∷ xs ++ shown_nodes (λ _. Include) rest) (all_nodes inner) ∙ ap (λ xs. c ∷ nodes_of inner ++ xs) (all_nodes rest)

pub all_included : (w : World) (id : FullNodeId) → filtered_descendants (λ _. Include) w id ≡ descendants w id
all_included w id = all_nodes (below w id)

cut_tree : (r : FilterResult) (c : FullNodeId) (inner : List FullNodeId) → is_cut_off r ≡ true → shown_tree r c inner ≡ []
cut_tree Include c inner e = absurd (let both : false ≡ true = e in cc)
cut_tree ExcludeNode c inner e = absurd (let both : false ≡ true = e in cc)
cut_tree ExcludeSubtree c inner e = refl

uncut_tree : (r : FilterResult) (c : FullNodeId) (inner : List FullNodeId) → is_cut_off r ≡ false → shown_tree r c inner ≡ cond (is_included r) (c ∷ []) [] ++ inner
uncut_tree Include c inner e = refl
uncut_tree ExcludeNode c inner e = refl
uncut_tree ExcludeSubtree c inner e = absurd (let both : true ≡ false = e in cc)

module _ (f : FullNodeId → FilterResult) (w : World) (formed : IsFormed w) where
  -- ---- what is shown below a node is each filtered child, and what is shown below that

  abbrev opened : FullNodeId → List FullNodeId
  opened c = c ∷ filtered_descendants f w c

  opened_part : (r : FilterResult) (c : FullNodeId) → filtered_descendants f w c ≡ flat_map opened (filtered_children f w c) →
      shown_tree r c (filtered_descendants f w c) ≡ flat_map opened (shown_part r c (filtered_children f w c))
  opened_part Include c h = sym (append-nil (opened c))
  opened_part ExcludeNode c h = h
  opened_part ExcludeSubtree c h = refl

  by_children : (id : FullNodeId) → ((i : ℕ) (c : FullNodeId) → slice_get (children w id) i ≡ Some c → filtered_descendants f w c ≡ flat_map opened (filtered_children f w c)) →
      filtered_descendants f w id ≡ flat_map opened (filtered_children f w id)
  by_children id h =
      ap (shown_nodes f) (below_is w formed id) ∙ shown_each f (below w) (children w id)
      ∙ flat_same (λ c. shown_tree (f c) c (filtered_descendants f w c)) (λ c. flat_map opened (shown_part (f c) c (filtered_children f w c))) (children w id) (λ i c e. opened_part (f c) c (h i c e))
      ∙ sym (flat_flat opened (λ c. shown_part (f c) c (filtered_children f w c)) (children w id)) ∙ ap (flat_map opened) (sym (frontier_is f w formed id))

  by_levels : (n : ℕ) (id : FullNodeId) → len w.nodes ≤ n + depth w id → filtered_descendants f w id ≡ flat_map opened (filtered_children f w id)
  by_levels zero id h = by_children id (λ i c e. absurd (omega (arith, depth_child w formed (id, i) c e, depth_at_most w c)))
  by_levels (suc n) id h = by_children id (λ i c e. by_levels n c (omega (arith, depth_child w formed (id, i) c e)))

  pub shown_below : (id : FullNodeId) → filtered_descendants f w id ≡ flat_map opened (filtered_children f w id)
  shown_below id = by_levels (len w.nodes) id (omega arith)

  planted_opened : (cs : List FullNodeId) → shown_nodes f (plant (below w) cs) ≡ flat_map opened (frontier f (plant (below w) cs))
  planted_opened [] = refl
  planted_opened (c ∷ cs) =
      ap (λ xs. xs ++ shown_nodes f (plant (below w) cs)) (opened_part (f c) c (shown_below c)) ∙ ap (λ xs. flat_map opened (shown_part (f c) c (filtered_children f w c)) ++ xs) (planted_opened cs)
      ∙ sym (flat_map-append opened (shown_part (f c) c (filtered_children f w c)) (frontier f (plant (below w) cs)))

  module _ (top : FullNodeId) where
    -- ---- forwards

    either : (b : Bool) (xs ys : List FullNodeId) → xs ≡ flat_map opened ys → cond b [] xs ≡ flat_map opened (cond b [] ys)
    either true xs ys e = refl
    either false xs ys e = e

    later_opened : (ps : List Place) → later f w top ps ≡ flat_map opened (after f w (is_same top) ps)
    later_opened [] = refl
    later_opened (p ∷ up) =
        ap (λ xs. xs ++ cond (is_same top p.0) [] (later f w top up)) (planted_opened (drop (p.1 + 1) (children w p.0)))
        ∙ ap (λ xs. flat_map opened (frontier f (plant (below w) (drop (p.1 + 1) (children w p.0)))) ++ xs) (either (is_same top p.0) (later f w top up) (after f w (is_same top) up) (later_opened up))
        ∙ sym (flat_map-append opened (frontier f (plant (below w) (drop (p.1 + 1) (children w p.0)))) (cond (is_same top p.0) [] (after f w (is_same top) up)))

    later_in_opened : (id : FullNodeId) → is_same top id ≡ false → later_in f w top id ≡ flat_map opened (left_at f w (is_same top) (id, 0))
    later_in_opened id other =
        ap (λ xs. xs ++ later f w top (above w id)) (shown_below id ∙ ap (λ t. flat_map opened (frontier f t)) (below_is w formed id))
        ∙ ap (λ xs. flat_map opened (frontier f (plant (below w) (children w id))) ++ xs) (later_opened (above w id))
        ∙ sym (flat_map-append opened (frontier f (plant (below w) (children w id))) (after f w (is_same top) (above w id)))
        ∙ ap (λ b. flat_map opened (frontier f (plant (below w) (children w id)) ++ cond b [] (after f w (is_same top) (above w id)))) (sym other)

    opens : (r : FullNodeId) → flat_map opened (r ∷ after_in f w top r) ≡ r ∷ later_in f w top r
    opens r = ap (λ xs. r ∷ filtered_descendants f w r ++ xs) (sym (later_opened (above w r)))

    pub next_opened : (id : FullNodeId) → is_same top id ≡ false → (o : Option Spot) →
        MatchOption o (left_at f w (is_same top) (id, 0) ≡ []) (λ r. left_at f w (is_same top) (id, 0) ≡ r.member.id ∷ after_in f w top r.member.id) →
        MatchOption o (later_in f w top id ≡ []) (λ r. later_in f w top id ≡ r.member.id ∷ later_in f w top r.member.id)
    next_opened id other None e = later_in_opened id other ∙ ap (flat_map opened) e
    next_opened id other (Some r) e = later_in_opened id other ∙ ap (flat_map opened) e ∙ opens r.member.id

    pub first_opened : (r : FullNodeId) → filtered_children f w top ≡ r ∷ after_in f w top r → filtered_descendants f w top ≡ r ∷ later_in f w top r
    first_opened r e = shown_below top ∙ ap (flat_map opened) e ∙ opens r

    pub none_opened : filtered_children f w top ≡ [] → filtered_descendants f w top ≡ []
    none_opened e = shown_below top ∙ ap (flat_map opened) e

    -- ---- backwards

    pub earlier_child : (p : Place) (c : FullNodeId) → StandsAt w p c → earlier f w top (above w c) ≡ earlier_at f w top p
    earlier_child p c e = ap (earlier f w top) (above_child w formed p c e)

    earlier_step : (p : Place) (c : FullNodeId) → StandsAt w p c → earlier_at f w top (next_place p) ≡ earlier_at f w top p ++ shown_tree (f c) c (filtered_descendants f w c)
    earlier_step p c e =
        ap (λ xs. cond (is_same top p.0) [] (earlier f w top (above w p.0) ++ own_part f p.0) ++ shown_nodes f (plant (below w) xs)) (take_at (children w p.0) p.1 c e)
        ∙ ap (λ xs. cond (is_same top p.0) [] (earlier f w top (above w p.0) ++ own_part f p.0) ++ xs)
        (shown-plant f (below w) (take p.1 (children w p.0)) (c ∷ []) ∙ ap (λ xs. shown_nodes f (plant (below w) (take p.1 (children w p.0))) ++ xs) (append-nil _))
        ∙ sym (append_assoc (cond (is_same top p.0) [] (earlier f w top (above w p.0) ++ own_part f p.0)) _ _)

    pub earlier_skip : (p : Place) (c : FullNodeId) → StandsAt w p c → is_cut_off (f c) ≡ true → earlier_at f w top (next_place p) ≡ earlier_at f w top p
    earlier_skip p c e cut = earlier_step p c e ∙ ap (λ xs. earlier_at f w top p ++ xs) (cut_tree (f c) c (filtered_descendants f w c) cut) ∙ append-nil _

    pub earlier_descend : (p : Place) (c : FullNodeId) → StandsAt w p c → is_cut_off (f c) ≡ false → is_same top c ≡ false → earlier_at f w top (next_place p) ≡ earlier_at f w top (c, length (children w c))
    earlier_descend p c e uncut other =
        earlier_step p c e ∙ ap (λ xs. earlier_at f w top p ++ xs) (uncut_tree (f c) c (filtered_descendants f w c) uncut) ∙ sym (append_assoc (earlier_at f w top p) (own_part f c) (filtered_descendants f w c))
        ∙ ap (λ xs. (xs ++ own_part f c) ++ filtered_descendants f w c) (sym (earlier_child p c e))
        ∙ ap (λ t. (earlier f w top (above w c) ++ own_part f c) ++ shown_nodes f t) (below_is w formed c ∙ ap (plant (below w)) (sym (take-length (children w c))))
        ∙ ap (λ b. cond b [] (earlier f w top (above w c) ++ own_part f c) ++ shown_nodes f (plant (below w) (take (length (children w c)) (children w c)))) (sym other)

    earlier_first : (p : Place) → p.1 ≡ 0 → earlier_at f w top p ≡ cond (is_same top p.0) [] (earlier_in f w top p.0 ++ own_part f p.0)
    earlier_first p h =
        ap (λ n. cond (is_same top p.0) [] (earlier_in f w top p.0 ++ own_part f p.0) ++ shown_nodes f (plant (below w) (take n (children w p.0)))) h ∙ append-nil _

    pub earlier_end : (p : Place) → p.1 ≡ 0 → is_same top p.0 ≡ true → earlier_at f w top p ≡ []
    earlier_end p h here = earlier_first p h ∙ ap (λ b. cond b [] (earlier_in f w top p.0 ++ own_part f p.0)) here

    earlier_own : (p : Place) (b : Bool) → p.1 ≡ 0 → is_same top p.0 ≡ false → is_included (f p.0) ≡ b → earlier_at f w top p ≡ earlier_in f w top p.0 ++ cond b (p.0 ∷ []) []
    earlier_own p b h other kept =
        earlier_first p h ∙ ap (λ b. cond b [] (earlier_in f w top p.0 ++ own_part f p.0)) other ∙ ap (λ b. earlier_in f w top p.0 ++ cond b (p.0 ∷ []) []) kept

    pub earlier_parent : (p : Place) → p.1 ≡ 0 → is_same top p.0 ≡ false → is_included (f p.0) ≡ true → earlier_at f w top p ≡ earlier_in f w top p.0 ++ p.0 ∷ []
    earlier_parent p h other kept = earlier_own p true h other kept

    pub earlier_up : (p q : Place) → p.1 ≡ 0 → StandsAt w q p.0 → is_same top p.0 ≡ false → is_included (f p.0) ≡ false → earlier_at f w top p ≡ earlier_at f w top q
    earlier_up p q h e other out = earlier_own p false h other out ∙ append-nil _ ∙ earlier_child q p.0 e

    pub last_inside : earlier_at f w top (top, length (children w top)) ≡ filtered_descendants f w top
    last_inside =
        ap (λ b. cond b [] (earlier f w top (above w top) ++ own_part f top) ++ shown_nodes f (plant (below w) (take (length (children w top)) (children w top)))) (test_self top)
        ∙ ap (λ xs. shown_nodes f (plant (below w) xs)) (take-length (children w top)) ∙ ap (shown_nodes f) (sym (below_is w formed top))

    -- ---- a node that is shown, with what is before it and after it

    -- these places lead up to top, and no node that they pass on the way is cut off
    abbrev OpensTo : List Place → Type 0
    OpensTo [] = ⊥
    OpensTo (p ∷ up) = (p.0 ≡ top) ⊎ ((is_cut_off (f p.0) ≡ false) × OpensTo up)

    abbrev IsOpen : FullNodeId → Type 0
    IsOpen id = (f id ≡ Include) × OpensTo (above w id)

    by_answer : (c : FullNodeId) (inner : List FullNodeId) → OpensTo (above w c) → (is_cut_off (f c) ≡ false → AllByRecursion IsOpen inner) → (r : FilterResult) → f c ≡ r → AllByRecursion IsOpen (shown_tree r c inner)
    by_answer c inner way deeper Include e = ((e, way), deeper (ap is_cut_off e))
    by_answer c inner way deeper ExcludeNode e = deeper (ap is_cut_off e)
    by_answer c inner way deeper ExcludeSubtree e = tt

    all_open : (p : FullNodeId) (k : ℕ) (t : Forest) → HangsAt w p k t → (p ≡ top) ⊎ ((is_cut_off (f p) ≡ false) × OpensTo (above w p)) → AllByRecursion IsOpen (shown_nodes f t)
    unfolding HangsAt
    all_open p k empty h way = tt
    all_open p k (tree c inner rest) h way =
        let higher : OpensTo (above w c) = subst OpensTo (sym (above_child w formed (p, k) c h.0)) way in
        all_append IsOpen (shown_tree (f c) c (shown_nodes f inner)) (shown_nodes f rest) (by_answer c (shown_nodes f inner) higher (λ uncut. all_open c 0 inner h.1 (inr (uncut, higher))) (f c) refl)
        (all_open p (suc k) rest h.2 way)

    child_splits : (p : Place) (c : FullNodeId) → StandsAt w p c →
        filtered_descendants f w p.0 ≡ shown_nodes f (plant (below w) (take p.1 (children w p.0))) ++ (shown_tree (f c) c (filtered_descendants f w c) ++ shown_nodes f (plant (below w) (drop (p.1 + 1) (children w p.0))))
    child_splits p c e =
        ap (shown_nodes f) (below_is w formed p.0) ∙ ap (λ xs. shown_nodes f (plant (below w) xs)) (sym (take-append-drop p.1 (children w p.0)))
        ∙ shown-plant f (below w) (take p.1 (children w p.0)) (drop p.1 (children w p.0))
        ∙ ap (λ xs. shown_nodes f (plant (below w) (take p.1 (children w p.0))) ++ shown_nodes f (plant (below w) xs)) (drop_at (children w p.0) p.1 c e)

    regroup : (a u s v z : List FullNodeId) → (a ++ u) ++ (s ++ (v ++ z)) ≡ a ++ ((u ++ (s ++ v)) ++ z)
    regroup a u s v z = simp append_assoc

    splits_by : (ps : List Place) (id : FullNodeId) → above w id ≡ ps → OpensTo ps → earlier f w top ps ++ (shown_tree (f id) id (filtered_descendants f w id) ++ later f w top ps) ≡ filtered_descendants f w top
    splits_by [] id e way = absurd way
    splits_by (q ∷ up) id e way = go (is_same top q.0) refl way (splits_by up q.0 parts.1)
      where
        parts : StandsAt w q id × (above w q.0 ≡ up)
        parts = above_parts f w formed id q up e

        around : (b : Bool) → (cond b [] (earlier f w top up ++ own_part f q.0) ++ shown_nodes f (plant (below w) (take q.1 (children w q.0)))) ++ (shown_tree (f id) id (filtered_descendants f w id) ++ (shown_nodes f (plant (below w) (drop (q.1 + 1) (children w q.0))) ++ cond b [] (later f w top up)))
            ≡ cond b [] (earlier f w top up ++ own_part f q.0) ++ (filtered_descendants f w q.0 ++ cond b [] (later f w top up))
        around b =
            regroup (cond b [] (earlier f w top up ++ own_part f q.0)) (shown_nodes f (plant (below w) (take q.1 (children w q.0)))) (shown_tree (f id) id (filtered_descendants f w id)) (shown_nodes f (plant (below w) (drop (q.1 + 1) (children w q.0)))) (cond b [] (later f w top up))
            ∙ ap (λ xs. cond b [] (earlier f w top up ++ own_part f q.0) ++ (xs ++ cond b [] (later f w top up))) (sym (child_splits q id parts.0))

        go : (b : Bool) → is_same top q.0 ≡ b → OpensTo (q ∷ up) → (OpensTo up → earlier f w top up ++ (shown_tree (f q.0) q.0 (filtered_descendants f w q.0) ++ later f w top up) ≡ filtered_descendants f w top) →
            (cond (is_same top q.0) [] (earlier f w top up ++ own_part f q.0) ++ shown_nodes f (plant (below w) (take q.1 (children w q.0)))) ++ (shown_tree (f id) id (filtered_descendants f w id) ++ (shown_nodes f (plant (below w) (drop (q.1 + 1) (children w q.0))) ++ cond (is_same top q.0) [] (later f w top up)))
            ≡ filtered_descendants f w top
        go true t l higher =
            around (is_same top q.0) ∙ ap (λ b. cond b [] (earlier f w top up ++ own_part f q.0) ++ (filtered_descendants f w q.0 ++ cond b [] (later f w top up))) t ∙ append-nil _ ∙ ap (filtered_descendants f w) (sym (same_from_test top q.0 t))
        go false t (inl here) higher = absurd (let both : true ≡ false = sym (ap (is_same top) here ∙ test_self top) ∙ t in cc)
        go false t (inr (uncut, l)) higher =
            around (is_same top q.0) ∙ ap (λ b. cond b [] (earlier f w top up ++ own_part f q.0) ++ (filtered_descendants f w q.0 ++ cond b [] (later f w top up))) t
            ∙ append_assoc (earlier f w top up) (own_part f q.0) (filtered_descendants f w q.0 ++ later f w top up)
            ∙ ap (λ xs. earlier f w top up ++ xs) (sym (append_assoc (own_part f q.0) (filtered_descendants f w q.0) (later f w top up)))
            ∙ ap (λ xs. earlier f w top up ++ (xs ++ later f w top up)) (sym (uncut_tree (f q.0) q.0 (filtered_descendants f w q.0) uncut)) ∙ higher l

    among : (id : FullNodeId) → IsOpen id → IsAmong f w top id
    among id shown = ap (λ r. earlier_in f w top id ++ (shown_tree r id (filtered_descendants f w id) ++ later f w top (above w id))) (sym shown.0) ∙ splits_by (above w id) id refl shown.1

    -- so is each node of the list
    pub among_where : (xs ys : List FullNodeId) (c : FullNodeId) → filtered_descendants f w top ≡ xs ++ c ∷ ys → IsAmong f w top c
    among_where xs ys c e = among c (all_at IsOpen xs ys c (subst (AllByRecursion IsOpen) e (all_open top 0 (below w top) (hangs_below w top) (inl refl))))
