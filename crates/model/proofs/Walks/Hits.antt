-- A hit is that of the last child that has one, or the node's own; and a search backwards finds it.
use Rattle.std.proofs.Common.{◌≡◌, ℕ, Bool, true, false, cond, List, [], ◌∷◌, ◌++◌, length, take, suc, refl, sym, ◌∙◌, ap, arith, append_assoc, append-nil, inl, inr}
use Rattle.std.specs.Prelude.{ℤ, pos, ◌+ℤ◌, ◌-ℤ◌, Option, Some, None, slice_get, filter, filter_map, flat_map, take_while, not}
use Rattle.std.specs.Option.{option_map_or, option_or}
use Rattle.std.specs.List.{last_or, AllByRecursion, cons_option}
use Rattle.std.proofs.Math.Seq.{take-length}
use Rattle.std.proofs.lemmas.Int.{ints}
use Rattle.std.proofs.lemmas.List.Elements.{filter-append}
use Rattle.std.proofs.lemmas.List.Sums.{take_while-cons}
use Rattle.schema.specs.declared.geometry.Point.{Point}
use Rattle.model.specs.declared.FullNodeId.{FullNodeId}
use Rattle.model.specs.declared.filters.FilterResult.{FilterResult}
use Rattle.model.specs.World.{World, children, Place, StandsAt}
use Rattle.model.specs.Forest.{Forest, empty, tree, plant, below, above, is_same, IsFormed}
use Rattle.model.specs.Lists.{ancestors, IsWithin}
use Rattle.model.specs.Covers.{is_cut_off}
use Rattle.model.specs.Geometry.{WidePoint, direct_transform, sum_of_moves, transform, below_top, transform_within, uncut, uncut_preorder, hit}
use Rattle.model.specs.Beside.{next_place}
use Rattle.model.specs.Hits.{wide_point, seen_by_child, seen_by_parent, seen_within, is_hit, last_hit, hit_seen, hits_of_children, entered, uncut_until}
use Rattle.model.proofs.Forest.Grown.{below_is, above_child}
use Rattle.model.proofs.Forest.PlaceOf.{test_self}
use Rattle.model.proofs.Lists.Ranges.{take_at}
use Rattle.model.proofs.Lists.Preorder.{HangsAt, hangs_below, Under, under_child, under_deeper, under_lower, all_append, all_weaker}
use Rattle.model.proofs.Lists.Within.{above_under}
use Rattle.model.proofs.Forest.Climbs.{within_child, within_both}
use Rattle.model.proofs.Views.ViewFacts.{transform_is}
use Rattle.model.proofs.Forest.WaysUp.{transform_splits, uncut_is_of_children}

-- ---- lists

last-append : {A : Type 0} (o : Option A) (xs ys : List A) → last_or o (xs ++ ys) ≡ last_or (last_or o xs) ys
last-append o [] ys = refl
last-append o (x ∷ xs) ys = last-append (Some x) xs ys

last_alone : {A : Type 0} (o : Option A) (xs : List A) → last_or o xs ≡ option_or (last_or None xs) o
last_alone o [] = refl
last_alone o (x ∷ xs) = last_alone (Some x) xs ∙ twice (last_or None xs) ∙ ap (λ h. option_or h o) (sym (last_alone (Some x) xs))
  where
    twice : (h : Option _) → option_or h (Some x) ≡ option_or (option_or h (Some x)) o
    twice None = refl
    twice (Some y) = refl

last_more : {A : Type 0} (o h : Option A) (xs : List A) → last_or o (cons_option h xs) ≡ last_or (option_or h o) xs
last_more o None xs = refl
last_more o (Some x) xs = refl

last_flat : {A B : Type 0} (g : A → List B) (o : Option B) (cs : List A) → last_or o (flat_map g cs) ≡ last_or o (filter_map (λ c. last_or None (g c)) cs)
last_flat g o [] = refl
last_flat g o (c ∷ cs) =
    last-append o (g c) (flat_map g cs) ∙ ap (λ h. last_or h (flat_map g cs)) (last_alone o (g c)) ∙ last_flat g (option_or (last_or None (g c)) o) cs
    ∙ sym (last_more o (last_or None (g c)) (filter_map (λ c. last_or None (g c)) cs))

filter-flat : {A B : Type 0} (p : B → Bool) (g : A → List B) (cs : List A) → filter p (flat_map g cs) ≡ flat_map (λ c. filter p (g c)) cs
filter-flat p g [] = refl
filter-flat p g (c ∷ cs) = filter-append p (g c) (flat_map g cs) ∙ ap (λ xs. filter p (g c) ++ xs) (filter-flat p g cs)

filter_same : {A : Type 0} (p q : A → Bool) (xs : List A) → AllByRecursion (λ x. p x ≡ q x) xs → filter p xs ≡ filter q xs
filter_same p q [] a = refl
filter_same p q (x ∷ xs) a = ap (λ b. cond b (x ∷ filter p xs) (filter p xs)) a.0 ∙ ap (λ ys. cond (q x) (x ∷ ys) ys) (filter_same p q xs a.1)

flat_same : {A B : Type 0} (g h : A → List B) (cs : List A) → ((i : ℕ) (c : A) → slice_get cs i ≡ Some c → g c ≡ h c) → flat_map g cs ≡ flat_map h cs
flat_same g h [] e = refl
flat_same g h (c ∷ cs) e = ap (λ xs. xs ++ flat_map g cs) (e 0 c refl) ∙ ap (λ xs. h c ++ xs) (flat_same g h cs (λ i d s. e (suc i) d s))

-- the last of a filtered list, where the last of the list is tested first
pub last_tested : (p : FullNodeId → Bool) (xs : List FullNodeId) (x : FullNodeId) → last_or None (filter p (xs ++ x ∷ [])) ≡ cond (p x) (Some x) (last_or None (filter p xs))
last_tested p xs x = ap (last_or None) (filter-append p xs (x ∷ [])) ∙ last-append None (filter p xs) (cond (p x) (x ∷ []) []) ∙ go (p x)
  where
    go : (b : Bool) → last_or (last_or None (filter p xs)) (cond b (x ∷ []) []) ≡ cond b (Some x) (last_or None (filter p xs))
    go true = refl
    go false = refl

-- ---- whole numbers

cancelled : (a b c t : ℤ) → a +ℤ t ≡ b +ℤ (c +ℤ t) → a ≡ c +ℤ b
cancelled a b c t e = omega (arith, ints, e)

two_steps : (q a b c : ℤ) → a ≡ c +ℤ b → q -ℤ a ≡ (q -ℤ c) -ℤ b
two_steps q a b c e = omega (arith, ints, e)

no_step : (q a : ℤ) → a ≡ pos 0 → q -ℤ a ≡ q
no_step q a e = omega (arith, ints, e)

-- ---- the point, from node to node

back_step : (q a b c : ℤ) → a ≡ c +ℤ b → q -ℤ c ≡ (q -ℤ a) +ℤ b
back_step q a b c e = omega (arith, ints, e)

abbrev point_at : ℤ → ℤ → WidePoint
point_at a b = record { x = a; y = b }

wide : (a b c d : ℤ) → a ≡ c → b ≡ d → point_at a b ≡ point_at c d
wide a b c d e h = rw (e, h) refl

-- ---- the point, from node to node

move_itself : (w : World) (top : FullNodeId) → sum_of_moves w (below_top w top top) ≡ record { x = pos 0; y = pos 0 }
move_itself w top = ap (sum_of_moves w) (take_while-cons (λ a. not (is_same top a)) top (ancestors w top) ∙ ap (λ b. cond (not b) (top ∷ take_while (λ a. not (is_same top a)) (ancestors w top)) []) (test_self top))

pub seen_itself : (w : World) (top : FullNodeId) (q : WidePoint) → seen_within w top top q ≡ q
seen_itself w top q =
    wide (q.x -ℤ (transform_within w top top).x) (q.y -ℤ (transform_within w top top).y) q.x q.y
    (no_step q.x (transform_within w top top).x (ap (λ t. t.x) (move_itself w top))) (no_step q.y (transform_within w top top).y (ap (λ t. t.y) (move_itself w top)))

module _ (w : World) (formed : IsFormed w) where
  -- what moves a child is its own move and what moves its parent
  from_parent : (p : Place) (c : FullNodeId) → StandsAt w p c → ((transform w c).x ≡ (direct_transform w c).x +ℤ (transform w p.0).x) × ((transform w c).y ≡ (direct_transform w c).y +ℤ (transform w p.0).y)
  from_parent p c e =
      let is = transform_is w formed c in
      let placed = formed.placed p c e in (
        is.0 ∙ ap (λ o. (direct_transform w c).x +ℤ option_map_or (λ p. (transform w p.0).x) o (pos 0)) placed,
        is.1 ∙ ap (λ o. (direct_transform w c).y +ℤ option_map_or (λ p. (transform w p.0).y) o (pos 0)) placed,
      )

  -- what moves a node within top is a child's own move, and what moves it within the child
  moves_through : (p : Place) (c m : FullNodeId) → StandsAt w p c → IsWithin w c m →
      ((transform_within w p.0 m).x ≡ (direct_transform w c).x +ℤ (transform_within w c m).x) × ((transform_within w p.0 m).y ≡ (direct_transform w c).y +ℤ (transform_within w c m).y)
  moves_through p c m e within =
      let whole = transform_splits w formed p.0 m (within_both w formed p.0 c m (within_child w formed p.0 p c e (inl refl)) within) in
      let parts = transform_splits w formed c m within in
      let own = from_parent p c e in (
        cancelled (transform_within w p.0 m).x (transform_within w c m).x (direct_transform w c).x (transform w p.0).x (sym whole.0 ∙ parts.0 ∙ ap (λ n. (transform_within w c m).x +ℤ n) own.0),
        cancelled (transform_within w p.0 m).y (transform_within w c m).y (direct_transform w c).y (transform w p.0).y (sym whole.1 ∙ parts.1 ∙ ap (λ n. (transform_within w c m).y +ℤ n) own.1),
      )

  seen_through : (p : Place) (c m : FullNodeId) (q : WidePoint) → StandsAt w p c → IsWithin w c m → seen_within w p.0 m q ≡ seen_within w c m (seen_by_child w c q)
  seen_through p c m q e within =
      let moves = moves_through p c m e within in
      wide (q.x -ℤ (transform_within w p.0 m).x) (q.y -ℤ (transform_within w p.0 m).y) ((q.x -ℤ (direct_transform w c).x) -ℤ (transform_within w c m).x) ((q.y -ℤ (direct_transform w c).y) -ℤ (transform_within w c m).y)
      (two_steps q.x (transform_within w p.0 m).x (transform_within w c m).x (direct_transform w c).x moves.0)
      (two_steps q.y (transform_within w p.0 m).y (transform_within w c m).y (direct_transform w c).y moves.1)

  -- from a parent down to a child, and back up
  moves_on : (top : FullNodeId) (p : Place) (c : FullNodeId) → StandsAt w p c → IsWithin w top p.0 →
      ((transform_within w top c).x ≡ (transform_within w top p.0).x +ℤ (direct_transform w c).x) × ((transform_within w top c).y ≡ (transform_within w top p.0).y +ℤ (direct_transform w c).y)
  moves_on top p c e within =
      let whole = transform_splits w formed top c (within_child w formed top p c e within) in
      let parts = transform_splits w formed top p.0 within in
      let own = from_parent p c e in (
        cancelled (transform_within w top c).x (direct_transform w c).x (transform_within w top p.0).x (transform w top).x (sym whole.0 ∙ own.0 ∙ ap (λ n. (direct_transform w c).x +ℤ n) parts.0),
        cancelled (transform_within w top c).y (direct_transform w c).y (transform_within w top p.0).y (transform w top).y (sym whole.1 ∙ own.1 ∙ ap (λ n. (direct_transform w c).y +ℤ n) parts.1),
      )

  pub seen_down : (top : FullNodeId) (p : Place) (c : FullNodeId) (q : WidePoint) → StandsAt w p c → IsWithin w top p.0 → seen_within w top c q ≡ seen_by_child w c (seen_within w top p.0 q)
  seen_down top p c q e within =
      let moves = moves_on top p c e within in
      wide (q.x -ℤ (transform_within w top c).x) (q.y -ℤ (transform_within w top c).y) ((q.x -ℤ (transform_within w top p.0).x) -ℤ (direct_transform w c).x) ((q.y -ℤ (transform_within w top p.0).y) -ℤ (direct_transform w c).y)
      (two_steps q.x (transform_within w top c).x (direct_transform w c).x (transform_within w top p.0).x moves.0)
      (two_steps q.y (transform_within w top c).y (direct_transform w c).y (transform_within w top p.0).y moves.1)

  pub seen_up : (top : FullNodeId) (p : Place) (c : FullNodeId) (q : WidePoint) → StandsAt w p c → IsWithin w top p.0 → seen_within w top p.0 q ≡ seen_by_parent w c (seen_within w top c q)
  seen_up top p c q e within =
      let moves = moves_on top p c e within in
      wide (q.x -ℤ (transform_within w top p.0).x) (q.y -ℤ (transform_within w top p.0).y) ((q.x -ℤ (transform_within w top c).x) +ℤ (direct_transform w c).x) ((q.y -ℤ (transform_within w top c).y) +ℤ (direct_transform w c).y)
      (back_step q.x (transform_within w top c).x (direct_transform w c).x (transform_within w top p.0).x moves.0)
      (back_step q.y (transform_within w top c).y (direct_transform w c).y (transform_within w top p.0).y moves.1)

module _ (f : FullNodeId → FilterResult) (w : World) (formed : IsFormed w) where
  -- ---- the hit of a node, by those of its children

  one_uncut : (P : FullNodeId → Type 0) (b : Bool) (xs : List FullNodeId) → AllByRecursion P xs → AllByRecursion P (cond b [] xs)
  one_uncut P true xs a = tt
  one_uncut P false xs a = a

  all_uncut : (p : FullNodeId) (k : ℕ) (t : Forest) → HangsAt w p k t → AllByRecursion (Under w p k) (uncut f t)
  unfolding HangsAt
  all_uncut p k empty h = tt
  all_uncut p k (tree c inner rest) h =
      all_append (Under w p k) (cond (is_cut_off (f c)) [] (c ∷ uncut f inner)) (uncut f rest)
      (one_uncut (Under w p k) (is_cut_off (f c)) (c ∷ uncut f inner)
      (under_child w formed p k c h.0, all_weaker (Under w c 0) (Under w p k) (λ d u. under_deeper w formed p k c d 0 h.0 u) (uncut f inner) (all_uncut c 0 inner h.1)))
      (all_weaker (Under w p (suc k)) (Under w p k) (λ d u. under_lower w p k (suc k) d (omega arith) u) (uncut f rest) (all_uncut p (suc k) rest h.2))

  all_within : (c : FullNodeId) → AllByRecursion (IsWithin w c) (uncut_preorder f w c)
  all_within c =
      one_uncut (IsWithin w c) (is_cut_off (f c)) (c ∷ uncut f (below w c))
      (inl refl, all_weaker (Under w c 0) (IsWithin w c) (λ d u. inr (above_under w formed c d u)) (uncut f (below w c)) (all_uncut c 0 (below w c) (hangs_below w c)))

  abbrev tested : FullNodeId → WidePoint → FullNodeId → Bool
  tested top q m = is_hit f w m (seen_within w top m q)

  of_child : (id : FullNodeId) (q : WidePoint) (i : ℕ) (c : FullNodeId) → StandsAt w (id, i) c → filter (tested id q) (uncut_preorder f w c) ≡ filter (tested c (seen_by_child w c q)) (uncut_preorder f w c)
  of_child id q i c e =
      filter_same (tested id q) (tested c (seen_by_child w c q)) (uncut_preorder f w c)
      (all_weaker (IsWithin w c) (λ m. tested id q m ≡ tested c (seen_by_child w c q) m) (λ m within. ap (is_hit f w m) (seen_through w formed (id, i) c m q e within)) (uncut_preorder f w c) (all_within c))

  of_children : (id : FullNodeId) (q : WidePoint) (o : Option FullNodeId) → last_or o (filter (tested id q) (flat_map (uncut_preorder f w) (children w id))) ≡ last_or o (hits_of_children f w id q)
  of_children id q o =
      ap (last_or o) (filter-flat (tested id q) (uncut_preorder f w) (children w id)
      ∙ flat_same (λ c. filter (tested id q) (uncut_preorder f w c)) (λ c. filter (tested c (seen_by_child w c q)) (uncut_preorder f w c)) (children w id) (λ i c e. of_child id q i c e))
      ∙ last_flat (λ c. filter (tested c (seen_by_child w c q)) (uncut_preorder f w c)) o (children w id)

  pub hit_is : (id : FullNodeId) (q : WidePoint) → hit_seen f w id q ≡ cond (is_cut_off (f id)) None (last_or (cond (is_hit f w id q) (Some id) None) (hits_of_children f w id q))
  hit_is id q = ap (λ xs. last_or None (filter (tested id q) xs)) (uncut_is_of_children f w formed id) ∙ go (is_cut_off (f id))
    where
      own : (b : Bool) (xs : List FullNodeId) → last_or None (cond b (id ∷ xs) xs) ≡ last_or (cond b (Some id) None) xs
      own true xs = refl
      own false xs = refl

      go : (b : Bool) → last_or None (filter (tested id q) (cond b [] (id ∷ flat_map (uncut_preorder f w) (children w id)))) ≡ cond b None (last_or (cond (is_hit f w id q) (Some id) None) (hits_of_children f w id q))
      go true = refl
      go false =
          own (tested id q id) (filter (tested id q) (flat_map (uncut_preorder f w) (children w id)))
          ∙ ap (λ r. last_or (cond (is_hit f w id r) (Some id) None) (filter (tested id q) (flat_map (uncut_preorder f w) (children w id)))) (seen_itself w id q)
          ∙ of_children id q (cond (is_hit f w id q) (Some id) None)

  pub hit_is_seen : (top : FullNodeId) (p : Point) → hit f w top p ≡ hit_seen f w top (wide_point p)
  hit_is_seen top p = refl

  -- ---- the steps of a search backwards

  uncut-append : (xs ys : List FullNodeId) → uncut f (plant (below w) (xs ++ ys)) ≡ uncut f (plant (below w) xs) ++ uncut f (plant (below w) ys)
  uncut-append [] ys = refl
  uncut-append (x ∷ xs) ys = ap (λ zs. cond (is_cut_off (f x)) [] (x ∷ uncut f (below w x)) ++ zs) (uncut-append xs ys) ∙ sym (append_assoc (cond (is_cut_off (f x)) [] (x ∷ uncut f (below w x))) _ _)

  module _ (top : FullNodeId) where
    uncut_step : (p : Place) (c : FullNodeId) → StandsAt w p c → uncut_until f w top (next_place p) ≡ uncut_until f w top p ++ cond (is_cut_off (f c)) [] (c ∷ uncut f (below w c))
    uncut_step p c e =
        ap (λ xs. (cond (is_same top p.0) [] (entered f w top (above w p.0)) ++ p.0 ∷ []) ++ xs)
        (ap (λ xs. uncut f (plant (below w) xs)) (take_at (children w p.0) p.1 c e) ∙ uncut-append (take p.1 (children w p.0)) (c ∷ [])
        ∙ ap (λ xs. uncut f (plant (below w) (take p.1 (children w p.0))) ++ xs) (append-nil (cond (is_cut_off (f c)) [] (c ∷ uncut f (below w c)))))
        ∙ sym (append_assoc (cond (is_same top p.0) [] (entered f w top (above w p.0)) ++ p.0 ∷ []) _ _)

    pub search_start : is_cut_off (f top) ≡ false → uncut_preorder f w top ≡ uncut_until f w top (top, length (children w top))
    search_start kept =
        ap (λ b. cond b [] (top ∷ uncut f (below w top))) kept
        ∙ ap (λ t. top ∷ uncut f t) (below_is w formed top ∙ ap (plant (below w)) (sym (take-length (children w top))))
        ∙ ap (λ b. (cond b [] (entered f w top (above w top)) ++ top ∷ []) ++ uncut f (plant (below w) (take (length (children w top)) (children w top)))) (sym (test_self top))

    pub search_over : (p : Place) (c : FullNodeId) → StandsAt w p c → is_cut_off (f c) ≡ true → uncut_until f w top (next_place p) ≡ uncut_until f w top p
    search_over p c e cut = uncut_step p c e ∙ ap (λ b. uncut_until f w top p ++ cond b [] (c ∷ uncut f (below w c))) cut ∙ append-nil (uncut_until f w top p)

    pub search_down : (p : Place) (c : FullNodeId) → StandsAt w p c → is_cut_off (f c) ≡ false → is_same top c ≡ false → uncut_until f w top (next_place p) ≡ uncut_until f w top (c, length (children w c))
    search_down p c e kept other =
        uncut_step p c e ∙ ap (λ b. uncut_until f w top p ++ cond b [] (c ∷ uncut f (below w c))) kept
        ∙ sym (append_assoc (uncut_until f w top p) (c ∷ []) (uncut f (below w c)))
        ∙ ap (λ t. (uncut_until f w top p ++ c ∷ []) ++ uncut f t) (below_is w formed c ∙ ap (plant (below w)) (sym (take-length (children w c))))
        ∙ ap (λ xs. (xs ++ c ∷ []) ++ uncut f (plant (below w) (take (length (children w c)) (children w c))))
        (sym (ap (λ b. cond b [] (entered f w top (above w c))) other ∙ ap (entered f w top) (above_child w formed p c e)))

    pub search_up : (p q : Place) → p.1 ≡ 0 → StandsAt w q p.0 → is_same top p.0 ≡ false → uncut_until f w top p ≡ uncut_until f w top q ++ p.0 ∷ []
    search_up p q start e other =
        ap (λ n. (cond (is_same top p.0) [] (entered f w top (above w p.0)) ++ p.0 ∷ []) ++ uncut f (plant (below w) (take n (children w p.0)))) start
        ∙ append-nil (cond (is_same top p.0) [] (entered f w top (above w p.0)) ++ p.0 ∷ [])
        ∙ ap (λ b. cond b [] (entered f w top (above w p.0)) ++ p.0 ∷ []) other ∙ ap (λ ps. entered f w top ps ++ p.0 ∷ []) (above_child w formed q p.0 e)

    pub search_end : (p : Place) → p.1 ≡ 0 → is_same top p.0 ≡ true → uncut_until f w top p ≡ p.0 ∷ []
    search_end p start here =
        ap (λ n. (cond (is_same top p.0) [] (entered f w top (above w p.0)) ++ p.0 ∷ []) ++ uncut f (plant (below w) (take n (children w p.0)))) start
        ∙ append-nil (cond (is_same top p.0) [] (entered f w top (above w p.0)) ++ p.0 ∷ [])
        ∙ ap (λ b. cond b [] (entered f w top (above w p.0)) ++ p.0 ∷ []) here

    -- ---- at the first place of a parent: the parent is the last, and is hit, or what is before it is searched

    own_last : (p : Place) → p.1 ≡ 0 → uncut_until f w top p ≡ cond (is_same top p.0) [] (entered f w top (above w p.0)) ++ p.0 ∷ []
    own_last p start =
        ap (λ n. (cond (is_same top p.0) [] (entered f w top (above w p.0)) ++ p.0 ∷ []) ++ uncut f (plant (below w) (take n (children w p.0)))) start
        ∙ append-nil (cond (is_same top p.0) [] (entered f w top (above w p.0)) ++ p.0 ∷ [])

    tested_last : (q : WidePoint) (p : Place) (b : Bool) → p.1 ≡ 0 → is_hit f w p.0 (seen_within w top p.0 q) ≡ b →
        last_hit f w top q (uncut_until f w top p) ≡ cond b (Some p.0) (last_hit f w top q (cond (is_same top p.0) [] (entered f w top (above w p.0))))
    tested_last q p b start test =
        ap (last_hit f w top q) (own_last p start) ∙ last_tested (tested top q) (cond (is_same top p.0) [] (entered f w top (above w p.0))) p.0
        ∙ ap (λ b. cond b (Some p.0) (last_hit f w top q (cond (is_same top p.0) [] (entered f w top (above w p.0))))) test

    pub hit_here : (q : WidePoint) (p : Place) → p.1 ≡ 0 → is_hit f w p.0 (seen_within w top p.0 q) ≡ true → last_hit f w top q (uncut_until f w top p) ≡ Some p.0
    hit_here q p start test = tested_last q p true start test

    pub hit_ended : (q : WidePoint) (p : Place) → p.1 ≡ 0 → is_hit f w p.0 (seen_within w top p.0 q) ≡ false → is_same top p.0 ≡ true → last_hit f w top q (uncut_until f w top p) ≡ None
    hit_ended q p start test here = tested_last q p false start test ∙ ap (λ b. last_hit f w top q (cond b [] (entered f w top (above w p.0)))) here

    pub hit_higher : (q : WidePoint) (p above_it : Place) → p.1 ≡ 0 → is_hit f w p.0 (seen_within w top p.0 q) ≡ false → is_same top p.0 ≡ false → StandsAt w above_it p.0 →
        last_hit f w top q (uncut_until f w top p) ≡ last_hit f w top q (uncut_until f w top above_it)
    hit_higher q p above_it start test other e =
        tested_last q p false start test ∙ ap (λ b. last_hit f w top q (cond b [] (entered f w top (above w p.0)))) other
        ∙ ap (λ ps. last_hit f w top q (entered f w top ps)) (above_child w formed above_it p.0 e)
