-- How what is shown from a place on, and before a place, changes from one place of a walk to the next.
use Rattle.std.proofs.Common.{◌≡◌, ◌+◌, ◌<◌, ◌≤◌, Bool, true, false, cond, List, [], ◌∷◌, ◌++◌, length, take, drop, refl, sym, ◌∙◌, ap, arith, append_assoc, append-nil, inl, inr}
use Rattle.std.specs.Prelude.{None, ◌↔◌}
use Rattle.std.proofs.Math.ListN.{drop_of_length-le}
use Rattle.std.proofs.Math.Seq.{take-length}
use Rattle.std.proofs.lemmas.List.{take-append-drop}
use Rattle.model.specs.declared.FullNodeId.{FullNodeId}
use Rattle.model.specs.declared.filters.FilterResult.{FilterResult}
use Rattle.model.specs.declared.filters.FilterResult.TheVariants.{Include, ExcludeNode, ExcludeSubtree}
use Rattle.model.specs.World.{World, children, Place, StandsAt}
use Rattle.model.specs.Forest.{Forest, empty, tree, plant, place_of, below, above, is_same, IsFormed}
use Rattle.model.specs.Paths.{depth}
use Rattle.model.specs.Lists.{IsWithin}
use Rattle.model.specs.Frontier.{shown_part, frontier, filtered_children, LeadsUpTo, IsShown}
use Rattle.model.specs.Beside.{next_place, shown_from, shown_until, after, before, left_at, prior_at, weight, weight_from, weight_until, work_after, work_before, work_from, work_until}
use Rattle.model.proofs.Forest.Grown.{below_is, above_child, above_root, depth_child}
use Rattle.model.proofs.Forest.PlaceOf.{same_from_test, test_self}
use Rattle.model.proofs.Lists.Frontiers.{frontier-plant}
use Rattle.model.proofs.Lists.Ranges.{drop_at, take_at}
use Rattle.model.proofs.Forest.Climbs.{within_deeper}
use Rattle.model.proofs.Lists.Shown.{above_parts}

weight-plant : (sub : FullNodeId → Forest) (xs ys : List FullNodeId) → weight (plant sub (xs ++ ys)) ≡ weight (plant sub xs) + weight (plant sub ys)
weight-plant sub [] ys = omega arith
weight-plant sub (x ∷ xs) ys = omega (arith, weight-plant sub xs ys)

-- the trees from a place on, under any reading
planted_step : {B : Type 0} (read : Forest → B) (w : World) (p : Place) (c : FullNodeId) → StandsAt w p c →
    read (plant (below w) (drop p.1 (children w p.0))) ≡ read (tree c (below w c) (plant (below w) (drop (p.1 + 1) (children w p.0))))
planted_step read w p c e = ap (λ xs. read (plant (below w) xs)) (drop_at (children w p.0) p.1 c e)

past_end : {B : Type 0} (read : Forest → B) (w : World) (p : Place) → length (children w p.0) ≤ p.1 → read (plant (below w) (drop p.1 (children w p.0))) ≡ read empty
past_end read w p h = ap (λ xs. read (plant (below w) xs)) (drop_of_length-le (children w p.0) h)

-- a test that holds exactly of equal ids is the test of one id
pub tested_same : (r : Bool) (a b : FullNodeId) → (r ≡ true) ↔ (a ≡ b) → is_same a b ≡ r
tested_same true a b h = ap (is_same a) (sym (h.0 refl)) ∙ test_self a
tested_same false a b h = go (is_same a b) refl
  where
    go : (t : Bool) → is_same a b ≡ t → is_same a b ≡ false
    go true e = absurd (let both : false ≡ true = h.1 (same_from_test a b e) in cc)
    go false e = e

module _ (w : World) (formed : IsFormed w) where
  -- what is below a node that top is above isn't top
  pub below_is_other : (top : FullNodeId) (p : Place) (c : FullNodeId) → StandsAt w p c → IsWithin w top p.0 → is_same top c ≡ false
  below_is_other top p c e within = go (is_same top c) refl
    where
      deep : depth w top < depth w c
      deep = elim (within_deeper w formed top p.0 within) [
        | inl same ↦ omega (arith, depth_child w formed p c e, ap (depth w) same)
        | inr less ↦ omega (arith, depth_child w formed p c e)
      ]

      go : (b : Bool) → is_same top c ≡ b → is_same top c ≡ false
      go true t = absurd (omega (arith, ap (depth w) (same_from_test top c t), deep))
      go false t = t

  module _ (f : FullNodeId → FilterResult) (ends : FullNodeId → Bool) where
    -- ---- forwards

    pub after_child : (p : Place) (c : FullNodeId) → StandsAt w p c → after f w ends (above w c) ≡ left_at f w ends (next_place p)
    after_child p c e = ap (after f w ends) (above_child w formed p c e)

    pub left_step : (p : Place) (c : FullNodeId) → StandsAt w p c → left_at f w ends p ≡ shown_part (f c) c (filtered_children f w c) ++ left_at f w ends (next_place p)
    left_step p c e =
        ap (λ xs. xs ++ cond (ends p.0) [] (after f w ends (above w p.0))) (planted_step (frontier f) w p c e) ∙ append_assoc (shown_part (f c) c (filtered_children f w c)) _ _

    pub left_include : (p : Place) (c : FullNodeId) → StandsAt w p c → f c ≡ Include → left_at f w ends p ≡ c ∷ after f w ends (above w c)
    left_include p c e kept =
        left_step p c e ∙ ap (λ r. shown_part r c (filtered_children f w c) ++ left_at f w ends (next_place p)) kept ∙ ap (λ xs. c ∷ xs) (sym (after_child p c e))

    pub left_skip : (p : Place) (c : FullNodeId) → StandsAt w p c → f c ≡ ExcludeSubtree → left_at f w ends p ≡ left_at f w ends (next_place p)
    left_skip p c e cut = left_step p c e ∙ ap (λ r. shown_part r c (filtered_children f w c) ++ left_at f w ends (next_place p)) cut

    pub left_descend : (p : Place) (c : FullNodeId) → StandsAt w p c → f c ≡ ExcludeNode → ends c ≡ false → left_at f w ends p ≡ left_at f w ends (c, 0)
    left_descend p c e out on =
        left_step p c e ∙ ap (λ r. shown_part r c (filtered_children f w c) ++ left_at f w ends (next_place p)) out
        ∙ ap (λ t. frontier f t ++ left_at f w ends (next_place p)) (below_is w formed c)
        ∙ ap (λ xs. shown_from f w (c, 0) ++ xs) (sym (after_child p c e) ∙ ap (λ b. cond b [] (after f w ends (above w c))) (sym on))

    pub left_up : (p q : Place) → length (children w p.0) ≤ p.1 → StandsAt w q p.0 → ends p.0 ≡ false → left_at f w ends p ≡ left_at f w ends (next_place q)
    left_up p q h e on =
        ap (λ xs. xs ++ cond (ends p.0) [] (after f w ends (above w p.0))) (past_end (frontier f) w p h)
        ∙ ap (λ b. cond b [] (after f w ends (above w p.0))) on ∙ after_child q p.0 e

    pub left_end : (p : Place) → length (children w p.0) ≤ p.1 → ends p.0 ≡ true → left_at f w ends p ≡ []
    left_end p h off =
        ap (λ xs. xs ++ cond (ends p.0) [] (after f w ends (above w p.0))) (past_end (frontier f) w p h) ∙ ap (λ b. cond b [] (after f w ends (above w p.0))) off

    pub left_root : (p : Place) → length (children w p.0) ≤ p.1 → place_of w p.0 ≡ None → left_at f w ends p ≡ []
    left_root p h e =
        ap (λ xs. xs ++ cond (ends p.0) [] (after f w ends (above w p.0))) (past_end (frontier f) w p h)
        ∙ ap (λ ps. cond (ends p.0) [] (after f w ends ps)) (above_root w formed p.0 e) ∙ go (ends p.0)
      where
        go : (b : Bool) → cond {A = List FullNodeId} b [] [] ≡ []
        go true = refl
        go false = refl

    -- ---- backwards

    pub before_child : (p : Place) (c : FullNodeId) → StandsAt w p c → before f w ends (above w c) ≡ prior_at f w ends p
    before_child p c e = ap (before f w ends) (above_child w formed p c e)

    pub prior_step : (p : Place) (c : FullNodeId) → StandsAt w p c → prior_at f w ends (next_place p) ≡ prior_at f w ends p ++ shown_part (f c) c (filtered_children f w c)
    prior_step p c e =
        ap (λ xs. cond (ends p.0) [] (before f w ends (above w p.0)) ++ frontier f (plant (below w) xs)) (take_at (children w p.0) p.1 c e)
        ∙ ap (λ xs. cond (ends p.0) [] (before f w ends (above w p.0)) ++ xs) (frontier-plant f (below w) (take p.1 (children w p.0)) (c ∷ []) ∙ ap (λ xs. shown_until f w p ++ xs) (append-nil _))
        ∙ sym (append_assoc (cond (ends p.0) [] (before f w ends (above w p.0))) _ _)

    pub prior_include : (p : Place) (c : FullNodeId) → StandsAt w p c → f c ≡ Include → prior_at f w ends (next_place p) ≡ before f w ends (above w c) ++ c ∷ []
    prior_include p c e kept =
        prior_step p c e ∙ ap (λ r. prior_at f w ends p ++ shown_part r c (filtered_children f w c)) kept ∙ ap (λ xs. xs ++ c ∷ []) (sym (before_child p c e))

    pub prior_skip : (p : Place) (c : FullNodeId) → StandsAt w p c → f c ≡ ExcludeSubtree → prior_at f w ends (next_place p) ≡ prior_at f w ends p
    prior_skip p c e cut = prior_step p c e ∙ ap (λ r. prior_at f w ends p ++ shown_part r c (filtered_children f w c)) cut ∙ append-nil _

    pub prior_descend : (p : Place) (c : FullNodeId) → StandsAt w p c → f c ≡ ExcludeNode → ends c ≡ false → prior_at f w ends (next_place p) ≡ prior_at f w ends (c, length (children w c))
    prior_descend p c e out on =
        prior_step p c e ∙ ap (λ r. prior_at f w ends p ++ shown_part r c (filtered_children f w c)) out
        ∙ ap (λ t. prior_at f w ends p ++ frontier f t) (below_is w formed c ∙ ap (plant (below w)) (sym (take-length (children w c))))
        ∙ ap (λ xs. xs ++ shown_until f w (c, length (children w c))) (sym (before_child p c e) ∙ ap (λ b. cond b [] (before f w ends (above w c))) (sym on))

    pub prior_up : (p q : Place) → p.1 ≡ 0 → StandsAt w q p.0 → ends p.0 ≡ false → prior_at f w ends p ≡ prior_at f w ends q
    prior_up p q h e on =
        ap (λ n. cond (ends p.0) [] (before f w ends (above w p.0)) ++ frontier f (plant (below w) (take n (children w p.0)))) h
        ∙ append-nil _ ∙ ap (λ b. cond b [] (before f w ends (above w p.0))) on ∙ before_child q p.0 e

    pub prior_end : (p : Place) → p.1 ≡ 0 → ends p.0 ≡ true → prior_at f w ends p ≡ []
    prior_end p h off =
        ap (λ n. cond (ends p.0) [] (before f w ends (above w p.0)) ++ frontier f (plant (below w) (take n (children w p.0)))) h
        ∙ append-nil _ ∙ ap (λ b. cond b [] (before f w ends (above w p.0))) off

    pub prior_root : (p : Place) → p.1 ≡ 0 → place_of w p.0 ≡ None → prior_at f w ends p ≡ []
    prior_root p h e =
        ap (λ n. cond (ends p.0) [] (before f w ends (above w p.0)) ++ frontier f (plant (below w) (take n (children w p.0)))) h
        ∙ append-nil _ ∙ ap (λ ps. cond (ends p.0) [] (before f w ends ps)) (above_root w formed p.0 e) ∙ go (ends p.0)
      where
        go : (b : Bool) → cond {A = List FullNodeId} b [] [] ≡ []
        go true = refl
        go false = refl

    -- ---- both ways

    -- what is shown of a parent's children is shown before a child, of it, and after it
    pub child_splits : (p : Place) (c : FullNodeId) → StandsAt w p c → filtered_children f w p.0 ≡ shown_until f w p ++ (shown_part (f c) c (filtered_children f w c) ++ shown_from f w (next_place p))
    child_splits p c e =
        ap (frontier f) (below_is w formed p.0) ∙ ap (λ xs. frontier f (plant (below w) xs)) (sym (take-append-drop p.1 (children w p.0)))
        ∙ frontier-plant f (below w) (take p.1 (children w p.0)) (drop p.1 (children w p.0)) ∙ ap (λ xs. shown_until f w p ++ xs) (planted_step (frontier f) w p c e)

  -- ---- the whole frontier, around a node from which the way leads up to top

  module _ (f : FullNodeId → FilterResult) (top : FullNodeId) where
    regroup : (a u s v z : List FullNodeId) → (a ++ u) ++ (s ++ (v ++ z)) ≡ a ++ ((u ++ (s ++ v)) ++ z)
    regroup a u s v z = simp append_assoc

    splits_by : (ps : List Place) (id : FullNodeId) → above w id ≡ ps → LeadsUpTo f top ps →
        before f w (is_same top) ps ++ (shown_part (f id) id (filtered_children f w id) ++ after f w (is_same top) ps) ≡ filtered_children f w top
    splits_by [] id e leads = absurd leads
    splits_by (q ∷ up) id e leads = go (is_same top q.0) refl leads (splits_by up q.0 parts.1)
      where
        parts : StandsAt w q id × (above w q.0 ≡ up)
        parts = above_parts f w formed id q up e

        around : (b : Bool) → (cond b [] (before f w (is_same top) up) ++ shown_until f w q) ++ (shown_part (f id) id (filtered_children f w id) ++ (shown_from f w (next_place q) ++ cond b [] (after f w (is_same top) up)))
            ≡ cond b [] (before f w (is_same top) up) ++ (filtered_children f w q.0 ++ cond b [] (after f w (is_same top) up))
        around b =
            regroup (cond b [] (before f w (is_same top) up)) (shown_until f w q) (shown_part (f id) id (filtered_children f w id)) (shown_from f w (next_place q)) (cond b [] (after f w (is_same top) up))
            ∙ ap (λ xs. cond b [] (before f w (is_same top) up) ++ (xs ++ cond b [] (after f w (is_same top) up))) (sym (child_splits f (is_same top) q id parts.0))

        go : (b : Bool) → is_same top q.0 ≡ b → LeadsUpTo f top (q ∷ up) →
            (LeadsUpTo f top up → before f w (is_same top) up ++ (shown_part (f q.0) q.0 (filtered_children f w q.0) ++ after f w (is_same top) up) ≡ filtered_children f w top) →
            (cond (is_same top q.0) [] (before f w (is_same top) up) ++ shown_until f w q) ++ (shown_part (f id) id (filtered_children f w id) ++ (shown_from f w (next_place q) ++ cond (is_same top q.0) [] (after f w (is_same top) up)))
            ≡ filtered_children f w top
        go true t l higher = around (is_same top q.0) ∙ ap (λ b. cond b [] (before f w (is_same top) up) ++ (filtered_children f w q.0 ++ cond b [] (after f w (is_same top) up))) t ∙ append-nil _ ∙ ap (filtered_children f w) (sym (same_from_test top q.0 t))
        go false t (inl here) higher = absurd (let both : true ≡ false = sym (ap (is_same top) here ∙ test_self top) ∙ t in cc)
        go false t (inr (out, l)) higher =
            around (is_same top q.0) ∙ ap (λ b. cond b [] (before f w (is_same top) up) ++ (filtered_children f w q.0 ++ cond b [] (after f w (is_same top) up))) t
            ∙ ap (λ r. before f w (is_same top) up ++ (shown_part r q.0 (filtered_children f w q.0) ++ after f w (is_same top) up)) (sym out) ∙ higher l

    pub splits : (id : FullNodeId) → LeadsUpTo f top (above w id) →
        before f w (is_same top) (above w id) ++ (shown_part (f id) id (filtered_children f w id) ++ after f w (is_same top) (above w id)) ≡ filtered_children f w top
    splits id leads = splits_by (above w id) id refl leads

    pub splits_at : (id : FullNodeId) → IsShown f w top id → before f w (is_same top) (above w id) ++ id ∷ after f w (is_same top) (above w id) ≡ filtered_children f w top
    splits_at id s = ap (λ r. before f w (is_same top) (above w id) ++ (shown_part r id (filtered_children f w id) ++ after f w (is_same top) (above w id))) (sym s.0) ∙ splits id s.1

    -- the places below top begin and end with all that is shown
    pub start_left : left_at f w (is_same top) (top, 0) ≡ filtered_children f w top
    start_left = ap (λ b. shown_from f w (top, 0) ++ cond b [] (after f w (is_same top) (above w top))) (test_self top) ∙ append-nil _ ∙ ap (frontier f) (sym (below_is w formed top))

    pub start_prior : prior_at f w (is_same top) (top, length (children w top)) ≡ filtered_children f w top
    start_prior =
        ap (λ b. cond b [] (before f w (is_same top) (above w top)) ++ shown_until f w (top, length (children w top))) (test_self top)
        ∙ ap (λ xs. frontier f (plant (below w) xs)) (take-length (children w top)) ∙ ap (frontier f) (sym (below_is w formed top))

  -- ---- the work that is left

  module _ (top : FullNodeId) where
    pub work_after_child : (p : Place) (c : FullNodeId) → StandsAt w p c → work_after w top (above w c) ≡ work_from w top (next_place p)
    work_after_child p c e = ap (work_after w top) (above_child w formed p c e)

    pub work_from_step : (p : Place) (c : FullNodeId) → StandsAt w p c → work_from w top p ≡ 2 + weight (below w c) + work_from w top (next_place p)
    work_from_step p c e = omega (arith, planted_step weight w p c e)

    pub work_from_descend : (p : Place) (c : FullNodeId) → StandsAt w p c → work_from w top (c, 0) < work_from w top p
    work_from_descend p c e = go (is_same top c)
      where
        go : (b : Bool) → weight_from w (c, 0) + cond b 0 (work_after w top (above w c) + 1) < work_from w top p
        go true = omega (arith, work_from_step p c e, ap weight (below_is w formed c))
        go false = omega (arith, work_from_step p c e, ap weight (below_is w formed c), work_after_child p c e)

    pub work_from_up : (p q : Place) → length (children w p.0) ≤ p.1 → StandsAt w q p.0 → is_same top p.0 ≡ false → work_from w top (next_place q) < work_from w top p
    work_from_up p q h e on =
        let over : work_from w top p ≡ weight_from w p + (work_after w top (above w p.0) + 1) = ap (λ b. weight_from w p + cond b 0 (work_after w top (above w p.0) + 1)) on in
        omega (arith, over, work_after_child q p.0 e)

    pub work_before_child : (p : Place) (c : FullNodeId) → StandsAt w p c → work_before w top (above w c) ≡ work_until w top p
    work_before_child p c e = ap (work_before w top) (above_child w formed p c e)

    pub work_until_step : (p : Place) (c : FullNodeId) → StandsAt w p c → work_until w top (next_place p) ≡ 2 + weight (below w c) + work_until w top p
    work_until_step p c e =
        let grows : weight_until w (next_place p) ≡ weight_until w p + (2 + weight (below w c)) =
        ap (λ xs. weight (plant (below w) xs)) (take_at (children w p.0) p.1 c e) ∙ weight-plant (below w) (take p.1 (children w p.0)) (c ∷ []) ∙ omega arith in
        omega arith

    pub work_until_descend : (p : Place) (c : FullNodeId) → StandsAt w p c → work_until w top (c, length (children w c)) < work_until w top (next_place p)
    work_until_descend p c e = go (is_same top c)
      where
        all : weight_until w (c, length (children w c)) ≡ weight (below w c)
        all = ap weight (ap (plant (below w)) (take-length (children w c)) ∙ sym (below_is w formed c))

        go : (b : Bool) → weight_until w (c, length (children w c)) + cond b 0 (work_before w top (above w c) + 1) < work_until w top (next_place p)
        go true = omega (arith, work_until_step p c e, all)
        go false = omega (arith, work_until_step p c e, all, work_before_child p c e)

    pub work_until_up : (p q : Place) → p.1 ≡ 0 → StandsAt w q p.0 → is_same top p.0 ≡ false → work_until w top q < work_until w top p
    work_until_up p q h e on =
        let over : work_until w top p ≡ weight_until w p + (work_before w top (above w p.0) + 1) = ap (λ b. weight_until w p + cond b 0 (work_before w top (above w p.0) + 1)) on in
        omega (arith, over, work_before_child q p.0 e)
