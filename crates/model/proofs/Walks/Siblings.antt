-- Filtered siblings by place: what the filter shows at the later and at the earlier places up to the cover.
use Rattle.std.proofs.Common.{◌≡◌, ℕ, ◌+◌, ◌<◌, Bool, true, false, cond, not, ◌&&◌, List, [], ◌∷◌, ◌++◌, length, take, drop, suc, zero, refl, sym, ◌∙◌, ap, subst, arith, append_assoc, append-nil, inl, inr, ◌⊎◌, map}
use Rattle.std.specs.Prelude.{Option, Some, None, slice_get, option_and_then, find, filter, reverse, Contains}
use Rattle.std.specs.Bool.{then_some}
use Rattle.std.specs.List.{AllByRecursion}
use Rattle.std.specs.Ordering.{is_lt, ordering_reverse}
use Rattle.std.proofs.lemmas.Cmp.{tied_itself, nat_list_cmp_total}
use Rattle.std.proofs.lemmas.Option.{none-some, same_Some}
use Rattle.std.proofs.lemmas.List.{length-take, reverse-reverse}
use Rattle.std.proofs.lemmas.List.Elements.{filter-append}
use Rattle.model.specs.declared.FullNodeId.{FullNodeId}
use Rattle.model.specs.declared.filters.FilterResult.{FilterResult}
use Rattle.model.specs.declared.filters.FilterResult.TheVariants.{Include, ExcludeNode, ExcludeSubtree}
use Rattle.model.specs.World.{World, children, Place, StandsAt}
use Rattle.model.specs.Forest.{plant, place_of, below, above, is_same, IsFormed}
use Rattle.model.specs.Lists.{IsWithin}
use Rattle.model.specs.Paths.{index_path}
use Rattle.model.specs.Upward.{is_within, is_before}
use Rattle.model.specs.Frontier.{shown_part, frontier, filtered_children, LeadsUpTo}
use Rattle.model.specs.Covers.{is_included, is_left_out, filtered_parent, cover, kindred_nodes, following_filtered_siblings, preceding_filtered_siblings}
use Rattle.model.specs.Beside.{next_place, shown_from, shown_until, after, before, is_not_passed, cover_through, left_at, prior_at, shown_after, shown_before, after_in, before_in}
use Rattle.model.proofs.Forest.Grown.{above_child, above_root}
use Rattle.model.proofs.Forest.PlaceOf.{same_from_test, test_self}
use Rattle.model.proofs.Lists.ListFacts.{path_splits}
use Rattle.model.proofs.Lists.Preorder.{hangs_below, Under, under_child, under_deeper, indices, path_under, all_append, all_weaker, Precedes, before_under, under_before}
use Rattle.model.proofs.Lists.Within.{above_under}
use Rattle.model.proofs.Lists.Shown.{above_parts, At, shown_at, all_below, shown_is}
use Rattle.model.proofs.Forest.WaysUp.{within_is_tested}
use Rattle.model.proofs.Walks.Beside.{splits, after_child, before_child}

-- ---- lists

same_rest : (xs ys zs : List ℕ) → xs ++ ys ≡ xs ++ zs → ys ≡ zs
same_rest [] ys zs e = e
same_rest (x ∷ xs) ys zs e = same_rest xs ys zs (let tails : xs ++ ys ≡ xs ++ zs = cc in tails)

get_take : {A : Type 0} (xs : List A) (k j : ℕ) (c : A) → slice_get (take k xs) j ≡ Some c → slice_get xs j ≡ Some c
get_take xs zero j c e = absurd (none-some c e)
get_take [] (suc k) j c e = e
get_take (x ∷ xs) (suc k) zero c e = e
get_take (x ∷ xs) (suc k) (suc j) c e = get_take xs k j c e

get_drop : {A : Type 0} (xs : List A) (k j : ℕ) (c : A) → slice_get (drop k xs) j ≡ Some c → slice_get xs (k + j) ≡ Some c
get_drop xs zero j c e = let same : 0 + j ≡ j = omega arith in rw same e
get_drop [] (suc k) j c e = absurd (none-some c e)
get_drop (x ∷ xs) (suc k) j c e = let same : suc k + j ≡ suc (k + j) = omega arith in rw same (get_drop xs k j c e)

pub filter_all : {A : Type 0} (p : A → Bool) (xs : List A) → AllByRecursion (λ x. p x ≡ true) xs → filter p xs ≡ xs
filter_all p [] a = refl
filter_all p (x ∷ xs) a = ap (λ b. cond b (x ∷ filter p xs) (filter p xs)) a.0 ∙ ap (λ ys. x ∷ ys) (filter_all p xs a.1)

pub filter_none : {A : Type 0} (p : A → Bool) (xs : List A) → AllByRecursion (λ x. p x ≡ false) xs → filter p xs ≡ []
filter_none p [] a = refl
filter_none p (x ∷ xs) a = ap (λ b. cond b (x ∷ filter p xs) (filter p xs)) a.0 ∙ filter_none p xs a.1

and_not : (a b : Bool) → b ≡ true → (a && not b) ≡ false
and_not true b e = ap not e
and_not false b e = refl

-- ---- the cover, along the way up

module _ (f : FullNodeId → FilterResult) where
  abbrev cover_of : List Place → Option FullNodeId
  cover_of ps = option_and_then (λ a. then_some (is_included (f a)) a) (find (λ a. not (is_left_out (f a))) (map (λ (p : Place). p.0) ps))

  abbrev parent_of : List Place → Option FullNodeId
  parent_of ps = find (λ a. is_included (f a)) (map (λ (p : Place). p.0) ps)

  leads_of : (ps : List Place) (top : FullNodeId) → cover_of ps ≡ Some top → LeadsUpTo f top ps × (f top ≡ Include)
  leads_of [] top h = absurd (none-some top h)
  leads_of (p ∷ up) top h = go (f p.0) refl h (leads_of up top)
    where
      go : (r : FilterResult) → f p.0 ≡ r → option_and_then (λ a. then_some (is_included (f a)) a) (cond (not (is_left_out r)) (Some p.0) (find (λ a. not (is_left_out (f a))) (map (λ (p : Place). p.0) up))) ≡ Some top →
          (cover_of up ≡ Some top → LeadsUpTo f top up × (f top ≡ Include)) → LeadsUpTo f top (p ∷ up) × (f top ≡ Include)
      go Include e h higher =
          let same : p.0 ≡ top = same_Some p.0 top (ap (λ r. then_some (is_included r) p.0) (sym e) ∙ h) in
          (inl same, ap f (sym same) ∙ e)
      go ExcludeNode e h higher = (inr (e, (higher h).0), (higher h).1)
      go ExcludeSubtree e h higher = absurd (none-some top (ap (λ r. then_some (is_included r) p.0) (sym e) ∙ h))

  cover_by : (ps : List Place) (top : FullNodeId) → LeadsUpTo f top ps → f top ≡ Include → (cover_of ps ≡ Some top) × (parent_of ps ≡ Some top)
  cover_by [] top leads kept = absurd leads
  cover_by (p ∷ up) top (inl same) kept =
      let e : f p.0 ≡ Include = ap f same ∙ kept in (
        ap (λ r. option_and_then (λ a. then_some (is_included (f a)) a) (cond (not (is_left_out r)) (Some p.0) (find (λ a. not (is_left_out (f a))) (map (λ (p : Place). p.0) up)))) e
            ∙ ap (λ r. then_some (is_included r) p.0) e ∙ ap Some same,
        ap (λ r. cond (is_included r) (Some p.0) (parent_of up)) e ∙ ap Some same,
      )
  cover_by (p ∷ up) top (inr (out, leads)) kept = (
    ap (λ r. option_and_then (λ a. then_some (is_included (f a)) a) (cond (not (is_left_out r)) (Some p.0) (find (λ a. not (is_left_out (f a))) (map (λ (p : Place). p.0) up)))) out ∙ (cover_by up top leads kept).0,
    ap (λ r. cond (is_included r) (Some p.0) (parent_of up)) out ∙ (cover_by up top leads kept).1,
  )

  pub cover_leads : (w : World) (id top : FullNodeId) → cover f w id ≡ Some top → LeadsUpTo f top (above w id) × (f top ≡ Include)
  cover_leads w id top h = leads_of (above w id) top h

  pub cover_where : (w : World) (id top : FullNodeId) → LeadsUpTo f top (above w id) → f top ≡ Include → cover f w id ≡ Some top
  cover_where w id top leads kept = (cover_by (above w id) top leads kept).0

  -- the cover is the filtered parent
  pub cover_is_parent : (w : World) (id top : FullNodeId) → cover f w id ≡ Some top → filtered_parent f w id ≡ Some top
  cover_is_parent w id top h = let l = cover_leads w id top h in (cover_by (above w id) top l.0 l.1).1

  -- the cover of a child is found at its parent, or is the parent's
  through : (ps : List Place) (p : Place) → cover_of (p ∷ ps) ≡ cover_through (f p.0) p.0 (cover_of ps)
  through ps p = go (f p.0) refl
    where
      go : (r : FilterResult) → f p.0 ≡ r → option_and_then (λ a. then_some (is_included (f a)) a) (cond (not (is_left_out (f p.0))) (Some p.0) (find (λ a. not (is_left_out (f a))) (map (λ (p : Place). p.0) ps))) ≡ cover_through (f p.0) p.0 (cover_of ps)
      go Include e = rw e (ap (λ r. then_some (is_included r) p.0) e)
      go ExcludeNode e = rw e refl
      go ExcludeSubtree e = rw e (ap (λ r. then_some (is_included r) p.0) e)

  pub cover_is_of_parent : (w : World) → IsFormed w → (p : Place) (c : FullNodeId) → StandsAt w p c → cover f w c ≡ cover_through (f p.0) p.0 (cover f w p.0)
  cover_is_of_parent w formed p c e = ap cover_of (above_child w formed p c e) ∙ through (above w p.0) p

  pub cover_of_root : (w : World) → IsFormed w → (c : FullNodeId) → place_of w c ≡ None → cover f w c ≡ None
  cover_of_root w formed c e = ap cover_of (above_root w formed c e)

  -- as far up as nodes are left out alone is up to the cover
  module _ (w : World) (top : FullNodeId) (kept : f top ≡ Include) where
    both_end : (p : Place) → is_same top p.0 ≡ true → is_not_passed f p.0 ≡ true
    both_end p t = ap (λ r. not (is_left_out r)) (ap f (sym (same_from_test top p.0 t)) ∙ kept)

    -- so a walk up ends at the same place by either test
    ends_alike : (join : Place → List FullNodeId → List FullNodeId) (walk : (FullNodeId → Bool) → List Place → List FullNodeId) →
        ((ends : FullNodeId → Bool) (p : Place) (up : List Place) → walk ends (p ∷ up) ≡ join p (cond (ends p.0) [] (walk ends up))) →
        (ps : List Place) → LeadsUpTo f top ps → walk (is_same top) ps ≡ walk (is_not_passed f) ps
    ends_alike join walk steps [] leads = absurd leads
    ends_alike join walk steps (p ∷ up) leads =
        steps (is_same top) p up ∙ ap (join p) (go (is_same top p.0) refl leads (ends_alike join walk steps up)) ∙ sym (steps (is_not_passed f) p up)
      where
        go : (b : Bool) → is_same top p.0 ≡ b → LeadsUpTo f top (p ∷ up) → (LeadsUpTo f top up → walk (is_same top) up ≡ walk (is_not_passed f) up) → cond (is_same top p.0) [] (walk (is_same top) up) ≡ cond (is_not_passed f p.0) [] (walk (is_not_passed f) up)
        go true t leads higher = ap (λ b. cond b [] (walk (is_same top) up)) t ∙ ap (λ b. cond b [] (walk (is_not_passed f) up)) (sym (both_end p t))
        go false t (inl here) higher = absurd (let both : true ≡ false = sym (ap (is_same top) here ∙ test_self top) ∙ t in cc)
        go false t (inr (out, leads)) higher = ap (λ b. cond b [] (walk (is_same top) up)) t ∙ higher leads ∙ ap (λ r. cond (not (is_left_out r)) [] (walk (is_not_passed f) up)) (sym out)

    after_same : (ps : List Place) → LeadsUpTo f top ps → after f w (is_same top) ps ≡ after f w (is_not_passed f) ps
    after_same = ends_alike (λ p later. shown_from f w (next_place p) ++ later) (after f w) (λ ends p up. refl)

    before_same : (ps : List Place) → LeadsUpTo f top ps → before f w (is_same top) ps ≡ before f w (is_not_passed f) ps
    before_same = ends_alike (λ p earlier. earlier ++ shown_until f w p) (before f w) (λ ends p up. refl)

-- ---- the tests of order

pub before_true : (w : World) (a b : FullNodeId) → Precedes w a b → is_before w a b ≡ true
before_true w a b h = ap is_lt h

pub before_false : (w : World) (a b : FullNodeId) → Precedes w b a → is_before w a b ≡ false
before_false w a b h = ap is_lt (nat_list_cmp_total.antisymm (index_path w a) (index_path w b) ∙ ap ordering_reverse h)

pub before_self : (w : World) (a : FullNodeId) → is_before w a a ≡ false
before_self w a = ap is_lt (tied_itself nat_list_cmp_total (index_path w a))

within_false : (w : World) (a b : FullNodeId) → ¬ (IsWithin w a b) → is_within w a b ≡ false
within_false w a b h = go (is_within w a b) refl
  where
    go : (t : Bool) → is_within w a b ≡ t → is_within w a b ≡ false
    go true e = absurd (h ((within_is_tested w a b).0 e))
    go false e = e

within_true : (w : World) (a b : FullNodeId) → IsWithin w a b → is_within w a b ≡ true
within_true w a b h = (within_is_tested w a b).1 h

-- ---- what is shown beside a node, by the order of paths

module _ (f : FullNodeId → FilterResult) (w : World) (formed : IsFormed w) where
  -- below child k of p, or it, and below a later child or it
  apart : (p : FullNodeId) (k : ℕ) (d m : FullNodeId) (u : Under w p k d) → u.index ≡ k → (v : Under w p (suc k) m) → Precedes w d m × ¬ (IsWithin w d m)
  apart p k d m u at v = (under_before w p k d m u at v, outside)
    where
      outside : ¬ (IsWithin w d m)
      outside within =
          let whole : index_path w p ++ v.index ∷ reverse (indices v.inner) ≡ index_path w p ++ (u.index ∷ reverse (indices u.inner) ++ drop (length (above w d)) (index_path w m)) =
          sym (path_under w p (suc k) m v) ∙ path_splits w formed d m within ∙ ap (λ xs. xs ++ drop (length (above w d)) (index_path w m)) (path_under w p k d u)
          ∙ append_assoc (index_path w p) (u.index ∷ reverse (indices u.inner)) (drop (length (above w d)) (index_path w m)) in
          let rest : v.index ∷ reverse (indices v.inner) ≡ u.index ∷ (reverse (indices u.inner) ++ drop (length (above w d)) (index_path w m)) = same_rest (index_path w p) _ _ whole in
          let same : v.index ≡ u.index = cc in
          omega (arith, v.from, same, at)

  -- what is shown of these children, of which the first has index k
  planted_all : (p : FullNodeId) (k : ℕ) (cs : List FullNodeId) → ((j : ℕ) (c : FullNodeId) → slice_get cs j ≡ Some c → StandsAt w (p, k + j) c) →
      AllByRecursion (λ m. (u : Under w p k m) × (u.index < k + length cs)) (frontier f (plant (below w) cs))
  planted_all p k [] stands = tt
  planted_all p k (c ∷ cs) stands =
      let here : k + 0 ≡ k = omega arith in
      all_append (λ m. (u : Under w p k m) × (u.index < k + length (c ∷ cs))) (shown_part (f c) c (filtered_children f w c)) (frontier f (plant (below w) cs))
      (all_weaker (At f w formed p k) (λ m. (u : Under w p k m) × (u.index < k + length (c ∷ cs))) (λ m a. (a.0, omega (arith, a.1))) (shown_part (f c) c (filtered_children f w c))
      (shown_at f w formed p k c (rw here at (stands 0 c refl)) (f c) (filtered_children f w c) (all_below f w formed c 0 (below w c) (hangs_below w c))))
      (all_weaker (λ m. (u : Under w p (suc k) m) × (u.index < suc k + length cs)) (λ m. (u : Under w p k m) × (u.index < k + length (c ∷ cs)))
      (λ m a. (record { inner = a.0.inner; index = a.0.index; from = omega (arith, a.0.from); way = a.0.way }, omega (arith, a.1)))
      (frontier f (plant (below w) cs)) (planted_all p (suc k) cs (λ j d e. let next : k + suc j ≡ suc k + j = omega arith in rw next at (stands (suc j) d e))))

  from_all : (q : Place) → AllByRecursion (Under w q.0 (suc q.1)) (shown_from f w (next_place q))
  from_all q =
      all_weaker (λ m. (u : Under w q.0 (q.1 + 1) m) × (u.index < q.1 + 1 + length (drop (q.1 + 1) (children w q.0)))) (Under w q.0 (suc q.1))
      (λ m a. record { inner = a.0.inner; index = a.0.index; from = omega (arith, a.0.from); way = a.0.way })
      (shown_from f w (next_place q)) (planted_all q.0 (q.1 + 1) (drop (q.1 + 1) (children w q.0)) (λ j c e. get_drop (children w q.0) (q.1 + 1) j c e))

  until_all : (q : Place) → AllByRecursion (λ m. (u : Under w q.0 0 m) × (u.index < q.1)) (shown_until f w q)
  until_all q =
      all_weaker (λ m. (u : Under w q.0 0 m) × (u.index < 0 + length (take q.1 (children w q.0)))) (λ m. (u : Under w q.0 0 m) × (u.index < q.1))
      (λ m a. (a.0, omega (arith, a.1, length-take q.1 (children w q.0))))
      (shown_until f w q) (planted_all q.0 0 (take q.1 (children w q.0)) (λ j c e. let same : 0 + j ≡ j = omega arith in rw same (get_take (children w q.0) q.1 j c e)))

  -- d is c, or lies below it
  abbrev IsIn : FullNodeId → FullNodeId → Type 0
  IsIn c d = (c ≡ d) ⊎ Under w c 0 d

  at_place : (q : Place) (c d : FullNodeId) → StandsAt w q c → IsIn c d → (u : Under w q.0 q.1 d) × (u.index ≡ q.1)
  unfolding under_child under_deeper
  at_place q c d e (inl same) = subst (λ d. (u : Under w q.0 q.1 d) × (u.index ≡ q.1)) same (under_child w formed q.0 q.1 c e, refl)
  at_place q c d e (inr u) = (under_deeper w formed q.0 q.1 c d 0 e u, refl)

  abbrev Follows : FullNodeId → FullNodeId → Type 0
  Follows d m = Precedes w d m × ¬ (IsWithin w d m)

  cond_all : (P : FullNodeId → Type 0) (b : Bool) (xs : List FullNodeId) → AllByRecursion P xs → AllByRecursion P (cond b [] xs)
  cond_all P true xs a = tt
  cond_all P false xs a = a

  lower : (q : Place) (d : FullNodeId) → Under w q.0 q.1 d → Under w q.0 0 d
  lower q d u = record { inner = u.inner; index = u.index; from = omega arith; way = u.way }

  after_all : (ends : FullNodeId → Bool) (ps : List Place) (c d : FullNodeId) → above w c ≡ ps → IsIn c d → AllByRecursion (Follows d) (after f w ends ps)
  after_all ends [] c d e h = tt
  after_all ends (q ∷ up) c d e h =
      let parts = above_parts f w formed c q up e in
      let at = at_place q c d parts.0 h in
      all_append (Follows d) (shown_from f w (next_place q)) (cond (ends q.0) [] (after f w ends up))
      (all_weaker (Under w q.0 (suc q.1)) (Follows d) (λ m v. apart q.0 q.1 d m at.0 at.1 v) (shown_from f w (next_place q)) (from_all q))
      (cond_all (Follows d) (ends q.0) (after f w ends up) (after_all ends up q.0 d parts.1 (inr (lower q d at.0))))

  before_all : (ends : FullNodeId → Bool) (ps : List Place) (c d : FullNodeId) → above w c ≡ ps → IsIn c d → AllByRecursion (λ m. Precedes w m d) (before f w ends ps)
  before_all ends [] c d e h = tt
  before_all ends (q ∷ up) c d e h =
      let parts = above_parts f w formed c q up e in
      let at = at_place q c d parts.0 h in
      all_append (λ m. Precedes w m d) (cond (ends q.0) [] (before f w ends up)) (shown_until f w q)
      (cond_all (λ m. Precedes w m d) (ends q.0) (before f w ends up) (before_all ends up q.0 d parts.1 (inr (lower q d at.0))))
      (all_weaker (λ m. (u : Under w q.0 0 m) × (u.index < q.1)) (λ m. Precedes w m d)
      (λ m a. under_before w q.0 a.0.index m d (record { inner = a.0.inner; index = a.0.index; from = omega arith; way = a.0.way }) refl
      (record { inner = at.0.inner; index = at.0.index; from = omega (arith, at.1, a.1); way = at.0.way }))
      (shown_until f w q) (until_all q))

  self_all : (r : FilterResult) (id : FullNodeId) → AllByRecursion (IsIn id) (shown_part r id (filtered_children f w id))
  self_all Include id = (inl refl, tt)
  self_all ExcludeNode id = all_weaker (Under w id 0) (IsIn id) (λ m u. inr u) (filtered_children f w id) (all_below f w formed id 0 (below w id) (hangs_below w id))
  self_all ExcludeSubtree id = tt

  in_within : (id m : FullNodeId) → IsIn id m → is_within w id m ≡ true
  in_within id m (inl same) = within_true w id m (inl (sym same))
  in_within id m (inr u) = within_true w id m (inr (above_under w formed id m u))

  in_not_before : (id m : FullNodeId) → IsIn id m → is_before w m id ≡ false
  in_not_before id m (inl same) = ap (λ d. is_before w d id) (sym same) ∙ before_self w id
  in_not_before id m (inr u) = before_false w m id (before_under w id 0 m u)

  module _ (ends : FullNodeId → Bool) (id : FullNodeId) where
    pub all_before : AllByRecursion (λ m. is_before w m id ≡ true) (before f w ends (above w id))
    all_before = all_weaker (λ m. Precedes w m id) (λ m. is_before w m id ≡ true) (λ m h. before_true w m id h) (before f w ends (above w id)) (before_all ends (above w id) id id refl (inl refl))

    pub all_after : AllByRecursion (λ m. is_before w m id ≡ false) (after f w ends (above w id))
    all_after = all_weaker (Follows id) (λ m. is_before w m id ≡ false) (λ m h. before_false w m id h.0) (after f w ends (above w id)) (after_all ends (above w id) id id refl (inl refl))

    keeps_after : filter (λ m. is_before w id m && not (is_within w id m)) (before f w ends (above w id) ++ (shown_part (f id) id (filtered_children f w id) ++ after f w ends (above w id))) ≡ after f w ends (above w id)
    keeps_after =
        let p : FullNodeId → Bool = λ m. is_before w id m && not (is_within w id m) in
        filter-append p (before f w ends (above w id)) _
        ∙ ap (λ xs. xs ++ filter p (shown_part (f id) id (filtered_children f w id) ++ after f w ends (above w id)))
        (filter_none p (before f w ends (above w id)) (all_weaker (λ m. Precedes w m id) (λ m. p m ≡ false) (λ m h. ap (λ b. b && not (is_within w id m)) (before_false w id m h)) (before f w ends (above w id)) (before_all ends (above w id) id id refl (inl refl))))
        ∙ filter-append p (shown_part (f id) id (filtered_children f w id)) (after f w ends (above w id))
        ∙ ap (λ xs. xs ++ filter p (after f w ends (above w id)))
        (filter_none p (shown_part (f id) id (filtered_children f w id)) (all_weaker (IsIn id) (λ m. p m ≡ false) (λ m h. and_not (is_before w id m) (is_within w id m) (in_within id m h)) (shown_part (f id) id (filtered_children f w id)) (self_all (f id) id)))
        ∙ filter_all p (after f w ends (above w id)) (all_weaker (Follows id) (λ m. p m ≡ true)
        (λ m h. ap (λ b. b && not (is_within w id m)) (before_true w id m h.0) ∙ ap not (within_false w id m h.1)) (after f w ends (above w id)) (after_all ends (above w id) id id refl (inl refl)))

    keeps_before : filter (λ m. is_before w m id) (before f w ends (above w id) ++ (shown_part (f id) id (filtered_children f w id) ++ after f w ends (above w id))) ≡ before f w ends (above w id)
    keeps_before =
        let p : FullNodeId → Bool = λ m. is_before w m id in
        filter-append p (before f w ends (above w id)) _
        ∙ ap (λ xs. xs ++ filter p (shown_part (f id) id (filtered_children f w id) ++ after f w ends (above w id))) (filter_all p (before f w ends (above w id)) all_before)
        ∙ ap (λ xs. before f w ends (above w id) ++ xs)
        (filter-append p (shown_part (f id) id (filtered_children f w id)) (after f w ends (above w id))
        ∙ ap (λ xs. xs ++ filter p (after f w ends (above w id)))
        (filter_none p (shown_part (f id) id (filtered_children f w id)) (all_weaker (IsIn id) (λ m. p m ≡ false) (λ m h. in_not_before id m h) (shown_part (f id) id (filtered_children f w id)) (self_all (f id) id)))
        ∙ filter_none p (after f w ends (above w id)) all_after)
        ∙ append-nil (before f w ends (above w id))

  -- ---- the siblings

  module _ (id top : FullNodeId) (covers : cover f w id ≡ Some top) where
    kin_is : kindred_nodes f w id ≡ before_in f w top id ++ (shown_part (f id) id (filtered_children f w id) ++ after_in f w top id)
    kin_is = rw covers (sym (splits w formed f top id (cover_leads f w id top covers).0))

    pub following_in : following_filtered_siblings f w id ≡ after_in f w top id
    following_in = ap (filter (λ m. is_before w id m && not (is_within w id m))) kin_is ∙ keeps_after (is_same top) id

    pub preceding_in : preceding_filtered_siblings f w id ≡ reverse (before_in f w top id)
    preceding_in = ap (λ xs. reverse (filter (λ m. is_before w m id) xs)) kin_is ∙ ap reverse (keeps_before (is_same top) id)

    pub following_by_place : following_filtered_siblings f w id ≡ shown_after f w id
    following_by_place = let l = cover_leads f w id top covers in following_in ∙ after_same f w top l.1 (above w id) l.0

    pub preceding_by_place : preceding_filtered_siblings f w id ≡ reverse (shown_before f w id)
    preceding_by_place = let l = cover_leads f w id top covers in preceding_in ∙ ap reverse (before_same f w top l.1 (above w id) l.0)

    -- from the next place on, and before the place
    pub siblings_at : (p : Place) → StandsAt w p id → (following_filtered_siblings f w id ≡ left_at f w (is_same top) (next_place p)) × (preceding_filtered_siblings f w id ≡ reverse (prior_at f w (is_same top) p))
    siblings_at p e = (following_in ∙ after_child w formed f (is_same top) p id e, preceding_in ∙ ap reverse (before_child w formed f (is_same top) p id e))

    -- around an included node they are the cover's filtered children
    pub siblings_around : f id ≡ Include → reverse (preceding_filtered_siblings f w id) ++ id ∷ following_filtered_siblings f w id ≡ filtered_children f w top
    siblings_around kept =
        ap (λ xs. reverse xs ++ id ∷ following_filtered_siblings f w id) preceding_in ∙ ap (λ xs. xs ++ id ∷ following_filtered_siblings f w id) (reverse-reverse (before_in f w top id))
        ∙ ap (λ xs. before_in f w top id ++ id ∷ xs) following_in
        ∙ ap (λ r. before_in f w top id ++ (shown_part r id (filtered_children f w id) ++ after_in f w top id)) (sym kept) ∙ splits w formed f top id (cover_leads f w id top covers).0

  pub none_uncovered : (id : FullNodeId) → cover f w id ≡ None → (following_filtered_siblings f w id ≡ []) × (preceding_filtered_siblings f w id ≡ [])
  none_uncovered id none = (rw none refl, rw none refl)

  -- an included node covers its filtered children
  pub covers_shown : (top id : FullNodeId) → f top ≡ Include → Contains (filtered_children f w top) id → cover f w id ≡ Some top
  covers_shown top id kept m = cover_where f w id top ((shown_is f w formed top id).0 m).1 kept
