-- How the list that a walk has left changes with its ends.
use Rattle.std.proofs.Common.{◌≡◌, ◌≢◌, ℕ, ◌+◌, ◌-◌, ◌<◌, ◌≤◌, Bool, true, false, ◌||◌, List, [], ◌∷◌, ◌++◌, length, suc, zero, refl, sym, ◌∙◌, ap, subst, arith, length-append, append-nil, append_assoc, inl, inr, map}
use Rattle.std.specs.Prelude.{Option, Some, None, slice_get, slice_range, Contains}
use Rattle.std.specs.List.{list_any}
use Rattle.std.proofs.Math.Seq.{take-append_seam}
use Rattle.std.proofs.lemmas.Option.{none-some, slice_get_within}
use Rattle.std.proofs.lemmas.List.Elements.{Contains-append_right}
use Rattle.model.specs.declared.FullNodeId.{FullNodeId}
use Rattle.model.specs.declared.filters.FilterResult.{FilterResult}
use Rattle.model.specs.declared.filters.FilterResult.TheVariants.{Include, ExcludeNode, ExcludeSubtree}
use Rattle.model.specs.World.{World, children, Place, child_at, StandsAt}
use Rattle.model.specs.Forest.{above, place_of, is_same, IsFormed}
use Rattle.model.specs.Lists.{ancestors, IsWithin}
use Rattle.model.specs.Paths.{depth}
use Rattle.model.specs.Upward.{is_within}
use Rattle.model.specs.Frontier.{shown_part, filtered_children, LeadsUpTo, IsShown}
use Rattle.model.specs.Beside.{next_place, left_at, prior_at, after_in, before_in, is_below, Spans, items_between, HasNext, HasPrevious, work_from, work_until}
use Rattle.model.proofs.Forest.Grown.{above_child, depth_child}
use Rattle.model.proofs.Forest.PlaceOf.{stands_at_place, same_from_test, test_self}
use Rattle.model.proofs.Forest.Climbs.{within_child, within_both, within_deeper}
use Rattle.model.proofs.Members.{contains_first}
use Rattle.model.proofs.Lists.Ranges.{behind, none_between, range_first, range_last}
use Rattle.model.proofs.Lists.Shown.{shown_is}
use Rattle.model.proofs.Forest.WaysUp.{within_is_tested}
use Rattle.model.proofs.Walks.Beside.{below_is_other, splits, splits_at, after_child, left_include, left_skip, left_descend, left_up, left_end, left_root, before_child, prior_include, prior_skip, prior_descend, prior_up, prior_end, prior_root, work_from_step, work_from_descend, work_from_up, work_until_step, work_until_descend, work_until_up}

-- the middle of three lists
middle : {A : Type 0} (xs ys zs : List A) (a b : ℕ) → a ≡ length xs → b ≡ length xs + length ys → slice_range (xs ++ (ys ++ zs)) a b ≡ ys
middle [] [] zs a b e h = rw (e, h) refl
middle [] (y ∷ ys) zs a b e h =
    let long : b - a ≡ suc (length ys) = omega (arith, e, h) in
    rw (long, e) (ap (λ us. y ∷ us) (take-append_seam ys zs))
middle (x ∷ xs) ys zs a b e h =
    let c : ℕ = length xs in
    let d : ℕ = length xs + length ys in
    let from : a ≡ suc c = omega (arith, e) in
    let long : b - a ≡ d - c = omega (arith, e, h) in
    rw (long, from) (middle xs ys zs c d refl refl)

module _ (w : World) (formed : IsFormed w) (top : FullNodeId) where
  -- ---- what stays true of the places of a walk, whatever the filter answers

  pub below_is_within : (p : Place) (c : FullNodeId) → StandsAt w p c → is_below w top c ≡ is_within w top p.0
  below_is_within p c e = ap (λ (ps : List Place). list_any (is_same top) (map (λ (q : Place). q.0) ps)) (above_child w formed p c e)

  pub within_top : is_within w top top ≡ true
  within_top = ap (λ b. b || list_any (is_same top) (ancestors w top)) (test_self top)

  or_right : (a b : Bool) → b ≡ true → (a || b) ≡ true
  or_right true b e = refl
  or_right false b e = e

  or_other : (a b : Bool) → (a || b) ≡ true → a ≡ false → b ≡ true
  or_other true b e n = absurd (let both : true ≡ false = n in cc)
  or_other false b e n = e

  -- down
  pub child_within : (p : Place) (c : FullNodeId) → StandsAt w p c → is_within w top p.0 ≡ true → is_within w top c ≡ true
  child_within p c e h = or_right (is_same top c) (is_below w top c) (below_is_within p c e ∙ h)

  pub child_is_other : (p : Place) (c : FullNodeId) → StandsAt w p c → is_within w top p.0 ≡ true → is_same top c ≡ false
  child_is_other p c e h = below_is_other w formed top p c e ((within_is_tested w top p.0).0 h)

  -- up
  pub parent_within : (q : Place) (c : FullNodeId) → StandsAt w q c → is_within w top c ≡ true → is_same top c ≡ false → is_within w top q.0 ≡ true
  parent_within q c e h n = sym (below_is_within q c e) ∙ or_other (is_same top c) (is_below w top c) h n

  -- the parent of a node that the node is, or is below, is above the node
  pub above_is_below : (middle : FullNodeId) (id : FullNodeId) (k : ℕ) → StandsAt w (top, k) middle → is_within w middle id ≡ true → is_below w top id ≡ true
  above_is_below middle id k e h = or_other (is_same top id) (is_below w top id) ((within_is_tested w top id).1 (within_both w formed top middle id (within_child w formed top (top, k) middle e (inl refl)) inside)) (go (is_same top id) refl)
    where
      inside : IsWithin w middle id
      inside = (within_is_tested w middle id).0 h

      deep : depth w top < depth w id
      deep = elim (within_deeper w formed middle id inside) [
        | inl same ↦ omega (arith, depth_child w formed (top, k) middle e, ap (depth w) same)
        | inr less ↦ omega (arith, depth_child w formed (top, k) middle e)
      ]

      go : (b : Bool) → is_same top id ≡ b → is_same top id ≡ false
      go true t = absurd (omega (arith, ap (depth w) (same_from_test top id t), deep))
      go false t = t

module _ (w : World) (formed : IsFormed w) (f : FullNodeId → FilterResult) (top : FullNodeId) where
  -- ---- where a node stands in what is shown

  abbrev at : FullNodeId → ℕ
  at c = length (before_in f w top c)

  all_contains : (xs ys : List FullNodeId) (c : FullNodeId) → filtered_children f w top ≡ xs ++ c ∷ ys → Contains (filtered_children f w top) c
  all_contains xs ys c e = rw e (Contains-append_right xs (c ∷ ys) c (contains_first c ys))

  pub shown_where : (xs ys : List FullNodeId) (c : FullNodeId) → filtered_children f w top ≡ xs ++ c ∷ ys → IsShown f w top c
  shown_where xs ys c e = (shown_is f w formed top c).0 (all_contains xs ys c e)

  at_shown : (c : FullNodeId) → IsShown f w top c → slice_get (filtered_children f w top) (at c) ≡ Some c
  at_shown c s = ap (λ xs. slice_get xs (at c)) (sym (splits_at w formed f top c s)) ∙ behind (before_in f w top c) c (after_in f w top c)

  counted : (c : FullNodeId) → IsShown f w top c → at c + 1 + length (after_in f w top c) ≡ length (filtered_children f w top)
  counted c s = omega (arith, ap length (splits_at w formed f top c s), length-append (before_in f w top c) (c ∷ after_in f w top c))

  differ : (c b : FullNodeId) → Spans f w top c b → c ≢ b → at c < at b
  differ c b s ne =
      let apart : at c ≢ at b = λ e. let same : Some c ≡ Some b = sym (at_shown c s.first) ∙ ap (slice_get (filtered_children f w top)) e ∙ at_shown b s.last in ne cc in
      omega (arith, s.order)

  -- a shown node's later neighbour is shown, and so is its earlier one
  pub next_is_shown : (c d : FullNodeId) → IsShown f w top c → after_in f w top c ≡ d ∷ after_in f w top d → IsShown f w top d
  next_is_shown c d s e =
      shown_where (before_in f w top c ++ c ∷ []) (after_in f w top d) d
      (sym (splits_at w formed f top c s) ∙ ap (λ xs. before_in f w top c ++ c ∷ xs) e ∙ sym (append_assoc (before_in f w top c) (c ∷ []) (d ∷ after_in f w top d)))

  pub previous_is_shown : (b e : FullNodeId) → IsShown f w top b → before_in f w top b ≡ before_in f w top e ++ e ∷ [] → IsShown f w top e
  previous_is_shown b e s h =
      shown_where (before_in f w top e) (b ∷ after_in f w top b) e
      (sym (splits_at w formed f top b s) ∙ ap (λ xs. xs ++ b ∷ after_in f w top b) h ∙ append_assoc (before_in f w top e) (e ∷ []) (b ∷ after_in f w top b))

  -- ---- one item from the front

  pub last_one : (c b : FullNodeId) → Spans f w top c b → c ≡ b → items_between f w top c b ≡ c ∷ []
  last_one c b s e =
      let here : at c ≡ at b = ap at e in
      range_first (filtered_children f w top) (at c) (at b + 1) c (omega arith) (at_shown c s.first)
      ∙ ap (λ k. c ∷ slice_range (filtered_children f w top) (k + 1) (at b + 1)) here
      ∙ ap (λ xs. c ∷ xs) (none_between (filtered_children f w top) (at b + 1))

  next_at : (c d : FullNodeId) → IsShown f w top c → after_in f w top c ≡ d ∷ after_in f w top d → at d ≡ at c + 1
  next_at c d p e = omega (arith, counted c p, counted d (next_is_shown c d p e), ap length e)

  pub first_off : (c b d : FullNodeId) → Spans f w top c b → c ≢ b → after_in f w top c ≡ d ∷ after_in f w top d → Spans f w top d b × (items_between f w top c b ≡ c ∷ items_between f w top d b)
  first_off c b d s ne e = (
    record { first = next_is_shown c d s.first e; last = s.last; order = omega (arith, differ c b s ne, next_at c d s.first e) },
    range_first (filtered_children f w top) (at c) (at b + 1) c (omega (arith, differ c b s ne)) (at_shown c s.first)
        ∙ ap (λ k. c ∷ slice_range (filtered_children f w top) k (at b + 1)) (sym (next_at c d s.first e)),
  )

  pub not_stuck : (c b : FullNodeId) → Spans f w top c b → c ≢ b → after_in f w top c ≢ []
  not_stuck c b s ne e = omega (arith, differ c b s ne, counted c s.first, counted b s.last, ap length e)

  -- ---- and from the back

  pub last_one_back : (c b : FullNodeId) → Spans f w top c b → c ≡ b → items_between f w top c b ≡ [] ++ b ∷ []
  last_one_back c b s e = last_one c b s e ∙ ap (λ x. x ∷ []) e

  previous_at : (b e : FullNodeId) → before_in f w top b ≡ before_in f w top e ++ e ∷ [] → at b ≡ at e + 1
  previous_at b e h = omega (arith, ap length h, length-append (before_in f w top e) (e ∷ []))

  pub last_off : (c b e : FullNodeId) → Spans f w top c b → c ≢ b → before_in f w top b ≡ before_in f w top e ++ e ∷ [] → Spans f w top c e × (items_between f w top c b ≡ items_between f w top c e ++ b ∷ [])
  last_off c b e s ne h =
      let end : at b + 1 - 1 ≡ at b = omega arith in
      let there : slice_get (filtered_children f w top) (at b + 1 - 1) ≡ Some b = ap (slice_get (filtered_children f w top)) end ∙ at_shown b s.last in (
        record { first = s.first; last = previous_is_shown b e s.last h; order = omega (arith, differ c b s ne, previous_at b e h) },
        range_last (filtered_children f w top) (at c) (at b + 1) b (omega (arith, s.order)) there
            ∙ ap (λ k. slice_range (filtered_children f w top) (at c) k ++ b ∷ []) (end ∙ previous_at b e h),
      )

  pub not_stuck_back : (c b : FullNodeId) → Spans f w top c b → c ≢ b → before_in f w top b ≢ []
  not_stuck_back c b s ne e = omega (arith, differ c b s ne, ap length e)

  -- ---- where walks start

  -- from the first that is shown after some, to the last before others: what is between
  pub spans_where : (xs ys zs : List FullNodeId) (c b : FullNodeId) → filtered_children f w top ≡ xs ++ (ys ++ zs) → ys ++ zs ≡ c ∷ after_in f w top c → xs ++ ys ≡ before_in f w top b ++ b ∷ [] → 0 < length ys →
      Spans f w top c b × (items_between f w top c b ≡ ys)
  spans_where xs ys zs c b whole front back some =
      let front_shown : IsShown f w top c = shown_where xs (after_in f w top c) c (whole ∙ ap (λ us. xs ++ us) front) in
      let back_shown : IsShown f w top b = shown_where (before_in f w top b) zs b (whole ∙ sym (append_assoc xs ys zs) ∙ ap (λ us. us ++ zs) back ∙ append_assoc (before_in f w top b) (b ∷ []) zs) in
      let from : at c ≡ length xs = omega (arith, counted c front_shown, ap length front, ap length whole, length-append xs (ys ++ zs)) in
      let to : at b + 1 ≡ length xs + length ys = omega (arith, ap length back, length-append (before_in f w top b) (b ∷ []), length-append xs ys) in (
        record { first = front_shown; last = back_shown; order = omega (arith, from, to) },
        ap (λ us. slice_range us (at c) (at b + 1)) whole ∙ middle xs ys zs (at c) (at b + 1) from to,
      )

  -- filtered children: all that is shown
  pub all_between : (c b : FullNodeId) → filtered_children f w top ≡ c ∷ after_in f w top c → filtered_children f w top ≡ before_in f w top b ++ b ∷ [] →
      Spans f w top c b × (items_between f w top c b ≡ filtered_children f w top)
  all_between c b front back =
      spans_where [] (filtered_children f w top) [] c b (sym (append-nil (filtered_children f w top))) (append-nil (filtered_children f w top) ∙ front) back (omega (arith, ap length front))

  module _ (id : FullNodeId) (leads : LeadsUpTo f top (above w id)) where
    abbrev self_shown : List FullNodeId
    self_shown = shown_part (f id) id (filtered_children f w id)

    -- following siblings: from the first after the node to the last of all
    pub after_between : (c b : FullNodeId) → after_in f w top id ≡ c ∷ after_in f w top c → filtered_children f w top ≡ before_in f w top b ++ b ∷ [] →
        Spans f w top c b × (items_between f w top c b ≡ after_in f w top id)
    after_between c b front back =
        let parts : filtered_children f w top ≡ (before_in f w top id ++ self_shown) ++ (after_in f w top id ++ []) =
        sym (splits w formed f top id leads) ∙ sym (append_assoc (before_in f w top id) self_shown (after_in f w top id)) ∙ ap (λ us. (before_in f w top id ++ self_shown) ++ us) (sym (append-nil (after_in f w top id))) in
        spans_where (before_in f w top id ++ self_shown) (after_in f w top id) [] c b parts (append-nil (after_in f w top id) ∙ front)
        (ap (λ us. (before_in f w top id ++ self_shown) ++ us) (sym (append-nil (after_in f w top id))) ∙ sym parts ∙ back) (omega (arith, ap length front))

    -- preceding siblings: from the first of all to the last before the node
    pub before_between : (c b : FullNodeId) → filtered_children f w top ≡ c ∷ after_in f w top c → before_in f w top id ≡ before_in f w top b ++ b ∷ [] →
        Spans f w top c b × (items_between f w top c b ≡ before_in f w top id)
    before_between c b front back =
        let whole : filtered_children f w top ≡ before_in f w top id ++ (self_shown ++ after_in f w top id) = sym (splits w formed f top id leads) in
        spans_where [] (before_in f w top id) (self_shown ++ after_in f w top id) c b whole (sym whole ∙ front) back
        (omega (arith, ap length back, length-append (before_in f w top b) (b ∷ [])))

    nil_of : (xs : List FullNodeId) → length xs ≡ 0 → xs ≡ []
    nil_of [] e = refl
    nil_of (x ∷ xs) e = absurd (omega (arith, e))

    -- where nothing is shown below top, nothing is shown beside the node
    pub none_beside : filtered_children f w top ≡ [] → (after_in f w top id ≡ []) × (before_in f w top id ≡ [])
    none_beside none = (
      nil_of (after_in f w top id) (omega (
        arith,
        ap length (splits w formed f top id leads),
        ap length none,
        length-append (before_in f w top id) (self_shown ++ after_in f w top id),
        length-append self_shown (after_in f w top id),
      )),
      nil_of (before_in f w top id) (omega (
        arith,
        ap length (splits w formed f top id leads),
        ap length none,
        length-append (before_in f w top id) (self_shown ++ after_in f w top id),
      )),
    )

  -- ---- from each place there is a next item, or none, and before it a last one

  past_of : {A : Type 0} (xs : List A) (i : ℕ) → slice_get xs i ≡ None → length xs ≤ i
  past_of [] i e = omega arith
  past_of (x ∷ xs) zero e = absurd (none-some x (sym e))
  past_of (x ∷ xs) (suc i) e = omega (arith, past_of xs i e)

  moved_on : (p r : Place) → left_at f w (is_same top) p ≡ left_at f w (is_same top) r → HasNext f w top r → HasNext f w top p
  moved_on p r e (inl none) = inl (e ∙ none)
  moved_on p r e (inr h) = inr (h.0, h.1, h.2, h.3, h.4, e ∙ h.5)

  module _ (p : Place) (within : is_within w top p.0 ≡ true) (deeper : (r : Place) → work_from w top r < work_from w top p → is_within w top r.0 ≡ true → HasNext f w top r) where
    next_by_answer : (c : FullNodeId) → StandsAt w p c → (r : FilterResult) → f c ≡ r → HasNext f w top p
    next_by_answer c e Include kept = inr (p, c, e, within, kept, left_include w formed f (is_same top) p c e kept ∙ ap (λ xs. c ∷ xs) (after_child w formed f (is_same top) p c e))
    next_by_answer c e ExcludeNode out =
        moved_on p (c, 0) (left_descend w formed f (is_same top) p c e out (child_is_other w formed top p c e within))
        (deeper (c, 0) (work_from_descend w formed top p c e) (child_within w formed top p c e within))
    next_by_answer c e ExcludeSubtree cut = moved_on p (next_place p) (left_skip w formed f (is_same top) p c e cut) (deeper (next_place p) (omega (arith, work_from_step w formed top p c e)) within)

    next_by_place : length (children w p.0) ≤ p.1 → is_same top p.0 ≡ false → (o : Option Place) → place_of w p.0 ≡ o → HasNext f w top p
    next_by_place past other None e = inl (left_root w formed f (is_same top) p past e)
    next_by_place past other (Some q) e =
        let stands : StandsAt w q p.0 = stands_at_place w p.0 q e in
        moved_on p (next_place q) (left_up w formed f (is_same top) p q past stands other) (deeper (next_place q) (work_from_up w formed top p q past stands other) (parent_within w formed top q p.0 stands within other))

    next_by_top : length (children w p.0) ≤ p.1 → (b : Bool) → is_same top p.0 ≡ b → HasNext f w top p
    next_by_top past true t = inl (left_end w formed f (is_same top) p past t)
    next_by_top past false t = next_by_place past t (place_of w p.0) refl

    next_by_child : (o : Option FullNodeId) → child_at w p ≡ o → HasNext f w top p
    next_by_child (Some c) e = next_by_answer c e (f c) refl
    next_by_child None e = next_by_top (past_of (children w p.0) p.1 e) (is_same top p.0) refl

  next_up_to : (n : ℕ) (p : Place) → work_from w top p < n → is_within w top p.0 ≡ true → HasNext f w top p
  next_up_to zero p less within = absurd (omega arith)
  next_up_to (suc n) p less within = next_by_child p within (λ r nearer inside. next_up_to n r (omega arith) inside) (child_at w p) refl

  pub next_there : (p : Place) → is_within w top p.0 ≡ true → HasNext f w top p
  next_there p within = next_up_to (work_from w top p + 1) p (omega arith) within

  -- the same backwards: p is a place with earlier ones, that is one after a child, or the first of a parent
  moved_back : (p r : Place) → prior_at f w (is_same top) p ≡ prior_at f w (is_same top) r → HasPrevious f w top r → HasPrevious f w top p
  moved_back p r e (inl none) = inl (e ∙ none)
  moved_back p r e (inr h) = inr (h.0, h.1, h.2, h.3, h.4, e ∙ h.5)

  module _ (p : Place) (within : is_within w top p.0 ≡ true) where
    previous_by_answer : ((r : Place) → r.1 ≤ length (children w r.0) → work_until w top r < work_until w top (next_place p) → is_within w top r.0 ≡ true → HasPrevious f w top r) → (c : FullNodeId) → StandsAt w p c → (r : FilterResult) → f c ≡ r → HasPrevious f w top (next_place p)
    previous_by_answer deeper c e Include kept = inr (p, c, e, within, kept, prior_include w formed f (is_same top) p c e kept ∙ ap (λ xs. xs ++ c ∷ []) (before_child w formed f (is_same top) p c e))
    previous_by_answer deeper c e ExcludeNode out =
        moved_back (next_place p) (c, length (children w c)) (prior_descend w formed f (is_same top) p c e out (child_is_other w formed top p c e within))
        (deeper (c, length (children w c)) (omega arith) (work_until_descend w formed top p c e) (child_within w formed top p c e within))
    previous_by_answer deeper c e ExcludeSubtree cut =
        moved_back (next_place p) p (prior_skip w formed f (is_same top) p c e cut) (deeper p (omega (arith, slice_get_within (children w p.0) p.1 c e)) (omega (arith, work_until_step w formed top p c e)) within)

    previous_by_place : ((r : Place) → r.1 ≤ length (children w r.0) → work_until w top r < work_until w top p → is_within w top r.0 ≡ true → HasPrevious f w top r) → p.1 ≡ 0 → is_same top p.0 ≡ false → (o : Option Place) → place_of w p.0 ≡ o → HasPrevious f w top p
    previous_by_place deeper start other None e = inl (prior_root w formed f (is_same top) p start e)
    previous_by_place deeper start other (Some q) e =
        let stands : StandsAt w q p.0 = stands_at_place w p.0 q e in
        moved_back p q (prior_up w formed f (is_same top) p q start stands other)
        (deeper q (omega (arith, slice_get_within (children w q.0) q.1 p.0 stands)) (work_until_up w formed top p q start stands other) (parent_within w formed top q p.0 stands within other))

    previous_by_top : ((r : Place) → r.1 ≤ length (children w r.0) → work_until w top r < work_until w top p → is_within w top r.0 ≡ true → HasPrevious f w top r) → p.1 ≡ 0 → (b : Bool) → is_same top p.0 ≡ b → HasPrevious f w top p
    previous_by_top deeper start true t = inl (prior_end w formed f (is_same top) p start t)
    previous_by_top deeper start false t = previous_by_place deeper start t (place_of w p.0) refl

  one_there : {A : Type 0} (xs : List A) (i : ℕ) → i < length xs → (x : A) × (slice_get xs i ≡ Some x)
  one_there [] i less = absurd (omega arith)
  one_there (x ∷ xs) zero less = (x, refl)
  one_there (x ∷ xs) (suc i) less = one_there xs i (omega arith)

  previous_up_to : (n : ℕ) (c : FullNodeId) (k : ℕ) → k ≤ length (children w c) → work_until w top (c, k) < n → is_within w top c ≡ true → HasPrevious f w top (c, k)
  previous_up_to zero c k in_it less within = absurd (omega arith)
  previous_up_to (suc n) c zero in_it less within =
      previous_by_top (c, 0) within (λ r inside nearer deep. previous_up_to n r.0 r.1 inside (omega arith) deep) refl (is_same top c) refl
  previous_up_to (suc n) c (suc k) in_it less within =
      let there = one_there (children w c) k (omega arith) in
      let same : k + 1 ≡ suc k = omega arith in
      subst (λ m. HasPrevious f w top (c, m)) same
      (previous_by_answer (c, k) within (λ r inside nearer deep. previous_up_to n r.0 r.1 inside (omega (arith, nearer, ap (λ m. work_until w top (c, m)) same)) deep) there.0 there.1 (f there.0) refl)

  pub previous_there : (p : Place) → p.1 ≤ length (children w p.0) → is_within w top p.0 ≡ true → HasPrevious f w top p
  previous_there p inside within = previous_up_to (work_until w top p + 1) p.0 p.1 inside (omega arith) within
