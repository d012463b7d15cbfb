-- How what a walk in pre-order has left changes with its ends.
use Rattle.std.proofs.Common.{◌≡◌, ◌≢◌, ℕ, ◌+◌, ◌-◌, ◌<◌, ◌≤◌, true, List, [], ◌∷◌, ◌++◌, length, sym, ◌∙◌, ap, arith, length-append, append_assoc}
use Rattle.std.specs.Prelude.{Option, Some, None, slice_get, slice_range, MatchOption, IfSome}
use Rattle.std.proofs.Math.Seq.{take-length}
use Rattle.model.specs.declared.FullNodeId.{FullNodeId}
use Rattle.model.specs.declared.filters.FilterResult.{FilterResult}
use Rattle.model.specs.World.{World, Place, StandsAt, children}
use Rattle.model.specs.Upward.{is_within}
use Rattle.model.specs.Forest.{is_same as is_same_id, IsFormed}
use Rattle.model.specs.Beside.{after_in, left_at, is_below, work_from}
use Rattle.model.proofs.Lists.Ranges.{behind, none_between, range_first, range_last}
use Rattle.model.proofs.Walks.Beside.{start_left, work_from_descend}
use Rattle.model.proofs.Walks.Between.{below_is_within}
use Rattle.views.specs.declared.walks.spot.Spot.{Spot}
use Rattle.views.specs.Spots.{IsSpot, place_at}
use Rattle.views.specs.Descendants.{filtered_descendants}
use Rattle.views.specs.Descents.{earlier_in, later_in, earlier_at, IsAmong, SpansAll, all_between}
use Rattle.views.proofs.Descending.{earlier_child, first_opened, none_opened, last_inside, among_where}

-- the parent of a node below top lies within top
pub parent_of_below : (w : World) → IsFormed w → (top : FullNodeId) (p : Place) (c : FullNodeId) → StandsAt w p c → is_below w top c ≡ true → is_within w top p.0 ≡ true
parent_of_below w formed top p c e below = sym (below_is_within w formed top p c e) ∙ below

-- inside the next node less work is left
pub next_works : (w : World) → IsFormed w → (top id : FullNodeId) (o : Option Spot) → IfSome o (IsSpot w) → IfSome o (λ r. work_from w top (place_at r) ≤ work_from w top (id, 0)) →
    IfSome o (λ r. work_from w top (r.member.id, 0) < work_from w top (id, 0))
next_works w formed top id None there ahead = tt
next_works w formed top id (Some r) there ahead = omega (arith, ahead, work_from_descend w formed top (place_at r) r.member.id there.stands)

-- before a node is before its place
pub before_place : (w : World) → IsFormed w → (f : FullNodeId → FilterResult) (top : FullNodeId) (p : Place) (c : FullNodeId) → StandsAt w p c → (o : Option Spot) →
    MatchOption o (earlier_at f w top p ≡ []) (λ r. earlier_at f w top p ≡ earlier_in f w top r.member.id ++ r.member.id ∷ []) →
    MatchOption o (earlier_in f w top c ≡ []) (λ r. earlier_in f w top c ≡ earlier_in f w top r.member.id ++ r.member.id ∷ [])
before_place w formed f top p c e None h = earlier_child f w formed top p c e ∙ h
before_place w formed f top p c e (Some r) h = earlier_child f w formed top p c e ∙ h

whole_range : {A : Type 0} (xs : List A) (a b : ℕ) → a ≡ 0 → b ≡ length xs → slice_range xs a b ≡ xs
whole_range xs a b e h = let long : b - a ≡ length xs = omega (arith, e, h) in rw (long, e) (take-length xs)

module _ (w : World) (formed : IsFormed w) (f : FullNodeId → FilterResult) (top : FullNodeId) where
  -- ---- where a node stands in what is shown

  abbrev at : FullNodeId → ℕ
  at c = length (earlier_in f w top c)

  abbrev all : List FullNodeId
  all = filtered_descendants f w top

  at_shown : (c : FullNodeId) → IsAmong f w top c → slice_get all (at c) ≡ Some c
  at_shown c s = ap (λ xs. slice_get xs (at c)) (sym s) ∙ behind (earlier_in f w top c) c (later_in f w top c)

  counted : (c : FullNodeId) → IsAmong f w top c → at c + 1 + length (later_in f w top c) ≡ length all
  counted c s = omega (arith, ap length s, length-append (earlier_in f w top c) (c ∷ later_in f w top c))

  differ : (c b : FullNodeId) → SpansAll f w top c b → c ≢ b → at c < at b
  differ c b s ne =
      let apart : at c ≢ at b = λ e. let same : Some c ≡ Some b = sym (at_shown c s.first) ∙ ap (slice_get all) e ∙ at_shown b s.last in ne cc in
      omega (arith, s.order)

  next_is_among : (c d : FullNodeId) → IsAmong f w top c → later_in f w top c ≡ d ∷ later_in f w top d → IsAmong f w top d
  next_is_among c d s e =
      among_where f w formed top (earlier_in f w top c ++ c ∷ []) (later_in f w top d) d
      (sym s ∙ ap (λ xs. earlier_in f w top c ++ c ∷ xs) e ∙ sym (append_assoc (earlier_in f w top c) (c ∷ []) (d ∷ later_in f w top d)))

  previous_is_among : (b e : FullNodeId) → IsAmong f w top b → earlier_in f w top b ≡ earlier_in f w top e ++ e ∷ [] → IsAmong f w top e
  previous_is_among b e s h =
      among_where f w formed top (earlier_in f w top e) (b ∷ later_in f w top b) e
      (sym s ∙ ap (λ xs. xs ++ b ∷ later_in f w top b) h ∙ append_assoc (earlier_in f w top e) (e ∷ []) (b ∷ later_in f w top b))

  -- ---- one item from the front

  pub only_one : (c b : FullNodeId) → SpansAll f w top c b → c ≡ b → all_between f w top c b ≡ c ∷ []
  only_one c b s e =
      let here : at c ≡ at b = ap at e in
      range_first all (at c) (at b + 1) c (omega arith) (at_shown c s.first) ∙ ap (λ k. c ∷ slice_range all (k + 1) (at b + 1)) here ∙ ap (λ xs. c ∷ xs) (none_between all (at b + 1))

  next_at : (c d : FullNodeId) → IsAmong f w top c → later_in f w top c ≡ d ∷ later_in f w top d → at d ≡ at c + 1
  next_at c d s e = omega (arith, counted c s, counted d (next_is_among c d s e), ap length e)

  pub first_taken : (c b : FullNodeId) → c ≢ b → (o : Option Spot) → MatchOption o (later_in f w top c ≡ []) (λ r. later_in f w top c ≡ r.member.id ∷ later_in f w top r.member.id) → SpansAll f w top c b →
      MatchOption o (all_between f w top c b ≡ c ∷ []) (λ r. SpansAll f w top r.member.id b × (all_between f w top c b ≡ c ∷ all_between f w top r.member.id b))
  first_taken c b ne None e s = absurd (omega (arith, differ c b s ne, counted c s.first, counted b s.last, ap length e))
  first_taken c b ne (Some r) e s = (
    record { first = next_is_among c r.member.id s.first e; last = s.last; order = omega (arith, differ c b s ne, next_at c r.member.id s.first e) },
    range_first all (at c) (at b + 1) c (omega (arith, differ c b s ne)) (at_shown c s.first) ∙ ap (λ k. c ∷ slice_range all k (at b + 1)) (sym (next_at c r.member.id s.first e)),
  )

  -- ---- and from the back

  pub only_one_back : (c b : FullNodeId) → SpansAll f w top c b → c ≡ b → all_between f w top c b ≡ [] ++ b ∷ []
  only_one_back c b s e = only_one c b s e ∙ ap (λ x. x ∷ []) e

  previous_at : (b e : FullNodeId) → earlier_in f w top b ≡ earlier_in f w top e ++ e ∷ [] → at b ≡ at e + 1
  previous_at b e h = omega (arith, ap length h, length-append (earlier_in f w top e) (e ∷ []))

  pub last_taken : (c b : FullNodeId) → c ≢ b → (o : Option Spot) → MatchOption o (earlier_in f w top b ≡ []) (λ r. earlier_in f w top b ≡ earlier_in f w top r.member.id ++ r.member.id ∷ []) → SpansAll f w top c b →
      MatchOption o (all_between f w top c b ≡ [] ++ b ∷ []) (λ r. SpansAll f w top c r.member.id × (all_between f w top c b ≡ all_between f w top c r.member.id ++ b ∷ []))
  last_taken c b ne None e s = absurd (omega (arith, differ c b s ne, ap length e))
  last_taken c b ne (Some r) h s =
      let end : at b + 1 - 1 ≡ at b = omega arith in
      let there : slice_get all (at b + 1 - 1) ≡ Some b = ap (slice_get all) end ∙ at_shown b s.last in (
        record { first = s.first; last = previous_is_among b r.member.id s.last h; order = omega (arith, differ c b s ne, previous_at b r.member.id h) },
        range_last all (at c) (at b + 1) b (omega (arith, s.order)) there ∙ ap (λ k. slice_range all (at c) k ++ b ∷ []) (end ∙ previous_at b r.member.id h),
      )

  -- ---- where a walk starts

  pub nothing_inside : left_at f w (is_same_id top) (top, 0) ≡ [] → all ≡ []
  nothing_inside e = none_opened f w formed top (sym (start_left w formed f top) ∙ e)

  pub nothing_before : (n : ℕ) → n ≡ length (children w top) → earlier_at f w top (top, n) ≡ [] → all ≡ []
  nothing_before n h e = sym (last_inside f w formed top) ∙ sym (ap (λ n. earlier_at f w top (top, n)) h) ∙ e

  pub all_are_between : (n : ℕ) (c b : FullNodeId) → n ≡ length (children w top) → left_at f w (is_same_id top) (top, 0) ≡ c ∷ after_in f w top c → earlier_at f w top (top, n) ≡ earlier_in f w top b ++ b ∷ [] →
      SpansAll f w top c b × (all_between f w top c b ≡ all)
  all_are_between n c b h first last =
      let front : all ≡ c ∷ later_in f w top c = first_opened f w formed top c (sym (start_left w formed f top) ∙ first) in
      let back : all ≡ earlier_in f w top b ++ b ∷ [] = sym (last_inside f w formed top) ∙ sym (ap (λ n. earlier_at f w top (top, n)) h) ∙ last in
      let front_among : IsAmong f w top c = among_where f w formed top [] (later_in f w top c) c front in
      let back_among : IsAmong f w top b = among_where f w formed top (earlier_in f w top b) [] b back in
      let from : at c ≡ 0 = omega (arith, counted c front_among, ap length front) in
      let to : at b + 1 ≡ length all = omega (arith, ap length back, length-append (earlier_in f w top b) (b ∷ [])) in (
        record { first = front_among; last = back_among; order = omega (arith, from) },
        whole_range all (at c) (at b + 1) from to,
      )
