-- The place that a search below a node has come to, and its moves.
use Rattle.std.proofs.Common.{◌≡◌, ℕ, ◌+◌, ◌-◌, ◌<◌, ◌≤◌, List, length, arith, true, false, sym, ◌∙◌, ap, subst}
use Rattle.std.specs.Prelude.{Some}
use Rattle.std.proofs.lemmas.Option.{slice_get_within}
use Rattle.model.specs.declared.FullNodeId.{FullNodeId}
use Rattle.model.specs.declared.filters.FilterResult.{FilterResult}
use Rattle.model.specs.World.{World, Place, StandsAt, children, child_at}
use Rattle.model.specs.Forest.{above, is_same, IsFormed}
use Rattle.model.specs.Upward.{is_within}
use Rattle.model.specs.Beside.{is_below, next_place, work_from, work_after, work_until, work_before}
use Rattle.model.proofs.Walks.Beside.{work_after_child, work_from_step, work_from_descend, work_from_up, work_before_child, work_until_step, work_until_descend, work_until_up}
use Rattle.model.proofs.Walks.Between.{below_is_within, child_within, parent_within}
use Rattle.views.specs.declared.node.node_ref.NodeRef.{NodeRef}
use Rattle.views.specs.declared.walks.spot.Member.{Member}
use Rattle.views.specs.declared.walks.spot.Spot.{Spot}
use Rattle.views.specs.Spots.{IsMember, IsSpot, place_at}
use Rattle.views.specs.Follows.{Follows}

-- the place lies within top, what is shown on from it is what was at the start, and no more work is left
pub record IsSearched (answers : NodeRef → FilterResult → Type 0) (w : World) (top : FullNodeId) (work : Place → ℕ)
    (shown : (FullNodeId → FilterResult) → Place → List FullNodeId) (start : Place) (m : Member) (i : ℕ) : Type 0 where
  pub known : IsMember w m
  pub in_it : i ≤ length (children w m.id)
  pub within : is_within w top m.id ≡ true
  pub nearer : work (m.id, i) ≤ work start
  pub exact : (f : FullNodeId → FilterResult) → Follows answers w f → shown f start ≡ shown f (m.id, i)

-- a move to another such place, at which less work is left and as much is shown
moves : {answers : NodeRef → FilterResult → Type 0} {w : World} {top : FullNodeId} {work : Place → ℕ} {shown : (FullNodeId → FilterResult) → Place → List FullNodeId} {start : Place} {m : Member} {i : ℕ} →
    IsSearched answers w top work shown start m i → (n : Member) (k : ℕ) → IsMember w n → k ≤ length (children w n.id) → is_within w top n.id ≡ true → work (n.id, k) < work (m.id, i) →
    ((f : FullNodeId → FilterResult) → Follows answers w f → shown f (m.id, i) ≡ shown f (n.id, k)) → IsSearched answers w top work shown start n k
moves s n k known in_it within less same =
    record { known = known; in_it = in_it; within = within; nearer = omega (arith, less, s.nearer); exact = λ f follows. s.exact f follows ∙ same f follows }

-- a node's place, by another name of the node
pub stands_as : {w : World} (q : Spot) (id : FullNodeId) → IsSpot w q × (q.member.id ≡ id) → StandsAt w (place_at q) id
stands_as {w} q id at = subst (StandsAt w (place_at q)) at.1 at.0.stands

module _ (w : World) (formed : IsFormed w) (top : FullNodeId) where
  -- ---- forwards

  module _ {answers : NodeRef → FilterResult → Type 0} {shown : (FullNodeId → FilterResult) → Place → List FullNodeId} {start : Place} {m : Member} {i : ℕ} (s : IsSearched answers w top (work_from w top) shown start m i) where
    pub child_below : (c : FullNodeId) → Some c ≡ child_at w (m.id, i) → is_below w top c ≡ true
    child_below c e = below_is_within w formed top (m.id, i) c (sym e) ∙ s.within

    pub child_nearer : (c : FullNodeId) → Some c ≡ child_at w (m.id, i) → work_after w top (above w c) < work_from w top start
    child_nearer c e = omega (arith, work_after_child w formed top (m.id, i) c (sym e), work_from_step w formed top (m.id, i) c (sym e), s.nearer)

    pub goes_over : (c : FullNodeId) → Some c ≡ child_at w (m.id, i) → ((f : FullNodeId → FilterResult) → Follows answers w f → shown f (m.id, i) ≡ shown f (m.id, i + 1)) →
        IsSearched answers w top (work_from w top) shown start m (i + 1)
    goes_over c e same =
        moves s m (i + 1) s.known (omega (arith, slice_get_within (children w m.id) i c (sym e))) s.within (omega (arith, work_from_step w formed top (m.id, i) c (sym e))) same

    pub goes_into : (c : Member) → IsMember w c → Some c.id ≡ child_at w (m.id, i) → ((f : FullNodeId → FilterResult) → Follows answers w f → shown f (m.id, i) ≡ shown f (c.id, 0)) →
        IsSearched answers w top (work_from w top) shown start c 0
    goes_into c known e same =
        moves s c 0 known (omega arith) (child_within w formed top (m.id, i) c.id (sym e) s.within) (work_from_descend w formed top (m.id, i) c.id (sym e)) same

    pub goes_up : length (children w m.id) ≤ i → (q : Spot) → IsSpot w q × (q.member.id ≡ m.id) → is_same top m.id ≡ false →
        ((f : FullNodeId → FilterResult) → Follows answers w f → shown f (m.id, i) ≡ shown f (next_place (place_at q))) → IsSearched answers w top (work_from w top) shown start q.parent (q.index + 1)
    goes_up past q at other same =
        moves s q.parent (q.index + 1) at.0.parent (omega (arith, slice_get_within (children w q.parent.id) q.index m.id (stands_as q m.id at)))
        (parent_within w formed top (place_at q) m.id (stands_as q m.id at) s.within other) (work_from_up w formed top (m.id, i) (place_at q) past (stands_as q m.id at) other) same

  -- ---- backwards

  module _ (id : FullNodeId) (i : ℕ) (some : 0 < i) (c : FullNodeId) (e : Some c ≡ child_at w (id, i - 1)) where
    here : work_until w top (id, i) ≡ work_until w top (id, i - 1 + 1)
    here = let n : i ≡ i - 1 + 1 = omega (arith, some) in ap (λ j. work_until w top (id, j)) n

    pub less_before : work_until w top (id, i - 1) < work_until w top (id, i)
    less_before = omega (arith, here, work_until_step w formed top (id, i - 1) c (sym e))

    pub less_inside : (k : ℕ) → k ≡ length (children w c) → work_until w top (c, k) < work_until w top (id, i)
    less_inside k h = omega (arith, here, work_until_descend w formed top (id, i - 1) c (sym e), ap (λ j. work_until w top (c, j)) h)

  module _ {answers : NodeRef → FilterResult → Type 0} {shown : (FullNodeId → FilterResult) → Place → List FullNodeId} {start : Place} {m : Member} {i : ℕ} (s : IsSearched answers w top (work_until w top) shown start m i) where
    module _ (some : 0 < i) where
      pub back_below : (c : FullNodeId) → Some c ≡ child_at w (m.id, i - 1) → is_below w top c ≡ true
      back_below c e = below_is_within w formed top (m.id, i - 1) c (sym e) ∙ s.within

      pub back_nearer : (c : FullNodeId) → Some c ≡ child_at w (m.id, i - 1) → work_before w top (above w c) < work_until w top start
      back_nearer c e = omega (arith, less_before m.id i some c e, work_before_child w formed top (m.id, i - 1) c (sym e), s.nearer)

      -- what is shown before a place, by the place before it
      stepped : (f : FullNodeId → FilterResult) → shown f (m.id, i) ≡ shown f (next_place (m.id, i - 1))
      stepped f = let n : i ≡ i - 1 + 1 = omega (arith, some) in ap (λ j. shown f (m.id, j)) n

      pub back_shown : (f : FullNodeId → FilterResult) → Follows answers w f → shown f start ≡ shown f (next_place (m.id, i - 1))
      back_shown f follows = s.exact f follows ∙ stepped f

      pub back_over : (c : FullNodeId) → Some c ≡ child_at w (m.id, i - 1) → ((f : FullNodeId → FilterResult) → Follows answers w f → shown f (next_place (m.id, i - 1)) ≡ shown f (m.id, i - 1)) →
          IsSearched answers w top (work_until w top) shown start m (i - 1)
      back_over c e same =
          moves s m (i - 1) s.known (omega (arith, s.in_it)) s.within (less_before m.id i some c e) (λ f follows. stepped f ∙ same f follows)

      pub back_into : (c : Member) → IsMember w c → Some c.id ≡ child_at w (m.id, i - 1) → (k : ℕ) → k ≡ length (children w c.id) →
          ((f : FullNodeId → FilterResult) → Follows answers w f → shown f (next_place (m.id, i - 1)) ≡ shown f (c.id, length (children w c.id))) → IsSearched answers w top (work_until w top) shown start c k
      back_into c known e k h same =
          moves s c k known (omega (arith, h)) (child_within w formed top (m.id, i - 1) c.id (sym e) s.within) (less_inside m.id i some c.id e k h)
          (λ f follows. stepped f ∙ same f follows ∙ ap (λ j. shown f (c.id, j)) (sym h))

    pub back_up : i ≡ 0 → (q : Spot) → IsSpot w q × (q.member.id ≡ m.id) → is_same top m.id ≡ false → ((f : FullNodeId → FilterResult) → Follows answers w f → shown f (m.id, i) ≡ shown f (place_at q)) →
        IsSearched answers w top (work_until w top) shown start q.parent q.index
    back_up first q at other same =
        moves s q.parent q.index at.0.parent (omega (arith, slice_get_within (children w q.parent.id) q.index m.id (stands_as q m.id at)))
        (parent_within w formed top (place_at q) m.id (stands_as q m.id at) s.within other) (work_until_up w formed top (m.id, i) (place_at q) first (stands_as q m.id at) other) same
