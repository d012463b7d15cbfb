-- How deep a node lies, and the way down to the deepest.
use Rattle.std.proofs.Common.{◌≡◌, ℕ, ◌-◌, ◌<◌, ◌≤◌, true, List, [], ◌∷◌, ◌++◌, length, suc, zero, refl, sym, ◌∙◌, ap, arith, length-append, inl, inr}
use Rattle.std.specs.Prelude.{Option, Some, None, IfSome, MatchOption, slice_get, unwrap_or, option_map}
use Rattle.std.specs.FinMap.{len}
use Rattle.model.specs.declared.FullNodeId.{FullNodeId}
use Rattle.model.specs.declared.filters.FilterResult.{FilterResult}
use Rattle.model.specs.World.{World, Place, StandsAt}
use Rattle.model.specs.Forest.{place_of, above, places_up, chain, IsFormed, is_same}
use Rattle.model.specs.Paths.{depth}
use Rattle.model.specs.Beside.{is_below}
use Rattle.model.proofs.Forest.Grown.{depth_child}
use Rattle.model.proofs.Forest.Climbs.{within_deeper}
use Rattle.model.proofs.Forest.WaysUp.{within_is_tested}
use Rattle.model.proofs.Walks.Between.{below_is_within}
use Rattle.model.specs.World.{children}
use Rattle.model.specs.Frontier.{filtered_children}
use Rattle.model.specs.Beside.{left_at, prior_at, after_in, before_in}
use Rattle.model.proofs.Walks.Beside.{start_left, start_prior}
use Rattle.views.specs.declared.walks.spot.Spot.{Spot}
use Rattle.views.specs.Spots.{IsSpot, place_at}
use Rattle.views.specs.Deepest.{first_shown, last_shown, LeadsToEnd, ends, goes, IsDeepest}

-- ---- no node lies deeper than there are nodes

chain_length : (n : ℕ) (up : FullNodeId → List Place) → ((id : FullNodeId) → length (up id) ≤ n) → (o : Option Place) → length (chain up o) ≤ suc n
chain_length n up h None = omega arith
chain_length n up h (Some p) = omega (arith, h p.0)

climbed_length : (w : World) (n : ℕ) (id : FullNodeId) → length (places_up w n id) ≤ n
climbed_length w zero id = omega arith
climbed_length w (suc n) id = chain_length n (places_up w n) (λ c. climbed_length w n c) (place_of w id)

pub depth_within_nodes : (w : World) (id : FullNodeId) → depth w id ≤ len w.nodes
unfolding above
depth_within_nodes w id = climbed_length w (len w.nodes) id

pub deeper_child : (w : World) → IsFormed w → (p : Place) (c : FullNodeId) → StandsAt w p c → depth w p.0 < depth w c
deeper_child w formed p c e = omega (arith, depth_child w formed p c e)

pub deeper_below : (w : World) → IsFormed w → (top : FullNodeId) (p : Place) (c : FullNodeId) → StandsAt w p c → is_below w top c ≡ true → depth w top < depth w c
deeper_below w formed top p c e below =
    elim (within_deeper w formed top p.0 ((within_is_tested w top p.0).0 (sym (below_is_within w formed top p c e) ∙ below))) [
      | inl same ↦ omega (arith, depth_child w formed p c e, ap (depth w) same)
      | inr less ↦ omega (arith, depth_child w formed p c e)
    ]

-- ---- the deepest, where each is that of a child

module _ (deep child : FullNodeId → Option FullNodeId) (law : (id : FullNodeId) → deep id ≡ option_map (λ c. unwrap_or (deep c) c) (child id)) where
  deep_first : (id c : FullNodeId) → Some c ≡ child id → deep id ≡ Some (unwrap_or (deep c) c)
  deep_first id c e = law id ∙ ap (option_map (λ c. unwrap_or (deep c) c)) (sym e)

  deep_none : (id : FullNodeId) → None ≡ child id → deep id ≡ None
  deep_none id e = law id ∙ ap (option_map (λ c. unwrap_or (deep c) c)) (sym e)

  leads_to_it : (d last : FullNodeId) → LeadsToEnd child d last → unwrap_or (deep d) d ≡ last
  leads_to_it d last (ends id e) = ap (λ o. unwrap_or o id) (deep_none id (sym e))
  leads_to_it d last (goes id next end e leads) = ap (λ o. unwrap_or o id) (deep_first id next (sym e)) ∙ leads_to_it next end leads

  pub deepest_is : (id : FullNodeId) (o : Option FullNodeId) → IsDeepest child id o → o ≡ deep id
  deepest_is id None e = sym (deep_none id (sym e))
  deepest_is id (Some last) (next, e, leads) = sym (deep_first id next (sym e) ∙ ap Some (leads_to_it next last leads))

-- ---- the first and the last that is shown below a node

last_of : (xs ys : List FullNodeId) (r : FullNodeId) → xs ≡ ys ++ r ∷ [] → Some r ≡ slice_get xs (length xs - 1)
last_of xs ys r e = sym (ap (λ zs. slice_get zs (length zs - 1)) e ∙ ap (slice_get (ys ++ r ∷ [])) (let n : length (ys ++ r ∷ []) - 1 ≡ length ys = omega (arith, length-append ys (r ∷ [])) in n) ∙ behind ys r [])
  where
    behind : (xs : List FullNodeId) (c : FullNodeId) (zs : List FullNodeId) → slice_get (xs ++ c ∷ zs) (length xs) ≡ Some c
    behind [] c zs = refl
    behind (x ∷ xs) c zs = behind xs c zs

module _ (w : World) (formed : IsFormed w) (f : FullNodeId → FilterResult) (top : FullNodeId) where
  pub shown_first : (r : FullNodeId) → left_at f w (is_same top) (top, 0) ≡ r ∷ after_in f w top r → Some r ≡ first_shown f w top
  shown_first r e = sym (ap (λ xs. slice_get xs 0) (sym (start_left w formed f top) ∙ e))

  pub none_first : left_at f w (is_same top) (top, 0) ≡ [] → None ≡ first_shown f w top
  none_first e = sym (ap (λ xs. slice_get xs 0) (sym (start_left w formed f top) ∙ e))

  pub shown_last : (n : ℕ) (r : FullNodeId) → n ≡ length (children w top) → prior_at f w (is_same top) (top, n) ≡ before_in f w top r ++ r ∷ [] → Some r ≡ last_shown f w top
  shown_last n r h e = last_of (filtered_children f w top) (before_in f w top r) r (sym (start_prior w formed f top) ∙ sym (ap (λ n. prior_at f w (is_same top) (top, n)) h) ∙ e)

  pub none_last : (n : ℕ) → n ≡ length (children w top) → prior_at f w (is_same top) (top, n) ≡ [] → None ≡ last_shown f w top
  none_last n h e = sym (ap (λ xs. slice_get xs (length xs - 1)) (sym (start_prior w formed f top) ∙ sym (ap (λ n. prior_at f w (is_same top) (top, n)) h) ∙ e))

  pub item_first : (r : Option Spot) → MatchOption r (left_at f w (is_same top) (top, 0) ≡ []) (λ s. left_at f w (is_same top) (top, 0) ≡ s.member.id ∷ after_in f w top s.member.id) →
      option_map (λ s. s.member.id) r ≡ first_shown f w top
  item_first None e = none_first e
  item_first (Some s) e = shown_first s.member.id e

  pub item_last : (n : ℕ) (r : Option Spot) → n ≡ length (children w top) → MatchOption r (prior_at f w (is_same top) (top, n) ≡ []) (λ s. prior_at f w (is_same top) (top, n) ≡ before_in f w top s.member.id ++ s.member.id ∷ []) →
      option_map (λ s. s.member.id) r ≡ last_shown f w top
  item_last n None h e = none_last n h e
  item_last n (Some s) h e = shown_last n s.member.id h e

pub child_deeper : (w : World) → IsFormed w → (id : FullNodeId) (i : ℕ) (o : Option Spot) → IfSome o (λ s. IsSpot w s × (place_at s ≡ (id, i))) → IfSome o (λ s. depth w id < depth w s.member.id)
child_deeper w formed id i None there = tt
child_deeper w formed id i (Some s) there =
    let up : s.parent.id ≡ id = ap (λ (p : Place). p.0) there.1 in
    omega (arith, deeper_child w formed (place_at s) s.member.id there.0.stands, ap (depth w) up)

pub item_deeper : (w : World) → IsFormed w → (top : FullNodeId) (r : Option Spot) → IfSome r (IsSpot w) → IfSome r (λ s. is_below w top s.member.id ≡ true) → IfSome r (λ s. depth w top < depth w s.member.id)
item_deeper w formed top None spot below = tt
item_deeper w formed top (Some s) spot below = deeper_below w formed top (place_at s) s.member.id spot.stands below

pub less_deeper : (w : World) (d c : FullNodeId) → depth w d < depth w c → len w.nodes - depth w c < len w.nodes - depth w d
less_deeper w d c deeper = omega (arith, deeper, depth_within_nodes w c)
