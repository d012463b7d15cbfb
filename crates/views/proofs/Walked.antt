-- What a step of a walk and its beginnings give.
use Rattle.std.proofs.Common.{◌≡◌, ◌≢◌, ℕ, Bool, true, false, [], ◌∷◌, ◌++◌, length, sym, ◌∙◌, ap}
use Rattle.std.specs.Prelude.{Option, Some, None, reverse, slice_get, option_map, MatchOption, ◌↔◌}
use Rattle.std.proofs.lemmas.List.{reverse-append}
use Rattle.model.specs.declared.FullNodeId.{FullNodeId}
use Rattle.model.specs.declared.filters.FilterResult.{FilterResult}
use Rattle.model.specs.World.{World, children}
use Rattle.model.specs.Forest.{place_of, is_same as is_same_id, IsFormed}
use Rattle.model.specs.Frontier.{filtered_children}
use Rattle.model.specs.Covers.{cover, following_filtered_siblings, preceding_filtered_siblings}
use Rattle.model.specs.Beside.{left_at, prior_at, after_in, before_in, Spans, items_between}
use Rattle.model.proofs.Walks.Beside.{start_left, start_prior}
use Rattle.model.proofs.Walks.Between.{first_off, not_stuck, last_off, not_stuck_back, all_between, none_beside}
use Rattle.model.proofs.Walks.Siblings.{cover_leads, following_in, preceding_in}
use Rattle.model.proofs.Walks.WalkLaws.{root_has_no_cover, uncovered_has_no_siblings, walk_has_following, walk_has_preceding}
use Rattle.views.specs.declared.walks.spot.Spot.{Spot}
use Rattle.views.specs.Sides.{siblings_beside}

pub apart : (r : Bool) (a b : FullNodeId) → (r ≡ true) ↔ (a ≡ b) → r ≡ false → a ≢ b
apart r a b h n e = let both : false ≡ true = sym n ∙ h.1 e in cc

module _ (w : World) (formed : IsFormed w) (f : FullNodeId → FilterResult) (top : FullNodeId) where
  pub taken : (front back : FullNodeId) (r : Option FullNodeId) → front ≢ back → MatchOption r (after_in f w top front ≡ []) (λ d. after_in f w top front ≡ d ∷ after_in f w top d) → Spans f w top front back →
      MatchOption r (items_between f w top front back ≡ front ∷ []) (λ d. Spans f w top d back × (items_between f w top front back ≡ front ∷ items_between f w top d back))
  taken front back None other e s = absurd (not_stuck w formed f top front back s other e)
  taken front back (Some d) other e s = first_off w formed f top front back d s other e

  pub taken_back : (front back : FullNodeId) (r : Option FullNodeId) → front ≢ back → MatchOption r (before_in f w top back ≡ []) (λ d. before_in f w top back ≡ before_in f w top d ++ d ∷ []) → Spans f w top front back →
      MatchOption r (items_between f w top front back ≡ [] ++ back ∷ []) (λ d. Spans f w top front d × (items_between f w top front back ≡ items_between f w top front d ++ back ∷ []))
  taken_back front back None other e s = absurd (not_stuck_back w formed f top front back s other e)
  taken_back front back (Some d) other e s = last_off w formed f top front back d s other e

  pub none_from : left_at f w (is_same_id top) (top, 0) ≡ [] → filtered_children f w top ≡ []
  none_from e = sym (start_left w formed f top) ∙ e

  pub none_until : (n : ℕ) → n ≡ length (children w top) → prior_at f w (is_same_id top) (top, n) ≡ [] → filtered_children f w top ≡ []
  none_until n h e = sym (start_prior w formed f top) ∙ sym (ap (λ n. prior_at f w (is_same_id top) (top, n)) h) ∙ e

  pub ends_there : (n : ℕ) (back : FullNodeId) → n ≡ length (children w top) → prior_at f w (is_same_id top) (top, n) ≡ before_in f w top back ++ back ∷ [] → filtered_children f w top ≡ before_in f w top back ++ back ∷ []
  ends_there n back h e = sym (start_prior w formed f top) ∙ sym (ap (λ n. prior_at f w (is_same_id top) (top, n)) h) ∙ e

  pub all_there : (n : ℕ) (front back : FullNodeId) → n ≡ length (children w top) → left_at f w (is_same_id top) (top, 0) ≡ front ∷ after_in f w top front → prior_at f w (is_same_id top) (top, n) ≡ before_in f w top back ++ back ∷ [] →
      Spans f w top front back × (items_between f w top front back ≡ filtered_children f w top)
  all_there n front back h first last = all_between w formed f top front back (sym (start_left w formed f top) ∙ first) (ends_there n back h last)

  pub none_follow : (node : FullNodeId) → Some top ≡ cover f w node → after_in f w top node ≡ [] → following_filtered_siblings f w node ≡ []
  none_follow node covers e = following_in f w formed node top (sym covers) ∙ e

  pub none_at_all : (node : FullNodeId) (n : ℕ) → Some top ≡ cover f w node → n ≡ length (children w top) → prior_at f w (is_same_id top) (top, n) ≡ [] → following_filtered_siblings f w node ≡ []
  none_at_all node n covers h e = following_in f w formed node top (sym covers) ∙ (none_beside w formed f top node (cover_leads f w node top (sym covers)).0 (none_until n h e)).0

  pub follow_there : (node : FullNodeId) (n : ℕ) (front back : FullNodeId) → Some top ≡ cover f w node → n ≡ length (children w top) → after_in f w top node ≡ front ∷ after_in f w top front →
      prior_at f w (is_same_id top) (top, n) ≡ before_in f w top back ++ back ∷ [] → Spans f w top front back × (items_between f w top front back ≡ following_filtered_siblings f w node)
  follow_there node n front back covers h first last = walk_has_following f w formed node top front back (sym covers) first (ends_there n back h last)

  pub none_precede : (node : FullNodeId) → Some top ≡ cover f w node → before_in f w top node ≡ [] → preceding_filtered_siblings f w node ≡ []
  none_precede node covers e = preceding_in f w formed node top (sym covers) ∙ ap reverse e

  pub none_first : (node : FullNodeId) → Some top ≡ cover f w node → left_at f w (is_same_id top) (top, 0) ≡ [] → preceding_filtered_siblings f w node ≡ []
  none_first node covers e = none_precede node covers (none_beside w formed f top node (cover_leads f w node top (sym covers)).0 (none_from e)).1

  pub precede_there : (node front back : FullNodeId) → Some top ≡ cover f w node → left_at f w (is_same_id top) (top, 0) ≡ front ∷ after_in f w top front → before_in f w top node ≡ before_in f w top back ++ back ∷ [] →
      Spans f w top front back × (reverse (items_between f w top front back) ≡ preceding_filtered_siblings f w node)
  precede_there node front back covers first last = walk_has_preceding f w formed node top front back (sym covers) (sym (start_left w formed f top) ∙ first) last

-- a node without a place, and one without a cover, have no siblings that are shown
pub unplaced : (w : World) → IsFormed w → (f : FullNodeId → FilterResult) (node : FullNodeId) → None ≡ place_of w node → (following_filtered_siblings f w node ≡ []) × (preceding_filtered_siblings f w node ≡ [])
unplaced w formed f node e = uncovered_has_no_siblings f w formed node (root_has_no_cover f w formed node (sym e))

pub uncovered : (w : World) → IsFormed w → (f : FullNodeId → FilterResult) (node : FullNodeId) → None ≡ cover f w node → (following_filtered_siblings f w node ≡ []) × (preceding_filtered_siblings f w node ≡ [])
uncovered w formed f node e = uncovered_has_no_siblings f w formed node (sym e)

-- ---- the nearest sibling on either side

module _ (w : World) (formed : IsFormed w) (f : FullNodeId → FilterResult) (before : Bool) (node : FullNodeId) where
  none_beside_it : (following_filtered_siblings f w node ≡ []) × (preceding_filtered_siblings f w node ≡ []) → None ≡ slice_get (siblings_beside before f w node) 0
  none_beside_it h = by_side before
    where
      by_side : (b : Bool) → None ≡ slice_get (siblings_beside b f w node) 0
      by_side true = sym (ap (λ xs. slice_get xs 0) h.1)
      by_side false = sym (ap (λ xs. slice_get xs 0) h.0)

  pub none_unplaced : None ≡ place_of w node → None ≡ slice_get (siblings_beside before f w node) 0
  none_unplaced e = none_beside_it (unplaced w formed f node e)

  pub none_uncovered : None ≡ cover f w node → None ≡ slice_get (siblings_beside before f w node) 0
  none_uncovered e = none_beside_it (uncovered w formed f node e)

  -- the nearest item on that side below the cover, where the walk has the node by another name
  module _ (top other : FullNodeId) (covers : Some top ≡ cover f w node) (same : other ≡ node) (o : Option Spot) where
    pub next_is_nearest : before ≡ false → MatchOption o (after_in f w top other ≡ []) (λ r. after_in f w top other ≡ r.member.id ∷ after_in f w top r.member.id) →
        option_map (λ r. r.member.id) o ≡ slice_get (siblings_beside before f w node) 0
    next_is_nearest side h = by_item o h ∙ ap (λ i. slice_get (after_in f w top i) 0) same ∙ sym (ap (λ b. slice_get (siblings_beside b f w node) 0) side ∙ ap (λ xs. slice_get xs 0) (following_in f w formed node top (sym covers)))
      where
        by_item : (o : Option Spot) → MatchOption o (after_in f w top other ≡ []) (λ r. after_in f w top other ≡ r.member.id ∷ after_in f w top r.member.id) → option_map (λ r. r.member.id) o ≡ slice_get (after_in f w top other) 0
        by_item None e = sym (ap (λ xs. slice_get xs 0) e)
        by_item (Some r) e = sym (ap (λ xs. slice_get xs 0) e)

    pub previous_is_nearest : before ≡ true → MatchOption o (before_in f w top other ≡ []) (λ r. before_in f w top other ≡ before_in f w top r.member.id ++ r.member.id ∷ []) →
        option_map (λ r. r.member.id) o ≡ slice_get (siblings_beside before f w node) 0
    previous_is_nearest side h = by_item o h ∙ ap (λ i. slice_get (reverse (before_in f w top i)) 0) same ∙ sym (ap (λ b. slice_get (siblings_beside b f w node) 0) side ∙ ap (λ xs. slice_get xs 0) (preceding_in f w formed node top (sym covers)))
      where
        by_item : (o : Option Spot) → MatchOption o (before_in f w top other ≡ []) (λ r. before_in f w top other ≡ before_in f w top r.member.id ++ r.member.id ∷ []) →
            option_map (λ r. r.member.id) o ≡ slice_get (reverse (before_in f w top other)) 0
        by_item None e = sym (ap (λ xs. slice_get (reverse xs) 0) e)
        by_item (Some r) e = sym (ap (λ xs. slice_get xs 0) (ap reverse e ∙ reverse-append (before_in f w top r.member.id) (r.member.id ∷ [])))
