-- Steps from a run of a root to the ones beside it.
use Rattle.std.proofs.Common.{◌≡◌, ℕ, [], ◌∷◌, ◌++◌, Bool, true, false, length, refl, sym, ap, ◌∙◌, append_assoc}
use Rattle.std.specs.Prelude.{◌||◌, cond, Option, Some, None, IfSome, MatchOption}
use Rattle.std.specs.Option.{option_map_or}
use Rattle.std.proofs.lemmas.List.{append_cancel_left, append_cancel_right}
use Rattle.schema.specs.NodeData.{NodeData}
use Rattle.schema.specs.Roles.{same_role}
use Rattle.schema.specs.declared.Role.{Role}
use Rattle.schema.specs.declared.Role.TheVariants.{TextRun}
use Rattle.model.specs.declared.FullNodeId.{FullNodeId}
use Rattle.model.specs.declared.filters.FilterResult.TheVariants.{Include, ExcludeNode}
use Rattle.model.specs.World.{World, Place, HasData, StandsAt, children}
use Rattle.model.specs.Forest.{is_same, IsFormed}
use Rattle.model.specs.Frontier.{IsShown}
use Rattle.model.specs.Beside.{left_at, prior_at, is_below, next_place}
use Rattle.model.specs.TextRuns.{is_run, run_filter, run_ids}
use Rattle.model.proofs.Walks.Beside.{splits_at, start_left, start_prior, after_child, left_include}
use Rattle.model.proofs.Walks.Between.{below_is_within, shown_where, next_is_shown, previous_is_shown}
use Rattle.views.specs.declared.runs.Run.{Run}
use Rattle.views.specs.declared.walks.spot.Spot.{Spot}
use Rattle.views.specs.Nodes.{world_at, id_at}
use Rattle.views.specs.Spots.{IsSpot}
use Rattle.views.specs.Runs.{run_world, root_id, ids_after, IsSpotAfter}
use Rattle.views.specs.Follows.{Follows}
use Rattle.views.specs.RunPlaces.{runs_after, runs_before}

-- the filter of runs answers what is said of it
pub runs_follow : (w : World) (root : FullNodeId) → Follows (λ n r. r ≡ run_filter (world_at n) root (id_at n)) w (run_filter w root)
runs_follow w root = record { at = λ n r same said. said ∙ ap (λ v. run_filter v root (id_at n)) same }

module _ (w : World) (formed : IsFormed w) (root : FullNodeId) where
  -- the runs before a node, the node, and those after it are the root's runs
  abbrev pub IsAmong : FullNodeId → Type 0
  IsAmong id = runs_before w root id ++ id ∷ runs_after w root id ≡ run_ids w root

  shown_among : (id : FullNodeId) → IsAmong id → IsShown (run_filter w root) w root id
  shown_among id e = shown_where w formed (run_filter w root) root (runs_before w root id) (runs_after w root id) id (sym e)

  among_shown : (id : FullNodeId) → IsShown (run_filter w root) w root id → IsAmong id
  among_shown id s = splits_at w formed (run_filter w root) root id s

  pub first_among : (id : FullNodeId) → left_at (run_filter w root) w (is_same root) (root, 0) ≡ id ∷ runs_after w root id → IsAmong id × (runs_before w root id ≡ [])
  first_among id e =
      let all : run_ids w root ≡ id ∷ runs_after w root id = sym (start_left w formed (run_filter w root) root) ∙ e in
      let among : IsAmong id = among_shown id (shown_where w formed (run_filter w root) root [] (runs_after w root id) id all) in
      (among, append_cancel_right (runs_before w root id) [] (id ∷ runs_after w root id) (among ∙ all))

  pub none_first : left_at (run_filter w root) w (is_same root) (root, 0) ≡ [] → run_ids w root ≡ []
  none_first e = sym (start_left w formed (run_filter w root) root) ∙ e

  pub last_among : (n : ℕ) (id : FullNodeId) → n ≡ length (children w root) → prior_at (run_filter w root) w (is_same root) (root, n) ≡ runs_before w root id ++ id ∷ [] → IsAmong id × (runs_after w root id ≡ [])
  last_among n id h e =
      let all : run_ids w root ≡ runs_before w root id ++ id ∷ [] =
      sym (start_prior w formed (run_filter w root) root) ∙ sym (ap (λ k. prior_at (run_filter w root) w (is_same root) (root, k)) h) ∙ e in
      let among : IsAmong id = among_shown id (shown_where w formed (run_filter w root) root (runs_before w root id) [] id all) in
      let tails : id ∷ runs_after w root id ≡ id ∷ [] = append_cancel_left (runs_before w root id) (id ∷ runs_after w root id) (id ∷ []) (among ∙ all) in
      (among, cc)

  pub none_last : (n : ℕ) → n ≡ length (children w root) → prior_at (run_filter w root) w (is_same root) (root, n) ≡ [] → run_ids w root ≡ []
  none_last n h e = sym (start_prior w formed (run_filter w root) root) ∙ sym (ap (λ k. prior_at (run_filter w root) w (is_same root) (root, k)) h) ∙ e

  pub next_among : (id next : FullNodeId) → IsAmong id → runs_after w root id ≡ next ∷ runs_after w root next → IsAmong next × (runs_before w root next ≡ runs_before w root id ++ id ∷ [])
  next_among id next here e =
      let among : IsAmong next = among_shown next (next_is_shown w formed (run_filter w root) root id next (shown_among id here) e) in
      let there : (runs_before w root id ++ id ∷ []) ++ next ∷ runs_after w root next ≡ run_ids w root =
      append_assoc (runs_before w root id) (id ∷ []) (next ∷ runs_after w root next) ∙ sym (ap (λ xs. runs_before w root id ++ id ∷ xs) e) ∙ here in
      (among, append_cancel_right (runs_before w root next) (runs_before w root id ++ id ∷ []) (next ∷ runs_after w root next) (among ∙ sym there))

  pub previous_among : (id previous : FullNodeId) → IsAmong id → runs_before w root id ≡ runs_before w root previous ++ previous ∷ [] → IsAmong previous × (runs_after w root previous ≡ id ∷ runs_after w root id)
  previous_among id previous here e =
      let among : IsAmong previous = among_shown previous (previous_is_shown w formed (run_filter w root) root id previous (shown_among id here) e) in
      let there : runs_before w root previous ++ previous ∷ id ∷ runs_after w root id ≡ run_ids w root =
      sym (append_assoc (runs_before w root previous) (previous ∷ []) (id ∷ runs_after w root id)) ∙ sym (ap (λ xs. xs ++ id ∷ runs_after w root id) e) ∙ here in
      let tails : previous ∷ runs_after w root previous ≡ previous ∷ id ∷ runs_after w root id =
      append_cancel_left (runs_before w root previous) (previous ∷ runs_after w root previous) (previous ∷ id ∷ runs_after w root id) (among ∙ sym there) in
      (among, cc)

  -- a child that is a run is shown
  kept : (id : FullNodeId) → is_run w id ≡ true → run_filter w root id ≡ Include
  kept id said = ap (λ b. cond (is_same id root || b) Include ExcludeNode) said ∙ go (is_same id root)
    where
      go : (b : Bool) → cond (b || true) Include ExcludeNode ≡ Include
      go true = refl
      go false = refl

  -- a run that stands right after another below the same parent is the next one
  pub beside_is_next : (p : Place) (id next : FullNodeId) → StandsAt w p id → StandsAt w (next_place p) next → is_run w next ≡ true → is_below w root id ≡ true →
      (is_below w root next ≡ true) × (runs_after w root id ≡ next ∷ runs_after w root next)
  beside_is_next p id next here there said below = (
    below_is_within w formed root (next_place p) next there ∙ sym (below_is_within w formed root p id here) ∙ below,
    after_child w formed (run_filter w root) (is_same root) p id here ∙ left_include w formed (run_filter w root) (is_same root) (next_place p) next there (kept next said),
  )

-- a node whose role is that of a run is one
pub run_by_role : (w : World) (id : FullNodeId) (d : NodeData) → HasData w id d → d.role ≡ TextRun → is_run w id ≡ true
run_by_role w id d has role = ap (λ o. option_map_or (λ (e : NodeData). same_role e.role TextRun) o false) has ∙ ap (λ (r : Role). same_role r TextRun) role

-- what a walk from a run finds is the next run
pub spot_there : (r : Run) (found : Option Spot) → IfSome found (IsSpot (run_world r)) → IfSome found (λ s. is_below (run_world r) (root_id r) s.member.id ≡ true) →
    MatchOption found (ids_after r ≡ []) (λ s. ids_after r ≡ s.member.id ∷ runs_after (run_world r) (root_id r) s.member.id) → MatchOption found (ids_after r ≡ []) (IsSpotAfter r)
spot_there r (Some s) there below after = record { there = there; below = below; after = after }
spot_there r None there below after = after
