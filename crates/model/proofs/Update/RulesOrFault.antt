-- The rules of an update are kept exactly where no fault stands.
use Rattle.std.proofs.Common.{◌≡◌, ◌≢◌, ℕ, ◌-◌, ◌^◌, List, [], ◌∷◌, length, map, Option, Some, None, IsSome, inl, inr, ⊎_elim, ◌↔◌, refl, sym, ap, ◌∙◌, arith}
use Rattle.std.specs.FinMap.{get, entries}
use Rattle.std.proofs.lemmas.Bool.{cases_eq, cases_lt}
use Rattle.std.proofs.lemmas.Option.{same_Some}
use Rattle.schema.specs.declared.TreeId.{TreeId}
use Rattle.model.specs.declared.FullNodeId.{FullNodeId}
use Rattle.model.specs.World.{ROOT_NAME, World, data_of, listed_ids, graft_name, root_named, Place, Reached}
use Rattle.model.specs.Focus.{OnChain}
use Rattle.model.specs.Update.{UpdateData, Fault, MissingTreeInfo, NotRootTree, MissingData, NotReached, NamedTwice, ListedTwice, RootTreeGrafted, GraftWithChildren, GraftedTwice, NoGraft, NoFirstTreeInfo, FocusMissing, FocusOnEmptyGraft, IndexesUsedUp, StandsApart, Stands, IsListedAt, index_for, merged_world, KeepsRules}
use Rattle.model.proofs.Worlds.Names.{cases_id, cases_place, cases_name, cases_some, certain}
use Rattle.model.proofs.State.StatePlaces.{graft_is_node}
use Rattle.model.proofs.Update.RebuildKeeps.{chain_kept}
use Rattle.model.proofs.Update.UpdateLeavesState.{none_apart, no_empty}
use Rattle.model.proofs.Closure.{IsDecided, IsEdge, decide_by}
use Rattle.model.proofs.Update.RebuildIsThere.{decide_reached, found, edge_at, edge_parts}

-- whether some node grafts a tree
module _ (w : World) (name : TreeId) where
  Names : FullNodeId → ℕ → Type 0
  Names id n = graft_name w id ≡ Some name

  decide_names : (id : FullNodeId) → IsDecided (graft_name w id ≡ Some name)
  decide_names id = go (graft_name w id)
    where
      go : (o : Option TreeId) → IsDecided (o ≡ Some name)
      go None = inr (λ e. cc)
      go (Some k) = decide_by (ap Some) (same_Some k name) (cases_name k name)

  decide_among : (ids : List FullNodeId) → IsDecided (IsEdge (λ id. 0) Names ids 0 0)
  unfolding Names
  decide_among [] = inr (λ h. h)
  decide_among (id ∷ ids) = go (decide_names id) (decide_among ids)
    where
      go : IsDecided (graft_name w id ≡ Some name) → IsDecided (IsEdge (λ id. 0) Names ids 0 0) → IsDecided (IsEdge (λ id. 0) Names (id ∷ ids) 0 0)
      go (inl e) d = inl (inl (refl, e))
      go (inr e) (inl d) = inl (inr d)
      go (inr e) (inr d) = inr (λ h. ⊎_elim (λ (f : (0 ≡ 0) × (graft_name w id ≡ Some name)). e f.1) d h)

  pub decide_grafted : IsDecided ((id : FullNodeId) × (graft_name w id ≡ Some name))
  unfolding Names
  decide_grafted = decide_by
      (λ edge. let f = edge_parts (λ id. 0) Names (map (λ e. e.0) (entries w.nodes)) 0 0 edge in (f.0, f.2))
      (λ h. let d = found w h.0 (graft_is_node w h.0 name h.1) in edge_at (λ id. 0) Names (entries w.nodes) h.0 d.0 0 d.1 h.1)
      (decide_among (map (λ e. e.0) (entries w.nodes)))

pub no_some : {A : Type 0} (o : Option A) → o ≡ None → IsSome o → ⊥
no_some o e there = cc

is_none : {A : Type 0} (o : Option A) → (IsSome o → ⊥) → o ≡ None
is_none None absent = refl
is_none (Some x) absent = absurd (absent refl)

module _ (old : World) (u : UpdateData) where
  rules_apart : KeepsRules old u → (f : Fault) → ¬ (StandsApart old u f)
  rules_apart k MissingTreeInfo h = no_some u.info h.1 (k.first_has_info h.0)
  rules_apart k NotRootTree h = h.1 (k.first_for_root h.0)
  rules_apart k (MissingData n) h = h.2 (⊎_elim (λ root. k.root_is_node h.0 root) (λ (l : (p : Place) × IsListedAt old u p h.0). k.listed_is_node l.0 h.0 l.1) h.3)
  rules_apart k (NotReached n) h = h.3 (k.named_reached h.0 h.2)
  rules_apart k (NamedTwice n) h = h.2 (k.named_once h.0 h.1 n h.3 h.4)
  rules_apart k (ListedTwice n) h = ⊎_elim (λ (q : (q : Place) × (h.2 ≢ q) × IsListedAt old u q h.0). q.1 (k.listed_once h.2 q.0 h.0 h.3 q.2)) (k.root_unlisted h.2 h.0 h.3) h.4
  rules_apart k (RootTreeGrafted n) h = k.root_ungrafted h.0 h.2
  rules_apart k (GraftWithChildren n) h = h.4 (k.graft_childless h.0 h.2 h.3)
  rules_apart k (GraftedTwice name) h = h.2 (k.grafted_once h.0 h.1 name h.3 h.4)
  rules_apart k (NoGraft name) h = let g = k.later_grafted h.0 (λ e. h.2 (sym h.1 ∙ e)) in h.3 g.0 (g.1 ∙ ap Some h.1)
  rules_apart k (NoFirstTreeInfo name) h = no_some u.info h.3 (k.later_has_info h.0 (ap (λ n. get old.trees (index_for old n)) h.1 ∙ h.2))
  rules_apart k (FocusMissing n) h = h
  rules_apart k (FocusOnEmptyGraft name) h = h
  rules_apart k IndexesUsedUp h = let left = k.later_has_index h.0 h.1 in let far = h.2 in omega arith

  none_stands : KeepsRules old u → (f : Fault) → ¬ (Stands old u f)
  none_stands k (FocusMissing n) h = h.5 (k.focus_reached h.2 h.4)
  none_stands k (FocusOnEmptyGraft name) h = let at = h.1 in no_some (root_named (merged_world old u) name) at.5 (k.focus_goes_on at.0 name at.1 at.4)
  none_stands k f h = rules_apart k f h

  rules_kept : ((f : Fault) → ¬ (Stands old u f)) → KeepsRules old u
  rules_kept none = record {
    first_has_info = λ first. certain (cases_some u.info) (λ absent. none MissingTreeInfo (first, is_none u.info absent));
    first_for_root = λ first. certain (cases_name u.name ROOT_NAME) (λ other. none NotRootTree (first, other));
    root_is_node = λ id root. certain (cases_some (data_of (merged_world old u) id)) (λ absent. none (MissingData id.node) (id, refl, absent, inl root));
    listed_is_node = λ p child at. certain (cases_some (data_of (merged_world old u) child)) (λ absent. none (MissingData child.node) (child, refl, absent, inr (p, at)));
    named_reached = λ id named. certain (decide_reached (merged_world old u) id) (λ lost. none (NotReached id.node) (id, refl, named, lost));
    named_once = λ i j n a b. certain (cases_eq i j) (λ other. none (NamedTwice n) (i, j, other, a, b));
    listed_once = λ p q child a b. certain (cases_place p q) (λ other. none (ListedTwice child.node) (child, refl, p, a, inl (q, other, b)));
    root_unlisted = λ p id at root. none (ListedTwice id.node) (id, refl, p, at, inr root);
    root_ungrafted = λ id grafts. none (RootTreeGrafted id.node) (id, refl, grafts);
    graft_childless = λ id name grafts. no_empty (listed_ids (merged_world old u) id) (λ lists. none (GraftWithChildren id.node) (id, refl, name, grafts, lists));
    grafted_once = λ id other name a b. certain (cases_id id other) (λ apart. none (GraftedTwice name) (id, other, apart, a, b));
    later_grafted = λ later other. certain (decide_grafted old u.name) (λ absent. none (NoGraft u.name) (later, refl, other, λ id grafts. absent (id, grafts)));
    later_has_info = λ later absent. certain (cases_some u.info) (λ missing. none (NoFirstTreeInfo u.name) (later, refl, absent, is_none u.info missing));
    later_has_index = λ later new. ⊎_elim (λ left. left) (λ far. absurd (none IndexesUsedUp (later, new, far))) (cases_lt (length old.known) (2 ^ 32 - 1));
    focus_reached = reached;
    focus_goes_on = goes_on;
  }
    where
      no_empty_graft : (id : FullNodeId) (name : TreeId) → OnChain (merged_world old u) id → Reached (merged_world old u) id → graft_name (merged_world old u) id ≡ Some name → root_named (merged_world old u) name ≡ None → ⊥
      no_empty_graft id name on reached grafts absent = none (FocusOnEmptyGraft name) (none_apart old u none, (id, on, chain_kept (merged_world old u) id on, reached, grafts, absent))

      reached : (id : FullNodeId) → OnChain (merged_world old u) id → Reached (merged_world old u) id
      reached id on = certain (decide_reached (merged_world old u) id) (λ lost. none (FocusMissing id.node) (none_apart old u none, (λ name e. none (FocusOnEmptyGraft name) (none_apart old u none, e)), id, refl, on, lost))

      goes_on : (id : FullNodeId) (name : TreeId) → OnChain (merged_world old u) id → graft_name (merged_world old u) id ≡ Some name → IsSome (root_named (merged_world old u) name)
      goes_on id name on grafts = certain (cases_some (root_named (merged_world old u) name)) (λ absent. no_empty_graft id name on (reached id on) grafts (is_none (root_named (merged_world old u) name) absent))

  pub rules_or_fault : KeepsRules old u ↔ ((f : Fault) → ¬ (Stands old u f))
  rules_or_fault = (none_stands, rules_kept)
