-- The search for what is reached, and what is refused.
use Rattle.std.proofs.Common.{◌≡◌, ◌⊎◌, ℕ, ◌+◌, ◌<◌, ◌≤◌, Bool, true, false, List, [], ◌∷◌, ◌++◌, length, map, get_or, Contains, Option, Some, None, ⊎_elim, inl, inr, refl, sym, ap, subst, ◌∙◌, arith}
use Rattle.std.specs.Prelude.{slice_get}
use Rattle.std.specs.Option.{option_map, option_map_or}
use Rattle.std.specs.BTreeSet.{BTreeSet, contains}
use Rattle.std.proofs.lemmas.Bool.{cases_lt}
use Rattle.std.proofs.lemmas.Option.{same_Some, slice_get_within, slice_get-get_or}
use Rattle.std.proofs.lemmas.List.{length-map}
use Rattle.std.proofs.lemmas.List.Elements.{Contains-append_left}
use Rattle.schema.specs.NodeData.{NodeData}
use Rattle.schema.specs.declared.NodeId.{NodeId}
use Rattle.model.specs.declared.FullNodeId.{FullNodeId}
use Rattle.model.specs.FullIds.{full_cmp}
use Rattle.model.specs.World.{World, Place, IsNode, HasData, data_of, in_tree, listed_ids, root_of, Reached}
use Rattle.model.specs.World as world
use Rattle.model.specs.Update.{UpdateData, IsNamed, index_for, merged_world}
use Rattle.model.specs.Surgery.{IsOld, HasEntered, Gone, IsRefined}
use Rattle.model.proofs.Worlds.Names.{certain}
use Rattle.model.proofs.State.StatePlaces.{value_of, listed_tree}
use Rattle.model.proofs.Members.{contains_none, contains_first}
use Rattle.model.proofs.Surgery.Spots.{unnamed_data, root_reached}
use Rattle.model.proofs.Surgery.WhatIsDecided.{decide_entered}
use Rattle.model.proofs.Surgery.FaultsStand.{unentered_stands, doubled_stands}
use Rattle.model.proofs.Surgery.ClimbsUp.{search_all}
use Rattle.tree_changes.specs.Refusals.{IsRefusal}
use Rattle.tree_changes.specs.declared.error.UpdateError.{UpdateError}
use Rattle.tree_plan.specs.declared.passes.Opened.{Opened}
use Rattle.tree_plan.specs.declared.passes.Named.{Named}
use Rattle.tree_plan.specs.declared.passes.Compared.{Compared}
use Rattle.tree_plan.specs.declared.passes.Settled.{Settled}
use Rattle.tree_plan.specs.declared.passes.Removed.{Removed}
use Rattle.tree_plan.specs.declared.refusing.Search.{Search}
use Rattle.tree_plan.specs.Passes.{at, has, HoldsOpened, HoldsCompared, HoldsSettled, HoldsRemoved}
use Rattle.tree_plan.specs.Refusing.{AreListed, IsOfUnlisted, IsKept, IsListedStill, IsSearch, Enqueues, SearchesAll, HasReached, Explains}
use Rattle.model.proofs.Update.RulesOrFault.{no_some}
use Rattle.tree_plan.proofs.IdMaps.{Put, contains_at, at_contains}
use Rattle.tree_plan.proofs.Entries.{entry_named}
use Rattle.tree_plan.proofs.Arrived.{not_arrived, no_arrival}
use Rattle.tree_plan.proofs.RemovingSteps.{push_keeps, contains_one, contains_push, contains_last, pushed_last, pushed_cases, put_pushed}

-- ---- the search

pub adds_there : (id : FullNodeId) (a : Search) → IsSearch a → has a.seen id → Enqueues (id ∷ []) a a
adds_there id a search there = record {
  search = search;
  queue = λ i x e. e;
  added = λ x h. (search x).0 (subst (has a.seen) (contains_one id x h) there);
  only = λ x h. inl h;
}

pub adds_none : (a : Search) → IsSearch a → Enqueues [] a a
adds_none a search = record { search = search; queue = λ i x e. e; added = λ x h. absurd (contains_none x h); only = λ x h. inl h }

pub adds_new : (id : FullNodeId) (a b : Search) → IsSearch a → Put id true (λ q. contains full_cmp a.seen q) (λ q. contains full_cmp b.seen q) → b.queue.items ≡ a.queue.items ++ id ∷ [] → Enqueues (id ∷ []) a b
adds_new id a b search put queue = record {
  search = put_pushed id a.seen b.seen a.queue.items b.queue.items search put queue;
  queue = λ i x e. subst (λ xs. slice_get xs i ≡ Some x) (sym queue) (push_keeps a.queue.items id i x e);
  added = λ x h. subst (Contains b.queue.items) (contains_one id x h) (pushed_last a.queue.items b.queue.items id queue);
  only = λ x h. ⊎_elim inl (λ same. inr (subst (Contains (id ∷ [])) same (contains_first id []))) (pushed_cases a.queue.items b.queue.items id queue x h);
}

kept : (a b : Search) → ((i : ℕ) (id : FullNodeId) → slice_get a.queue.items i ≡ Some id → slice_get b.queue.items i ≡ Some id) → (id : FullNodeId) → Contains a.queue.items id → Contains b.queue.items id
kept a b queue id h = let f = at_contains a.queue.items id h in contains_at b.queue.items f.0 id (queue f.0 id f.1)

pub adds_more : (xs : List FullNodeId) (y : FullNodeId) (a b c : Search) → Enqueues xs a b → Enqueues (y ∷ []) b c → Enqueues (xs ++ y ∷ []) a c
adds_more xs y a b c f g = record {
  search = g.search;
  queue = λ i x e. g.queue i x (f.queue i x e);
  added = λ x h. ⊎_elim (λ before. kept b c g.queue x (f.added x before)) (λ same. g.added x (subst (Contains (y ∷ [])) same (contains_first y []))) (contains_push xs y x h);
  only = λ x h. ⊎_elim (λ before. ⊎_elim inl (λ i. inr (Contains-append_left xs (y ∷ []) x i)) (f.only x before)) (λ one. inr (subst (Contains (xs ++ y ∷ [])) (contains_one y x one) (contains_last xs y))) (g.only x h);
}

module _ (w : World) (u : UpdateData) where
  abbrev m : World
  m = merged_world w u

  -- the first of the queue are worked off
  pub record IsSearching (n : ℕ) (a b : Search) : Type 0 where
    pub search : IsSearch b
    pub queue : (i : ℕ) (id : FullNodeId) → slice_get a.queue.items i ≡ Some id → slice_get b.queue.items i ≡ Some id
    pub closed : (k : ℕ) (id c : FullNodeId) → k < n → slice_get b.queue.items k ≡ Some id → Contains (listed_ids m id) c → Contains b.queue.items c
    pub reached : ((id : FullNodeId) → Contains a.queue.items id → Reached m id × (id.tree ≡ index_for w u.name)) → (id : FullNodeId) → Contains b.queue.items id → Reached m id × (id.tree ≡ index_for w u.name)

  pub searching_start : (a : Search) → IsSearch a → IsSearching 0 a a
  searching_start a search = record { search = search; queue = λ i id e. e; closed = λ k id c lt is h. absurd (omega arith); reached = λ all. all }

  pub searching_more : (n : ℕ) (id : FullNodeId) (a b c : Search) → slice_get b.queue.items n ≡ Some id → IsSearching n a b → Enqueues (listed_ids m id) b c → IsSearching (n + 1) a c
  searching_more n id a b c is i e = record {
    search = e.search;
    queue = λ j x f. e.queue j x (i.queue j x f);
    closed = λ k x y lt at_k h. ⊎_elim (λ before. kept b c e.queue y (i.closed k x y before (before_at k x before at_k) h)) (λ same. e.added y (subst (λ z. Contains (listed_ids m z) y) (sym (same_Some id x (sym (e.queue n id is) ∙ ap (slice_get c.queue.items) (sym same) ∙ at_k))) h)) (below_or_last k lt);
    reached = λ all x h. ⊎_elim (λ before. i.reached all x before) (λ listed_ids. child x (i.reached all id (contains_at b.queue.items n id is)) listed_ids) (e.only x h);
  }
    where
      below_or_last : (k : ℕ) → k < n + 1 → (k < n) ⊎ (k ≡ n)
      below_or_last k lt = ⊎_elim inl (λ le. inr (omega arith)) (cases_lt k n)

      before_at : (k : ℕ) (x : FullNodeId) → k < n → slice_get c.queue.items k ≡ Some x → slice_get b.queue.items k ≡ Some x
      before_at k x lt at_k =
          let n_within : n < length b.queue.items = slice_get_within b.queue.items n id is in
          let within : k < length b.queue.items = omega arith in
          let there : slice_get b.queue.items k ≡ Some (get_or b.queue.items k x) = slice_get-get_or b.queue.items k x within in
          there ∙ sym (e.queue k (get_or b.queue.items k x) there) ∙ at_k

      child : (x : FullNodeId) → Reached m id × (id.tree ≡ index_for w u.name) → Contains (listed_ids m id) x → Reached m x × (x.tree ≡ index_for w u.name)
      child x r h = let f = at_contains (listed_ids m id) x h in (world.Reached.child id x f.0 r.0 f.1, listed_tree m (id, f.0) x f.1 ∙ r.1)

  pub searching_end : (n : ℕ) (a b : Search) → length b.queue.items ≤ n → IsSearching n a b → SearchesAll w u a b
  searching_end n a b all i = record {
    search = i.search;
    kept = kept a b i.queue;
    closed = λ p c h lists. let f = at_contains b.queue.items p.0 h in let lt : f.0 < length b.queue.items = slice_get_within b.queue.items f.0 p.0 f.1 in i.closed f.0 p.0 c (omega arith) f.1 (contains_at (listed_ids m p.0) p.1 c lists);
    reached = i.reached;
  }

  -- from the root
  pub has_reached : (o : IsOld w) (p : Opened) → HoldsOpened w u p → (a b c : Search) → a.queue.items ≡ [] → Enqueues (in_tree p.index p.root ∷ []) a b → SearchesAll w u b c → HasReached w u c.seen
  has_reached o p opening a b c empty first all id = (
    λ h. all.reached begun id ((all.search id).0 h),
    λ r. (all.search id).1 (search_all w u o (λ x. Contains c.queue.items x) (index_for w u.name) root all.closed id r.0 r.1),
  )
    where
      begun : (x : FullNodeId) → Contains b.queue.items x → Reached m x × (x.tree ≡ index_for w u.name)
      begun x h = ⊎_elim (λ before. absurd (contains_none x (subst (λ xs. Contains xs x) empty before))) (λ one. subst (λ y. Reached m y × (y.tree ≡ index_for w u.name)) (contains_one (in_tree p.index p.root) x one) (root_reached m p.index (in_tree p.index p.root) opening.root, opening.index)) (first.only x h)

      root : (x : FullNodeId) → root_of m (index_for w u.name) ≡ Some x → Contains c.queue.items x
      root x is = all.kept x (first.added x (subst (Contains (in_tree p.index p.root ∷ [])) (same_Some (in_tree p.index p.root) x (sym opening.root ∙ ap (root_of m) opening.index ∙ is)) (contains_first (in_tree p.index p.root) [])))

  -- ---- a node's data afterwards

  module _ (d : Compared) (k : HoldsCompared w u d) where
    pub named_fits : (id : FullNodeId) (n : Named) → at d.named id ≡ Some n → n.entry < length u.nodes
    named_fits id n is =
        let within : n.entry < length (map (λ e. e.0) u.nodes) = slice_get_within (map (λ e. e.0) u.nodes) n.entry id.node (k.is_named id n is).entry in
        let same : length (map (λ e. e.0) u.nodes) ≡ length u.nodes = length-map u.nodes (λ e. e.0) in
        omega arith

    lists_of : (id : FullNodeId) (x : NodeData) → HasData m id x → listed_ids m id ≡ map (in_tree id.tree) x.children
    lists_of id x has = ap (λ o. option_map_or (λ y. map (in_tree id.tree) y.children) o []) has

    pub named_lists : (id : FullNodeId) (n : Named) (e : NodeId × NodeData) → at d.named id ≡ Some n → slice_get u.nodes n.entry ≡ Some e → listed_ids m id ≡ map (in_tree id.tree) e.1.children
    named_lists id n e is at_entry =
        let f = k.is_named id n is in
        lists_of id e.1 (entry_named w u id n.entry k.compared.named_once f.named.0 f.entry ∙ ap (option_map (λ (x : NodeId × NodeData). x.1)) at_entry)

    unnamed : (id : FullNodeId) → at d.named id ≡ None → data_of m id ≡ data_of w id
    unnamed id none = unnamed_data w u id (λ n. no_some (at d.named id) none (k.has_named id n))

    pub old_lists : (id : FullNodeId) (x : NodeData) → at d.named id ≡ None → HasData w id x → listed_ids m id ≡ map (in_tree id.tree) x.children
    old_lists id x none has = lists_of id x (unnamed id none ∙ has)

    pub nothing_listed : (id : FullNodeId) → at d.named id ≡ None → data_of w id ≡ None → listed_ids m id ≡ []
    nothing_listed id none absent = ap (λ o. option_map_or (λ y. map (in_tree id.tree) y.children) o []) (unnamed id none ∙ absent)

  -- ---- what is refused

  module _ (o : IsOld w) (d : Compared) (k : HoldsCompared w u d) where
    pub unlisted_refused : (e : UpdateError) → IsOfUnlisted d e → IsRefusal w u e
    unlisted_refused e f =
        let n = k.is_named f.0 f.1.0 f.1.1 in
        let none : ¬ (HasEntered w u f.0) = not_arrived w u d k f.0 f.1.2.1 in
        subst (IsRefusal w u) (sym f.2) (unentered_stands w u o f.0 n.named (n.new f.1.2.0) none)

    pub explained : (r : Removed) → HoldsRemoved w u r → (reached : BTreeSet FullNodeId) → HasReached w u reached → (c : FullNodeId) → IsListedStill w u c → (e : UpdateError) → Explains d reached c e → IsRefusal w u e
    explained r removal reached all c (s, q, entered, was, still, stays) e (inl f) =
        let n = value_of (at d.named f.0) f.1 in
        let named : IsNamed w u f.0 = (k.is_named f.0 n.0 n.1).named in
        subst (IsRefusal w u) (sym f.3) (f.0, refl, named, λ h. f.2 ((all f.0).1 (h, named.0)))
    explained r removal reached all c (s, q, entered, was, still, stays) e (inr f) =
        let named : (n : FullNodeId) → IsNamed w u n → Reached m n = λ n is. ((all n).0 (f.0 n (k.has_named n is))).0 in
        subst (IsRefusal w u) (sym f.1) (doubled_stands w u o removal.removed named s q c entered was still stays)

    module _ (a : Settled) (settlement : HoldsSettled w u a) (r : Removed) (removal : HoldsRemoved w u r) where
      pub doubled_still : (c : FullNodeId) (q : Place) → Contains a.doubles.items (c, q) → IsKept r q → IsListedStill w u c
      doubled_still c q is stays =
          let f = (settlement.doubled c q).0 is in
          (f.0.0, q, f.0.1, f.1, f.2, λ gone. stays ((removal.gone q.0).1 gone))

      pub refined : AreListed d → ((c : FullNodeId) (q : Place) → Contains a.doubles.items (c, q) → ¬ (IsKept r q)) → IsRefined w u
      refined listed_ids apart = record {
        removed = removal.removed;
        new_entered = λ n named absent. certain (decide_entered w u n) (λ none. let x = value_of (at d.named n) (k.has_named n named) in listed_ids n (x.0, x.1, (new n x.0 x.1 absent, no_arrival w u d k n none)));
        doubled_gone = λ s q c e was still. certain_gone q (apart c q ((settlement.doubled c q).1 ((s, e), was, still)));
      }
        where
          new : (n : FullNodeId) (x : Named) → at d.named n ≡ Some x → ¬ (IsNode w n) → x.was ≡ None
          new n x is absent = go x.was refl
            where
              go : (o : Option (Option Place)) → x.was ≡ o → o ≡ None
              go None e = refl
              go (Some p) e = absurd (absent ((k.is_named n x is).old p e).0)

          certain_gone : (q : Place) → (¬ (has r.gone q.0) → ⊥) → Gone w u q.0
          certain_gone q h = go (contains full_cmp r.gone q.0) refl
            where
              go : (b : Bool) → contains full_cmp r.gone q.0 ≡ b → Gone w u q.0
              go true e = (removal.gone q.0).0 e
              go false e = absurd (h (λ is. let f : false ≡ true = sym e ∙ is in cc))
