-- An update is accepted, or some fault stands for it.
use Rattle.std.proofs.Common.{get_or, Contains, Bool, true, false, cond, Ordering, Less, Equal, Greater, ◌≡◌, ◌≢◌, ℕ, zero, suc, ◌+◌, ◌<◌, ◌≤◌, ◌-◌, ◌^◌, List, [], ◌∷◌, ◌++◌, length, map, slice_get, Option, Some, None, IsSome, ◌⊎◌, inl, inr, ⊎_elim, refl, sym, ap, ◌∙◌, subst, arith}
use Rattle.std.specs.FinMap.{FinMap, get, entries, find, get-entries, IsAntisymmetric, nat_cmp-IsAntisymmetric}
use Rattle.std.specs.Ordering.{is_eq, eq_by_cmp}
use Rattle.model.specs.FullIds.{exact_full}
use Rattle.std.proofs.lemmas.Bool.{cases_eq, cases_lt}
use Rattle.std.proofs.lemmas.Option.{same_Some}
use Rattle.schema.specs.declared.NodeId.{NodeId}
use Rattle.schema.specs.declared.TreeId.{TreeId}
use Rattle.model.specs.declared.FullNodeId.{FullNodeId}
use Rattle.model.specs.World.{ROOT_NAME, World, Tree, IsNode, data_of, in_tree, index_of, listed_ids, graft_name, root_of, root_named, focus_of, focus_named, Place, Reached, Kept}
use Rattle.model.specs.Focus.{OnChain, first, next, GoesOn}
use Rattle.model.specs.Update.{UpdateData, Fault, MissingTreeInfo, NotRootTree, MissingData, NotReached, NamedTwice, ListedTwice, RootTreeGrafted, GraftWithChildren, GraftedTwice, NoGraft, NoFirstTreeInfo, FocusMissing, FocusOnEmptyGraft, IndexesUsedUp, StandsApart, Stands, IsJudged, IsFirst, IsNamed, named_at, IsListedAt, IsGraftOf, IsOnEmptyGraft, IsAccepted, index_for, merged_world}
use Rattle.model.specs.State.{Lists}
use Rattle.model.proofs.Worlds.Names.{same_id, cases_id, cases_place, cases_name, cases_some}
use Rattle.model.proofs.State.StatePlaces.{map_some, and_then_some, value_of, graft_is_node, lister_is_node}
use Rattle.model.proofs.Closure.{IsDecided, decide_both, decide_by, decide_path, Path, start, step}
use Rattle.model.proofs.Update.RulesOrFault.{decide_grafted}
use Rattle.model.proofs.Update.RebuildIsThere.{decide_reached, decide_kept, found, edge_at, edge_parts, rebuild_exists}

equal : (o : Ordering) → is_eq o ≡ true → o ≡ Equal
equal Less e = cc
equal Equal e = refl
equal Greater e = cc

-- x is one of these
abbrev pub IsIn : {A : Type 0} → A → List A → Type 0
IsIn x [] = ⊥
IsIn x (y ∷ ys) = (y ≡ x) ⊎ IsIn x ys

pub decide_any : {A : Type 0} (Q : A → Type 0) → ((x : A) → IsDecided (Q x)) → (xs : List A) → IsDecided ((x : A) × IsIn x xs × Q x)
decide_any Q decide [] = inr (λ h. h.1)
decide_any {A} Q decide (y ∷ ys) = go (decide y) (decide_any Q decide ys)
  where
    out : (x : A) → (y ≡ x) ⊎ IsIn x ys → Q x → (Q y → ⊥) → (((x : A) × IsIn x ys × Q x) → ⊥) → ⊥
    out x (inl e) q here there = here (subst Q (sym e) q)
    out x (inr e) q here there = there (x, e, q)

    go : IsDecided (Q y) → IsDecided ((x : A) × IsIn x ys × Q x) → IsDecided ((x : A) × IsIn x (y ∷ ys) × Q x)
    go (inl q) d = inl (y, inl refl, q)
    go (inr q) (inl d) = inl (d.0, inr d.1, d.2)
    go (inr q) (inr d) = inr (λ h. out h.0 h.1 h.2 q d)

pub decide_not : {P : Type 0} → IsDecided P → IsDecided (P → ⊥)
decide_not (inl p) = inr (λ n. n p)
decide_not (inr n) = inl n

pub decide_either : {P Q : Type 0} → IsDecided P → IsDecided Q → IsDecided (P ⊎ Q)
decide_either (inl p) q = inl (inl p)
decide_either (inr p) (inl q) = inl (inr q)
decide_either (inr p) (inr q) = inr (λ h. ⊎_elim p q h)

-- what an element satisfies, with a place
is_in_at : {A : Type 0} (xs : List A) (i : ℕ) (x : A) → slice_get xs i ≡ Some x → IsIn x xs
is_in_at [] i x e = cc
is_in_at (y ∷ ys) zero x e = inl (same_Some y x e)
is_in_at (y ∷ ys) (suc i) x e = inr (is_in_at ys i x e)

is_in_append : {A : Type 0} (xs ys : List A) (x : A) → IsIn x xs ⊎ IsIn x ys → IsIn x (xs ++ ys)
is_in_append [] ys x (inr h) = h
is_in_append [] ys x (inl h) = absurd h
is_in_append (z ∷ xs) ys x (inl (inl e)) = inl e
is_in_append (z ∷ xs) ys x (inl (inr e)) = inr (is_in_append xs ys x (inl e))
is_in_append (z ∷ xs) ys x (inr h) = inr (is_in_append xs ys x (inr h))

-- the elements with their places
abbrev placed : FullNodeId → ℕ → List FullNodeId → List (Place × FullNodeId)
placed p i [] = []
placed p i (x ∷ xs) = ((p, i), x) ∷ placed p (suc i) xs

placed_in : (p : FullNodeId) (k : ℕ) (xs : List FullNodeId) (i j : ℕ) (x : FullNodeId) → i + k ≡ j → slice_get xs i ≡ Some x → IsIn ((p, j), x) (placed p k xs)
placed_in p k [] i j x same e = cc
placed_in p k (y ∷ ys) zero j x same e = let index : k ≡ j = omega arith in let child : y ≡ x = same_Some y x e in inl (λ n. ((p, index n), child n))
placed_in p k (y ∷ ys) (suc i) j x same e = inr (placed_in p (suc k) ys i j x (omega arith) e)

is_in_map : {A B : Type 0} (f : A → B) (xs : List A) (x : A) → IsIn x xs → IsIn (f x) (map f xs)
is_in_map f [] x h = absurd h
is_in_map f (y ∷ ys) x (inl e) = inl (ap f e)
is_in_map f (y ∷ ys) x (inr h) = inr (is_in_map f ys x h)

-- what is found is one of the entries
is_entry : {K X : Type 0} {R : K → K → Ordering} → IsAntisymmetric R → (m : FinMap R X) (q : K) (x : X) → get m q ≡ Some x → IsIn (q, x) (entries m)
is_entry {K} {X} {R} exact m q x is = go (entries m) (sym (get-entries m q) ∙ is)
  where
    tied : (e : K × X) (es : List (K × X)) (b : Bool) → eq_by_cmp R q e.0 ≡ b → cond b (Some e.1) (find R q es) ≡ Some x → (find R q es ≡ Some x → IsIn (q, x) es) → (e ≡ (q, x)) ⊎ IsIn (q, x) es
    tied e es true t is later = let key : q ≡ e.0 = exact q e.0 (equal (R q e.0) t) in let value : e.1 ≡ x = same_Some e.1 x is in inl (λ i. (sym key i, value i))
    tied e es false t is later = inr (later is)

    go : (es : List (K × X)) → find R q es ≡ Some x → IsIn (q, x) es
    go [] is = cc
    go (e ∷ es) is = tied e es (eq_by_cmp R q e.0) refl is (go es)

pub decide_id : (o : Option FullNodeId) (id : FullNodeId) → IsDecided (o ≡ Some id)
decide_id None id = inr (λ e. cc)
decide_id (Some x) id = decide_by (ap Some) (same_Some x id) (cases_id x id)

pub decide_name : (o : Option TreeId) (name : TreeId) → IsDecided (o ≡ Some name)
decide_name None name = inr (λ e. cc)
decide_name (Some k) name = decide_by (ap Some) (same_Some k name) (cases_name k name)

decide_none : {A : Type 0} (o : Option A) → IsDecided (o ≡ None)
decide_none None = inl refl
decide_none (Some x) = inr (λ e. cc)

module _ (w : World) where
  pub keys : List FullNodeId
  keys = map (λ e. e.0) (entries w.nodes)

  pub is_key : (id : FullNodeId) → IsNode w id → IsIn id keys
  unfolding keys
  is_key id there = let d = value_of (data_of w id) there in is_in_map (λ e. e.0) (entries w.nodes) (id, d.0) (is_entry exact_full w.nodes id d.0 d.1)

  pub places : List FullNodeId → List (Place × FullNodeId)
  places [] = []
  places (k ∷ ks) = placed k 0 (listed_ids w k) ++ places ks

  is_place_of : (ks : List FullNodeId) (p : Place) (child : FullNodeId) → IsIn p.0 ks → Lists w p child → IsIn (p, child) (places ks)
  unfolding places
  is_place_of [] p child h at = absurd h
  is_place_of (k ∷ ks) p child (inl e) at =
      is_in_append (placed k 0 (listed_ids w k)) (places ks) (p, child) (inl (subst (λ j. IsIn (p, child) (placed j 0 (listed_ids w j))) (sym e) (placed_in p.0 0 (listed_ids w p.0) p.1 p.1 child (omega arith) at)))
  is_place_of (k ∷ ks) p child (inr h) at = is_in_append (placed k 0 (listed_ids w k)) (places ks) (p, child) (inr (is_place_of ks p child h at))

  pub is_place : (p : Place) (child : FullNodeId) → Lists w p child → IsIn (p, child) (places keys)
  is_place p child at = is_place_of keys p child (is_key p.0 (lister_is_node w p child at)) at

  focuses : List FullNodeId
  focuses = map (λ e. in_tree e.0 e.1.focus) (entries w.trees)

  is_focus : (index : ℕ) (t : Tree) → get w.trees index ≡ Some t → IsIn (in_tree index t.focus) focuses
  unfolding focuses
  is_focus index t is = is_in_map (λ e. in_tree e.0 e.1.focus) (entries w.trees) (index, t) (is_entry nat_cmp-IsAntisymmetric w.trees index t is)

  chain_in : (id : FullNodeId) → OnChain w id → IsIn id focuses
  chain_in id (first t is) = is_focus 0 t is
  chain_in id (next graft id' on goes) =
      let i = and_then_some (focus_of w) (index_of w goes.name) id goes.declared in
      let t = map_some (λ t. in_tree i.0 t.focus) (get w.trees i.0) id i.2 in
      subst (λ x. IsIn x focuses) t.2 (is_focus i.0 t.0 t.1)

  First : FullNodeId → Type 0
  First id = (t : Tree) × (get w.trees 0 ≡ Some t) × (in_tree 0 t.focus ≡ id)

  decide_first : (id : FullNodeId) → IsDecided (First id)
  unfolding First
  decide_first id = go (get w.trees 0) refl
    where
      go : (o : Option Tree) → get w.trees 0 ≡ o → IsDecided (First id)
      go None e = inr (λ h. cc (e, h.1))
      go (Some t) e = decide_by (λ same. (t, e, same)) (λ h. let same : t ≡ h.0 = same_Some t h.0 (sym e ∙ h.1) in ap (λ x. in_tree 0 x.focus) same ∙ h.2) (cases_id (in_tree 0 t.focus) id)

  decide_goes_on : (graft id : FullNodeId) → IsDecided (GoesOn w graft id)
  decide_goes_on graft id = go (graft_name w graft) refl (decide_both (decide_kept w graft.tree) (decide_reached w graft))
    where
      by_focus : (name : TreeId) → graft_name w graft ≡ Some name → Kept w graft.tree × Reached w graft → IsDecided (focus_named w name ≡ Some id) → IsDecided (GoesOn w graft id)
      by_focus name e k (inl is) = inl (record { kept = k.0; reached = k.1; name = name; grafts = e; declared = is })
      by_focus name e k (inr other) = inr (λ h. let same : h.name ≡ name = same_Some h.name name (sym h.grafts ∙ e) in other (ap (focus_named w) (sym same) ∙ h.declared))

      go : (o : Option TreeId) → graft_name w graft ≡ o → IsDecided (Kept w graft.tree × Reached w graft) → IsDecided (GoesOn w graft id)
      go o e (inr n) = inr (λ h. n (h.kept, h.reached))
      go None e (inl k) = inr (λ h. cc (e, h.grafts))
      go (Some name) e (inl k) = by_focus name e k (decide_id (focus_named w name) id)

  decide_chain : (id : FullNodeId) → IsDecided (OnChain w id)
  unfolding First
  decide_chain id = decide_by (to id) (from id) (decide_path (λ k. k) (GoesOn w) decide_goes_on (map (λ e. e.0) (entries w.nodes)) First decide_first id)
    where
      to : (id : FullNodeId) → Path (λ k. k) (GoesOn w) (map (λ e. e.0) (entries w.nodes)) First id → OnChain w id
      to id (start id' h) = subst (OnChain w) h.2 (first h.0 h.1)
      to id (step p q path edge) = let e = edge_parts (λ k. k) (GoesOn w) (map (λ e. e.0) (entries w.nodes)) p id edge in next p id (to p path) (subst (λ k. GoesOn w k id) e.1 e.2)

      from : (id : FullNodeId) → OnChain w id → Path (λ k. k) (GoesOn w) (map (λ e. e.0) (entries w.nodes)) First id
      from id (first t is) = start id (t, is, refl)
      from id (next graft id' on goes) = let d = found w graft (graft_is_node w graft goes.name goes.grafts) in step graft id (from graft on) (edge_at (λ k. k) (GoesOn w) (entries w.nodes) graft d.0 id d.1 goes)

-- the names of a list
contains_in : (xs : List NodeId) (n : NodeId) (k : ℕ) → k < length xs → get_or xs k n ≡ n → IsIn n xs
contains_in [] n k fits is = absurd (omega arith)
contains_in (x ∷ xs) n zero fits is = inl is
contains_in (x ∷ xs) n (suc k) fits is = inr (contains_in xs n k (omega arith) is)

in_contains : (xs : List NodeId) (n : NodeId) → IsIn n xs → Contains xs n
in_contains [] n h = absurd h
in_contains (x ∷ xs) n (inl e) = (0, omega arith, e)
in_contains (x ∷ xs) n (inr h) = let f = in_contains xs n h in (suc f.0, omega (arith, f.1), f.2)

decide_node : (a b : NodeId) → IsDecided (a ≡ b)
decide_node a b = decide_by (λ e i. record { 0 = e i }) (ap (λ x. x.0)) (cases_eq a.0 b.0)

decide_in : (xs : List NodeId) (n : NodeId) → IsDecided (IsIn n xs)
decide_in [] n = inr (λ h. h)
decide_in (x ∷ xs) n = decide_either (decide_node x n) (decide_in xs n)

numbered : ℕ → List NodeId → List (ℕ × NodeId)
numbered k [] = []
numbered k (x ∷ xs) = (k, x) ∷ numbered (suc k) xs

numbered_in : (k : ℕ) (xs : List NodeId) (i j : ℕ) (x : NodeId) → i + k ≡ j → slice_get xs i ≡ Some x → IsIn (j, x) (numbered k xs)
unfolding numbered
numbered_in k [] i j x same e = cc
numbered_in k (y ∷ ys) zero j x same e = let index : k ≡ j = omega arith in let node : y ≡ x = same_Some y x e in inl (λ n. (index n, node n))
numbered_in k (y ∷ ys) (suc i) j x same e = inr (numbered_in (suc k) ys i j x (omega arith) e)

decide_node_at : (o : Option NodeId) (n : NodeId) → IsDecided (o ≡ Some n)
decide_node_at None n = inr (λ e. cc)
decide_node_at (Some x) n = decide_by (ap Some) (same_Some x n) (decide_node x n)

module _ (old : World) (u : UpdateData) where
  abbrev m : World
  m = merged_world old u

  abbrev names : List NodeId
  names = map (λ e. e.0) u.nodes

  pub decide_named : (id : FullNodeId) → IsDecided (IsNamed old u id)
  decide_named id = decide_both (cases_eq id.tree (index_for old u.name)) (decide_by (in_contains names id.node) (λ c. contains_in names id.node c.0 c.1 c.2) (decide_in names id.node))

  decide_counts : (id : FullNodeId) → IsDecided (IsJudged old u id)
  decide_counts id = decide_either (decide_named id) (decide_both (decide_kept m id.tree) (decide_reached m id))

  decide_listed_at : (p : Place) (child : FullNodeId) → IsDecided (IsListedAt old u p child)
  decide_listed_at p child = decide_both (decide_counts p.0) (decide_id (slice_get (listed_ids m p.0) p.1) child)

  decide_graft_of : (id : FullNodeId) (name : TreeId) → IsDecided (IsGraftOf old u id name)
  decide_graft_of id name = decide_both (decide_counts id) (decide_name (graft_name m id) name)

  -- for one kind of fault: one stands, or none does
  abbrev Settles : {A : Type 0} → (A → Fault) → Type 0
  Settles {A} kind = ((a : A) × StandsApart old u (kind a)) ⊎ ((a : A) → ¬ (StandsApart old u (kind a)))

  settle_data : Settles MissingData
  settle_data = go (root (root_of m (index_for old u.name)) refl) (decide_any Lacks decide_lacks (places m (keys m)))
    where
      Lacks : Place × FullNodeId → Type 0
      Lacks e = IsListedAt old u e.0 e.1 × ¬ (IsNode m e.1)

      decide_lacks : (e : Place × FullNodeId) → IsDecided (Lacks e)
      decide_lacks e = decide_both (decide_listed_at e.0 e.1) (decide_not (cases_some (data_of m e.1)))

      RootLacks : Type 0
      RootLacks = (id : FullNodeId) × (root_of m (index_for old u.name) ≡ Some id) × ¬ (IsNode m id)

      of_root : (id : FullNodeId) → root_of m (index_for old u.name) ≡ Some id → IsSome (data_of m id) ⊎ (IsSome (data_of m id) → ⊥) → IsDecided RootLacks
      of_root id e (inl there) = inr (λ r. r.2 (subst (IsNode m) (same_Some id r.0 (sym e ∙ r.1)) there))
      of_root id e (inr absent) = inl (id, e, absent)

      root : (o : Option FullNodeId) → root_of m (index_for old u.name) ≡ o → IsDecided RootLacks
      root None e = inr (λ r. cc (e, r.1))
      root (Some id) e = of_root id e (cases_some (data_of m id))

      go : IsDecided RootLacks → IsDecided ((e : Place × FullNodeId) × IsIn e (places m (keys m)) × Lacks e) → Settles MissingData
      go (inl r) d = inl (r.0.node, (r.0, refl, r.2, inl r.1))
      go (inr r) (inl d) = inl (d.0.1.node, (d.0.1, refl, d.2.1, inr (d.0.0, d.2.0)))
      go (inr r) (inr d) = inr (λ n h. ⊎_elim (λ is. r (h.0, is, h.2)) (λ (l : (p : Place) × IsListedAt old u p h.0). d ((l.0, h.0), is_place m l.0 h.0 l.1.1, (l.1, h.2))) h.3)

  settle_reached : Settles NotReached
  settle_reached = go (decide_any Lost decide_lost names)
    where
      Lost : NodeId → Type 0
      Lost n = ¬ (Reached m (in_tree (index_for old u.name) n))

      decide_lost : (n : NodeId) → IsDecided (Lost n)
      decide_lost n = decide_not (decide_reached m (in_tree (index_for old u.name) n))

      go : IsDecided ((n : NodeId) × IsIn n names × Lost n) → Settles NotReached
      go (inl d) = inl (d.0, (in_tree (index_for old u.name) d.0, refl, (refl, in_contains names d.0 d.1), d.2))
      go (inr d) = inr (λ n h. d (h.0.node, contains_in names h.0.node h.2.1.0 h.2.1.1 h.2.1.2, λ r. h.3 (subst (Reached m) (same_id (in_tree (index_for old u.name) h.0.node) h.0 (sym h.2.0) refl) r)))

  settle_twice : Settles NamedTwice
  settle_twice = go (decide_any Twice decide_twice (numbered 0 names))
    where
      Again : ℕ × NodeId → ℕ × NodeId → Type 0
      Again a b = (a.0 ≢ b.0) × (named_at u a.0 ≡ Some a.1) × (named_at u b.0 ≡ Some a.1)

      decide_again : (a b : ℕ × NodeId) → IsDecided (Again a b)
      decide_again a b = go (decide_not (cases_eq a.0 b.0)) (decide_both (decide_node_at (named_at u a.0) a.1) (decide_node_at (named_at u b.0) a.1))
        where
          go : IsDecided (a.0 ≢ b.0) → IsDecided ((named_at u a.0 ≡ Some a.1) × (named_at u b.0 ≡ Some a.1)) → IsDecided (Again a b)
          go (inl n) (inl e) = inl (n, e.0, e.1)
          go (inr n) e = inr (λ h. n h.0)
          go (inl n) (inr e) = inr (λ h. e (h.1, h.2))

      Twice : ℕ × NodeId → Type 0
      Twice a = (b : ℕ × NodeId) × IsIn b (numbered 0 names) × Again a b

      decide_twice : (a : ℕ × NodeId) → IsDecided (Twice a)
      decide_twice a = decide_any (Again a) (decide_again a) (numbered 0 names)

      go : IsDecided ((a : ℕ × NodeId) × IsIn a (numbered 0 names) × Twice a) → Settles NamedTwice
      go (inl d) = inl (d.0.1, (d.0.0, d.2.0.0, d.2.2.0, d.2.2.1, d.2.2.2))
      go (inr d) = inr (λ n h. d ((h.0, n), numbered_in 0 names h.0 h.0 n (omega arith) h.3, ((h.1, n), numbered_in 0 names h.1 h.1 n (omega arith) h.4, (h.2, h.3, h.4))))

  settle_listed : Settles ListedTwice
  settle_listed = go (decide_any Wrong decide_wrong (places m (keys m)))
    where
      Elsewhere : Place × FullNodeId → Place × FullNodeId → Type 0
      Elsewhere e f = (e.0 ≢ f.0) × IsListedAt old u f.0 e.1

      Wrong : Place × FullNodeId → Type 0
      Wrong e = IsListedAt old u e.0 e.1 × (((f : Place × FullNodeId) × IsIn f (places m (keys m)) × Elsewhere e f) ⊎ (root_of m e.1.tree ≡ Some e.1))

      decide_wrong : (e : Place × FullNodeId) → IsDecided (Wrong e)
      decide_wrong e = decide_both (decide_listed_at e.0 e.1) (decide_either (decide_any (Elsewhere e) (λ f. decide_both (decide_not (cases_place e.0 f.0)) (decide_listed_at f.0 e.1)) (places m (keys m))) (decide_id (root_of m e.1.tree) e.1))

      go : IsDecided ((e : Place × FullNodeId) × IsIn e (places m (keys m)) × Wrong e) → Settles ListedTwice
      go (inl d) = inl (d.0.1.node, (d.0.1, refl, d.0.0, d.2.0, ⊎_elim (λ (f : (f : Place × FullNodeId) × IsIn f (places m (keys m)) × Elsewhere d.0 f). inl (f.0.0, f.2.0, f.2.1)) (λ root. inr root) d.2.1))
      go (inr d) = inr (λ n h. d ((h.2, h.0), is_place m h.2 h.0 h.3.1, (h.3, ⊎_elim (λ (q : (q : Place) × (h.2 ≢ q) × IsListedAt old u q h.0). inl ((q.0, h.0), is_place m q.0 h.0 q.2.1, (q.1, q.2))) (λ root. inr root) h.4)))

  settle_root_grafted : Settles RootTreeGrafted
  settle_root_grafted = go (decide_any (λ id. IsGraftOf old u id ROOT_NAME) (λ id. decide_graft_of id ROOT_NAME) (keys m))
    where
      go : IsDecided ((id : FullNodeId) × IsIn id (keys m) × IsGraftOf old u id ROOT_NAME) → Settles RootTreeGrafted
      go (inl d) = inl (d.0.node, (d.0, refl, d.2))
      go (inr d) = inr (λ n h. d (h.0, is_key m h.0 (graft_is_node m h.0 ROOT_NAME h.2.1), h.2))

  settle_children : Settles GraftWithChildren
  settle_children = go (decide_any Bad decide_bad (keys m))
    where
      Bad : FullNodeId → Type 0
      Bad id = (name : TreeId) × IsGraftOf old u id name × (listed_ids m id ≢ [])

      decide_empty : (xs : List FullNodeId) → IsDecided (xs ≡ [])
      decide_empty [] = inl refl
      decide_empty (x ∷ xs) = inr (λ e. cc)

      by_parts : (id : FullNodeId) (name : TreeId) → graft_name m id ≡ Some name → IsDecided (IsGraftOf old u id name) → IsDecided (listed_ids m id ≢ []) → IsDecided (Bad id)
      by_parts id name e (inl g) (inl l) = inl (name, g, l)
      by_parts id name e (inr g) l = inr (λ h. g (subst (λ k. IsGraftOf old u id k) (same_Some h.0 name (sym h.1.1 ∙ e)) h.1))
      by_parts id name e (inl g) (inr l) = inr (λ h. l h.2)

      by_name : (id : FullNodeId) (o : Option TreeId) → graft_name m id ≡ o → IsDecided (Bad id)
      by_name id None e = inr (λ h. cc (e, h.1.1))
      by_name id (Some name) e = by_parts id name e (decide_graft_of id name) (decide_not (decide_empty (listed_ids m id)))

      decide_bad : (id : FullNodeId) → IsDecided (Bad id)
      decide_bad id = by_name id (graft_name m id) refl

      go : IsDecided ((id : FullNodeId) × IsIn id (keys m) × Bad id) → Settles GraftWithChildren
      go (inl d) = inl (d.0.node, (d.0, refl, d.2.0, d.2.1, d.2.2))
      go (inr d) = inr (λ n h. d (h.0, is_key m h.0 (graft_is_node m h.0 h.2 h.3.1), (h.2, h.3, h.4)))

  settle_grafted : Settles GraftedTwice
  settle_grafted = go (decide_any Shared decide_shared (keys m))
    where
      Rival : FullNodeId → TreeId → FullNodeId → Type 0
      Rival id name other = (id ≢ other) × IsGraftOf old u other name

      Shared : FullNodeId → Type 0
      Shared id = (name : TreeId) × IsGraftOf old u id name × (other : FullNodeId) × IsIn other (keys m) × Rival id name other

      by_parts : (id : FullNodeId) (name : TreeId) → graft_name m id ≡ Some name → IsDecided (IsGraftOf old u id name) → IsDecided ((other : FullNodeId) × IsIn other (keys m) × Rival id name other) → IsDecided (Shared id)
      by_parts id name e (inl g) (inl o) = inl (name, g, o.0, o.1, o.2)
      by_parts id name e (inr g) o = inr (λ h. g (subst (λ k. IsGraftOf old u id k) (same_Some h.0 name (sym h.1.1 ∙ e)) h.1))
      by_parts id name e (inl g) (inr o) = inr (λ h. o (h.2, h.3, subst (λ k. Rival id k h.2) (same_Some h.0 name (sym h.1.1 ∙ e)) h.4))

      by_name : (id : FullNodeId) (o : Option TreeId) → graft_name m id ≡ o → IsDecided (Shared id)
      by_name id None e = inr (λ h. cc (e, h.1.1))
      by_name id (Some name) e = by_parts id name e (decide_graft_of id name) (decide_any (Rival id name) (λ other. decide_both (decide_not (cases_id id other)) (decide_graft_of other name)) (keys m))

      decide_shared : (id : FullNodeId) → IsDecided (Shared id)
      decide_shared id = by_name id (graft_name m id) refl

      go : IsDecided ((id : FullNodeId) × IsIn id (keys m) × Shared id) → Settles GraftedTwice
      go (inl d) = inl (d.2.0, (d.0, d.2.2, d.2.4.0, d.2.1, d.2.4.1))
      go (inr d) = inr (λ name h. d (h.0, is_key m h.0 (graft_is_node m h.0 name h.3.1), (name, h.3, h.1, is_key m h.1 (graft_is_node m h.1 name h.4.1), (h.2, h.4))))

  decide_is_first : IsDecided (IsFirst old)
  decide_is_first = go old.known
    where
      go : (xs : List TreeId) → IsDecided (xs ≡ [])
      go [] = inl refl
      go (x ∷ xs) = inr (λ e. cc)

  settle_info : IsDecided (StandsApart old u MissingTreeInfo)
  settle_info = decide_both decide_is_first (decide_none u.info)

  settle_root_tree : IsDecided (StandsApart old u NotRootTree)
  settle_root_tree = decide_both decide_is_first (decide_not (cases_name u.name ROOT_NAME))

  settle_no_graft : Settles NoGraft
  settle_no_graft = go (decide_not decide_is_first) (decide_both (decide_not (cases_name u.name ROOT_NAME)) (decide_not (decide_grafted old u.name)))
    where
      Ungrafted : Type 0
      Ungrafted = (u.name ≢ ROOT_NAME) × (((id : FullNodeId) × (graft_name old id ≡ Some u.name)) → ⊥)

      go : IsDecided (¬ (IsFirst old)) → IsDecided Ungrafted → Settles NoGraft
      go (inl l) (inl n) = inl (u.name, (l, refl, n.0, λ id grafts. n.1 (id, grafts)))
      go (inr l) n = inr (λ name h. l h.0)
      go (inl l) (inr n) = inr (λ name h. n ((λ e. h.2 (sym h.1 ∙ e)), λ g. h.3 g.0 (g.1 ∙ ap Some h.1)))

  settle_first_info : Settles NoFirstTreeInfo
  settle_first_info = go (decide_not decide_is_first) (decide_both (decide_none (get old.trees (index_for old u.name))) (decide_none u.info))
    where
      go : IsDecided (¬ (IsFirst old)) → IsDecided ((get old.trees (index_for old u.name) ≡ None) × (u.info ≡ None)) → Settles NoFirstTreeInfo
      go (inl l) (inl n) = inl (u.name, (l, refl, n.0, n.1))
      go (inr l) n = inr (λ name h. l h.0)
      go (inl l) (inr n) = inr (λ name h. n (ap (λ k. get old.trees (index_for old k)) h.1 ∙ h.2, h.3))

  settle_indexes : IsDecided (StandsApart old u IndexesUsedUp)
  settle_indexes = go (decide_not decide_is_first) (decide_none (index_of old u.name)) (cases_lt (length old.known) (2 ^ 32 - 1))
    where
      go : IsDecided (¬ (IsFirst old)) → IsDecided (index_of old u.name ≡ None) → (length old.known < 2 ^ 32 - 1) ⊎ (2 ^ 32 - 1 ≤ length old.known) → IsDecided (StandsApart old u IndexesUsedUp)
      go (inl l) (inl n) (inr far) = inl (l, n, far)
      go (inl l) (inl n) (inl left) = inr (λ h. let far = h.2 in omega arith)
      go (inl l) (inr n) far = inr (λ h. n h.1)
      go (inr l) n far = inr (λ h. l h.0)

  abbrev Apart : Type 0
  Apart = ((f : Fault) × StandsApart old u f) ⊎ ((f : Fault) → ¬ (StandsApart old u f))

  settle_apart : Apart
  settle_apart = go settle_info settle_root_tree settle_data settle_reached settle_twice settle_listed settle_root_grafted settle_children settle_grafted settle_no_graft settle_first_info settle_indexes
    where
      go : IsDecided (StandsApart old u MissingTreeInfo) → IsDecided (StandsApart old u NotRootTree) → Settles MissingData → Settles NotReached → Settles NamedTwice → Settles ListedTwice → Settles RootTreeGrafted → Settles GraftWithChildren → Settles GraftedTwice → Settles NoGraft → Settles NoFirstTreeInfo → IsDecided (StandsApart old u IndexesUsedUp) → Apart
      go (inl x) b c d e f g h i j k l = inl (MissingTreeInfo, x)
      go (inr a) (inl x) c d e f g h i j k l = inl (NotRootTree, x)
      go (inr a) (inr b) (inl x) d e f g h i j k l = inl (MissingData x.0, x.1)
      go (inr a) (inr b) (inr c) (inl x) e f g h i j k l = inl (NotReached x.0, x.1)
      go (inr a) (inr b) (inr c) (inr d) (inl x) f g h i j k l = inl (NamedTwice x.0, x.1)
      go (inr a) (inr b) (inr c) (inr d) (inr e) (inl x) g h i j k l = inl (ListedTwice x.0, x.1)
      go (inr a) (inr b) (inr c) (inr d) (inr e) (inr f) (inl x) h i j k l = inl (RootTreeGrafted x.0, x.1)
      go (inr a) (inr b) (inr c) (inr d) (inr e) (inr f) (inr g) (inl x) i j k l = inl (GraftWithChildren x.0, x.1)
      go (inr a) (inr b) (inr c) (inr d) (inr e) (inr f) (inr g) (inr h) (inl x) j k l = inl (GraftedTwice x.0, x.1)
      go (inr a) (inr b) (inr c) (inr d) (inr e) (inr f) (inr g) (inr h) (inr i) (inl x) k l = inl (NoGraft x.0, x.1)
      go (inr a) (inr b) (inr c) (inr d) (inr e) (inr f) (inr g) (inr h) (inr i) (inr j) (inl x) l = inl (NoFirstTreeInfo x.0, x.1)
      go (inr a) (inr b) (inr c) (inr d) (inr e) (inr f) (inr g) (inr h) (inr i) (inr j) (inr k) (inl x) = inl (IndexesUsedUp, x)
      go (inr a) (inr b) (inr c) (inr d) (inr e) (inr f) (inr g) (inr h) (inr i) (inr j) (inr k) (inr l) = inr none
        where
          none : (f : Fault) → ¬ (StandsApart old u f)
          none MissingTreeInfo x = a x
          none NotRootTree x = b x
          none (MissingData n) x = c n x
          none (NotReached n) x = d n x
          none (NamedTwice n) x = e n x
          none (ListedTwice n) x = f n x
          none (RootTreeGrafted n) x = g n x
          none (GraftWithChildren n) x = h n x
          none (GraftedTwice n) x = i n x
          none (NoGraft n) x = j n x
          none (NoFirstTreeInfo n) x = k n x
          none (FocusMissing n) x = x
          none (FocusOnEmptyGraft n) x = x
          none IndexesUsedUp x = l x

  stands : (f : Fault) → StandsApart old u f → Stands old u f
  stands (FocusMissing n) x = absurd x
  stands (FocusOnEmptyGraft n) x = absurd x
  stands f x = x

  -- the empty grafts and the lost nodes on the chain of the focus
  Empty : FullNodeId → Type 0
  Empty id = (name : TreeId) × (graft_name m id ≡ Some name) × (root_named m name ≡ None)

  decide_empty : (id : FullNodeId) → IsDecided (Empty id)
  unfolding Empty
  decide_empty id = by_name (graft_name m id) refl
    where
      by_root : (name : TreeId) → graft_name m id ≡ Some name → IsDecided (root_named m name ≡ None) → IsDecided (Empty id)
      by_root name e (inl n) = inl (name, e, n)
      by_root name e (inr n) = inr (λ h. n (ap (root_named m) (same_Some name h.0 (sym e ∙ h.1)) ∙ h.2))

      by_name : (o : Option TreeId) → graft_name m id ≡ o → IsDecided (Empty id)
      by_name None e = inr (λ h. cc (e, h.1))
      by_name (Some name) e = by_root name e (decide_none (root_named m name))

  abbrev Ends : Type 0
  Ends = ((f : Fault) × Stands old u f) ⊎ ((f : Fault) → ¬ (Stands old u f))

  settle_focus : ((f : Fault) → ¬ (StandsApart old u f)) → Ends
  unfolding Empty
  settle_focus none = go (decide_any OnEmpty (λ id. decide_both (decide_chain m id) (decide_both (decide_both (decide_kept m id.tree) (decide_reached m id)) (decide_empty id))) (focuses m)) (decide_any Lost (λ id. decide_both (decide_chain m id) (decide_not (decide_reached m id))) (focuses m))
    where
      OnEmpty : FullNodeId → Type 0
      OnEmpty id = OnChain m id × ((Kept m id.tree × Reached m id) × Empty id)

      Lost : FullNodeId → Type 0
      Lost id = OnChain m id × ¬ (Reached m id)

      no_empty_graft : (((id : FullNodeId) × IsIn id (focuses m) × OnEmpty id) → ⊥) → (name : TreeId) → ¬ (IsOnEmptyGraft m name)
      no_empty_graft d name h = d (h.0, chain_in m h.0 h.1, (h.1, ((h.2, h.3), (name, h.4, h.5))))

      neither : (((id : FullNodeId) × IsIn id (focuses m) × OnEmpty id) → ⊥) → (((id : FullNodeId) × IsIn id (focuses m) × Lost id) → ⊥) → (f : Fault) → ¬ (Stands old u f)
      neither d l (FocusOnEmptyGraft name) h = no_empty_graft d name h.1
      neither d l (FocusMissing n) h = l (h.2, chain_in m h.2 h.4, (h.4, h.5))
      neither d l f h = none f h

      go : IsDecided ((id : FullNodeId) × IsIn id (focuses m) × OnEmpty id) → IsDecided ((id : FullNodeId) × IsIn id (focuses m) × Lost id) → Ends
      go (inl d) l = inl (FocusOnEmptyGraft d.2.1.1.0, (none, (d.0, d.2.0, d.2.1.0.0, d.2.1.0.1, d.2.1.1.1, d.2.1.1.2)))
      go (inr d) (inl l) = inl (FocusMissing l.0.node, (none, no_empty_graft d, l.0, refl, l.2.0, l.2.1))
      go (inr d) (inr l) = inr (neither d l)

  pub settle : Ends
  settle = ⊎_elim (λ (h : (f : Fault) × StandsApart old u f). inl (h.0, stands h.0 h.1)) settle_focus settle_apart

  -- an update is accepted, or some fault stands
  pub accepted_or_fault : ((new : World) × IsAccepted old u new) ⊎ ((f : Fault) × Stands old u f)
  accepted_or_fault = go settle
    where
      go : Ends → ((new : World) × IsAccepted old u new) ⊎ ((f : Fault) × Stands old u f)
      go (inl h) = inr h
      go (inr none) = let r = rebuild_exists m in inl (r.0, (none, r.1))
