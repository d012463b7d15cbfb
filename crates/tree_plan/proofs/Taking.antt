-- The named nodes, entry by entry.
use Rattle.std.proofs.Common.{◌≡◌, ◌≢◌, ◌⊎◌, ⊎_elim, ◌↔◌, ℕ, zero, suc, ◌+◌, ◌<◌, List, [], ◌∷◌, ◌++◌, length, map, take, slice_get, Contains, Some, IsSome, option_map, inl, inr, refl, sym, ap, subst, ◌∙◌, arith}
use Rattle.std.specs.Map.{keys_of}
use Rattle.std.specs.List.Sorted.{IsPermutation}
use Rattle.std.proofs.lemmas.Bool.{cases_lt}
use Rattle.std.proofs.lemmas.List.{length-map, map-append, take_more}
use Rattle.std.proofs.lemmas.List.Sorted.{length_permutation}
use Rattle.std.proofs.lemmas.Map.Entries.{length-keys_of}
use Rattle.std.proofs.lemmas.Option.{same_Some, slice_get-map, slice_get_within, get_or_from_slice_get}
use Rattle.values_by_id.specs.Rows.{IsTwice}
use Rattle.schema.specs.declared.NodeId.{NodeId}
use Rattle.schema.specs.NodeData.{NodeData}
use Rattle.model.specs.declared.FullNodeId.{FullNodeId}
use Rattle.model.specs.World.{World, in_tree}
use Rattle.model.specs.Update.{UpdateData, index_for, named_at}
use Rattle.model.proofs.Worlds.Names.{same_id}
use Rattle.model.proofs.State.StatePlaces.{value_of}
use Rattle.tree_plan.specs.declared.passes.Named.{Named}
use Rattle.tree_plan.specs.Passes.{at}
use Rattle.tree_plan.specs.Comparisons.{AreEntriesTaken}
use Rattle.tree_plan.proofs.IdMaps.{some_is, contains_at, at_contains}

-- the id in an entry that was read
pub entry_id : (u : UpdateData) (k : ℕ) (e : NodeId × NodeData) → slice_get u.nodes k ≡ Some e → named_at u k ≡ Some e.0
entry_id u k e at = slice_get-map (λ (e : NodeId × NodeData). e.0) u.nodes k ∙ ap (option_map (λ (e : NodeId × NodeData). e.0)) at

-- a loop over the entries reads one, which names the node
pub record IsTurn (w : World) (u : UpdateData) (k : ℕ) (e : NodeId × NodeData) (id : FullNodeId) : Type 0 where
  pub at : slice_get u.nodes k ≡ Some e
  pub names : id ≡ in_tree (index_for w u.name) e.0

pub last_or_before : (j k : ℕ) → j < k + 1 → (j < k) ⊎ (j ≡ k)
last_or_before j k lt = ⊎_elim inl (λ ge. inr (omega arith)) (cases_lt j k)

-- an id among entries, with its value
key_of : {X : Type 0} (es : List (FullNodeId × X)) (j : ℕ) (e : FullNodeId × X) → slice_get es j ≡ Some e → slice_get (keys_of es) j ≡ Some e.0
key_of [] j e is = cc
key_of {X} (f ∷ es) zero e is = ap (λ (x : FullNodeId × X). Some x.0) (same_Some f e is)
key_of (f ∷ es) (suc j) e is = key_of es j e is

pub value_at : {X : Type 0} (es : List (FullNodeId × X)) (j : ℕ) (id : FullNodeId) → slice_get (keys_of es) j ≡ Some id → (v : X) × (slice_get es j ≡ Some (id, v))
value_at [] j id is = cc
value_at {X} (f ∷ es) zero id is = let pair : FullNodeId → FullNodeId × X = λ k. (k, f.1) in (f.1, ap (λ k. Some (pair k)) (same_Some f.0 id is))
value_at (f ∷ es) (suc j) id is = value_at es j id is

module _ (index : ℕ) (u : UpdateData) where
  -- the ids that the entries name, in their order
  abbrev pub entry_ids : List FullNodeId
  entry_ids = map (λ (e : NodeId × NodeData). in_tree index e.0) u.nodes

  entry_to : (es : List (NodeId × NodeData)) (j : ℕ) (id : FullNodeId) → slice_get (map (λ (e : NodeId × NodeData). in_tree index e.0) es) j ≡ Some id → (id.tree ≡ index) × (slice_get (map (λ (e : NodeId × NodeData). e.0) es) j ≡ Some id.node)
  entry_to [] j id is = cc
  entry_to (e ∷ es) zero id is = let same : in_tree index e.0 ≡ id = same_Some (in_tree index e.0) id is in (sym (ap (λ (x : FullNodeId). x.tree) same), ap (λ (x : FullNodeId). Some x.node) same)
  entry_to (e ∷ es) (suc j) id is = entry_to es j id is

  entry_from : (es : List (NodeId × NodeData)) (j : ℕ) (id : FullNodeId) → id.tree ≡ index → slice_get (map (λ (e : NodeId × NodeData). e.0) es) j ≡ Some id.node → slice_get (map (λ (e : NodeId × NodeData). in_tree index e.0) es) j ≡ Some id
  entry_from [] j id tree is = cc
  entry_from (e ∷ es) zero id tree is = ap Some (same_id (in_tree index e.0) id (sym tree) (same_Some e.0 id.node is))
  entry_from (e ∷ es) (suc j) id tree is = entry_from es j id tree is

  -- one more entry
  pub taken_next : (k : ℕ) (e : NodeId × NodeData) → slice_get u.nodes k ≡ Some e → (list : List (FullNodeId × Named)) → keys_of list ≡ take k entry_ids → (id : FullNodeId) (v : Named) → id ≡ in_tree index e.0
      → keys_of (list ++ (id, v) ∷ []) ≡ take (k + 1) entry_ids
  taken_next k e at_k list so_far id v same =
      let is : slice_get entry_ids k ≡ Some id = slice_get-map (λ (x : NodeId × NodeData). in_tree index x.0) u.nodes k ∙ ap (option_map (λ (x : NodeId × NodeData). in_tree index x.0)) at_k ∙ ap Some (sym same) in
      let here = get_or_from_slice_get entry_ids k id id is in
      let pair : FullNodeId × Named = (id, v) in
      map-append (λ (x : FullNodeId × Named). x.0) list (pair ∷ []) ∙ ap (λ ks. ks ++ id ∷ []) so_far
      ∙ sym (take_more entry_ids k id (slice_get_within entry_ids k id is) ∙ ap (λ x. take k entry_ids ++ x ∷ []) here)

  module _ (list : List (FullNodeId × Named)) (whole : keys_of list ≡ entry_ids) where
    named_to : (j : ℕ) (id : FullNodeId) → slice_get (keys_of list) j ≡ Some id → (id.tree ≡ index) × (named_at u j ≡ Some id.node)
    named_to j id is = entry_to u.nodes j id (subst (λ ks. slice_get ks j ≡ Some id) whole is)

    named_from : (j : ℕ) (id : FullNodeId) → id.tree ≡ index → named_at u j ≡ Some id.node → slice_get (keys_of list) j ≡ Some id
    named_from j id tree is = subst (λ ks. slice_get ks j ≡ Some id) (sym whole) (entry_from u.nodes j id tree is)

    long : length list ≡ length u.nodes
    long = sym (length-keys_of list) ∙ ap length whole ∙ length-map u.nodes (λ (e : NodeId × NodeData). in_tree index e.0)

    -- what stands twice is named twice
    pub taken_twice : (id : FullNodeId) → IsTwice list id → (i j : ℕ) × (i ≢ j) × (named_at u i ≡ Some id.node) × (named_at u j ≡ Some id.node)
    taken_twice id h = (h.0, h.1, (λ same. let lt : h.0 < h.1 = h.2 in omega arith), (named_to h.0 id h.3).1, (named_to h.1 id h.4).1)

    module _ (rows : List (FullNodeId × Named)) (same : IsPermutation list rows) (reads : (id : FullNodeId) (v : Named) → (at rows id ≡ Some v) ↔ Contains list (id, v)) (once : (id : FullNodeId) → ¬ (IsTwice list id)) where
      to : (id : FullNodeId) → IsSome (at rows id) → (id.tree ≡ index) × (j : ℕ) × (j < length u.nodes) × (named_at u j ≡ Some id.node)
      to id there =
          let v = value_of (at rows id) there in
          let f = at_contains list (id, v.0) ((reads id v.0).0 v.1) in
          let n = named_to f.0 id (key_of list f.0 (id, v.0) f.1) in
          (n.0, f.0, (let lt = slice_get_within list f.0 (id, v.0) f.1 in omega (arith, long)), n.1)

      from : (id : FullNodeId) (j : ℕ) → id.tree ≡ index → named_at u j ≡ Some id.node → IsSome (at rows id)
      from id j tree is =
          let f = value_at list j id (named_from j id tree is) in
          some_is (at rows id) f.0 ((reads id f.0).1 (contains_at list j (id, f.0) f.1))

      apart : (i j : ℕ) (n : NodeId) → i < j → named_at u i ≡ Some n → named_at u j ≡ Some n → ⊥
      apart i j n less at_i at_j = once (in_tree index n) (i, j, less, named_from i (in_tree index n) refl at_i, named_from j (in_tree index n) refl at_j)

      pub taken : AreEntriesTaken index u (length u.nodes) rows
      taken = record {
        has = λ id. (to id, λ f. from id f.1 f.0 f.3);
        once = λ i j n lt lt' at_i at_j. ⊎_elim (λ less. absurd (apart i j n less at_i at_j)) (λ ge. ⊎_elim (λ less. absurd (apart j i n less at_j at_i)) (λ ge'. omega arith) (cases_lt j i)) (cases_lt i j);
        count_of = length_permutation list rows same ∙ long;
      }
