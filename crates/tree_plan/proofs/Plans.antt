-- The plan that moves the data into a decision's changes makes the world of the decision.
use Rattle.std.proofs.Common.{Contains, ◌≡◌, ◌≢◌, ℕ, zero, suc, Bool, true, false, ◌==◌, List, [], ◌∷◌, ◌++◌, map, length, slice_get, Option, Some, None, IsSome, option_map, option_and_then, unwrap_or, ◌⊎◌, inl, inr, ⊎_elim, ◌↔◌, refl, sym, ap, ◌∙◌, subst, arith, length-append}
use Rattle.std.specs.Prelude.{AllPairs, IsTrue, ◌||◌, if◌then◌else◌, is_some}
use Rattle.std.specs.Option.{option_map_or}
use Rattle.std.specs.FinMap.{FinMap, get}
use Rattle.std.specs.Cmp.{eq_by_cmp_equiv}
use Rattle.std.specs.Map.{keys_of}
use Rattle.std.specs.List.{AllByRecursion}
use Rattle.std.specs.List.Sorted.{IsStrictlySortedBy}
use Rattle.std.specs.Ordering.{is_eq}
use Rattle.std.specs.BTreeMap.{is_at}
use Rattle.std.specs.declared.cmp.Ordering.TheVariants.{Less}
use Rattle.std.proofs.lemmas.List.{length-map}
use Rattle.std.proofs.lemmas.Option.{same_Some, slice_get-map}
use Rattle.std.proofs.lemmas.Bool.{cases_eq, eq-eqb, ne_eqb}
use Rattle.std.proofs.lemmas.Map.Entries.{lookup_from_place}
use Rattle.std.proofs.lemmas.Map.Keys.{IsDistinct-from_sorted}
use Rattle.schema.specs.NodeData.{NodeData}
use Rattle.schema.specs.declared.NodeId.{NodeId}
use Rattle.schema.specs.declared.TreeId.{TreeId}
use Rattle.model.specs.declared.FullNodeId.{FullNodeId}
use Rattle.model.specs.FullIds.{full_cmp, full_total}
use Rattle.model.specs.World.{ROOT_NAME, World, Place, StandsAt, data_of, index_of}
use Rattle.model.specs.Focus.{IsEffectiveFocus}
use Rattle.model.specs.Run.{AreToldBy}
use Rattle.model.specs.Work.{IsWorkOf}
use Rattle.model.specs.Update.{UpdateData, IsAccepted, KeepsRules, index_for, known_after, toolkit_after, named_at}
use Rattle.model.specs.Surgery.{IsOld, IsOpened}
use Rattle.model.proofs.Closure.{IsDecided}
use Rattle.model.proofs.Worlds.Names.{is_name, is_name-true, is_name-itself, same_id, known-index_of}
use Rattle.model.proofs.Members.{contains_none, contains_head, contains_later, contains_cases}
use Rattle.model.proofs.Surgery.Spots.{index_here, index_zero, zero_index}
use Rattle.model.proofs.Surgery.RulesArePassed.{rules_passed}
use Rattle.model.proofs.State.StatePlaces.{map_some, and_then_some}
use Rattle.model.proofs.Update.RulesOrFault.{rules_or_fault}
use Rattle.tree_changes.specs.declared.look_ups.TreeRecord.{TreeRecord}
use Rattle.tree_changes.specs.declared.decision.NodeChange.{NodeChange}
use Rattle.tree_changes.specs.declared.decision.NodeChange.TheVariants as node
use Rattle.tree_changes.specs.declared.decision.Decision.{Decision}
use Rattle.tree_plan.specs.declared.plan.Change.{Change}
use Rattle.tree_plan.specs.declared.plan.Change.TheVariants.{Put, Tree}
use Rattle.tree_changes.specs.LookUps.{IsPlaceOf, IsTreeRecord}
use Rattle.tree_changes.specs.Changes.{NodeChanges, change_at, entry_of, entry_data, changed_data, set_at, put_all, if_kept, put_trees, tree_change, tree_after, overlaid_world}
use Rattle.tree_changes.specs.Decisions.{FindsData, Differs, TreeDiffers, names_of, IsDecision, IsWithinWork}
use Rattle.tree_plan.specs.declared.plan.Plan.{Plan}
use Rattle.tree_plan.specs.Plans.{tree_changes, nodes_changed, name_tree, name_trees, replaced_texts, planned_world}
use Rattle.tree_changes.proofs.Overlays.{effect, get-put_all, tree_change_in}
use Rattle.tree_plan.specs.Planned.{IsPlan, IsPlannedWithin, changed_nodes, slot_data, plan_change, AreTakenOnce, replaces}
use Rattle.tree_plan.proofs.Adding.{in_either, is_among}
use Rattle.tree_plan.proofs.IdMaps.{at_itself}
use Rattle.tree_plan.proofs.Assembled.{record_of}
use Rattle.tree_plan.proofs.Moving.{Slots}

-- ---- the changes

pub tree_changes-of : (ts : List TreeRecord) (slots : Slots) (ns : NodeChanges) → tree_changes (map Tree ts ++ map (plan_change slots) ns) ≡ ts
tree_changes-of [] slots ns = go ns
  where
    one : (c : FullNodeId × NodeChange) (cs : List Change) → tree_changes (plan_change slots c ∷ cs) ≡ tree_changes cs
    one (id, node.Put place (Some k)) cs = refl
    one (id, node.Put place None) cs = refl
    one (id, node.Gone) cs = refl

    go : (ns : NodeChanges) → tree_changes (map (plan_change slots) ns) ≡ []
    go [] = refl
    go (c ∷ cs) = one c (map (plan_change slots) cs) ∙ go cs
tree_changes-of (t ∷ ts) slots ns = ap (λ rs. t ∷ rs) (tree_changes-of ts slots ns)

pub changed_nodes-of : (ts : List TreeRecord) (slots : Slots) (ns : NodeChanges) → changed_nodes (map Tree ts ++ map (plan_change slots) ns) ≡ map (λ c. c.0) ns
changed_nodes-of [] slots ns = go ns
  where
    one : (c : FullNodeId × NodeChange) (cs : List Change) → changed_nodes (plan_change slots c ∷ cs) ≡ c.0 ∷ changed_nodes cs
    one (id, node.Put place (Some k)) cs = refl
    one (id, node.Put place None) cs = refl
    one (id, node.Gone) cs = refl

    go : (ns : NodeChanges) → changed_nodes (map (plan_change slots) ns) ≡ map (λ c. c.0) ns
    go [] = refl
    go (c ∷ cs) = one c (map (plan_change slots) cs) ∙ ap (λ ids. c.0 ∷ ids) (go cs)
changed_nodes-of (t ∷ ts) slots ns = changed_nodes-of ts slots ns

-- the data of each entry are in its slot
pub slot_data-of : (es : List (NodeId × NodeData)) (k : ℕ) → slot_data (map (λ e. Some e.1) es) k ≡ entry_data es k
slot_data-of es k = ap (option_and_then (λ s. s)) (slice_get-map (λ (e : NodeId × NodeData). Some e.1) es k) ∙ go (slice_get es k)
  where
    go : (o : Option (NodeId × NodeData)) → option_and_then (λ s. s) (option_map (λ (e : NodeId × NodeData). Some e.1) o) ≡ option_map (λ e. e.1) o
    go None = refl
    go (Some e) = refl

-- each change that takes data finds some
abbrev pub AreThere : List (NodeId × NodeData) → NodeChanges → Type 0
AreThere es ns = (i : ℕ) (c : FullNodeId × NodeChange) (k : ℕ) → slice_get ns i ≡ Some c → entry_of c.1 ≡ Some k → IsSome (entry_data es k)

module _ (es : List (NodeId × NodeData)) (m : FinMap full_cmp NodeData) where
  abbrev data_slots : Slots
  data_slots = map (λ e. Some e.1) es

  one_put : (id : FullNodeId) (place : Option Place) (k : ℕ) (cs : List Change) (o : Option NodeData) → slot_data data_slots k ≡ o → IsSome o → nodes_changed m (Put id place (slot_data data_slots k) ∷ cs) ≡ set_at (nodes_changed m cs) id o
  one_put id place k cs None e there = cc
  one_put id place k cs (Some d) e there = ap (λ g. nodes_changed m (Put id place g ∷ cs)) e

  one_change : (c : FullNodeId × NodeChange) (cs : List Change) → ((k : ℕ) → entry_of c.1 ≡ Some k → IsSome (entry_data es k)) → nodes_changed m (plan_change data_slots c ∷ cs) ≡ set_at (nodes_changed m cs) c.0 (changed_data es c.1 (get m c.0))
  one_change (id, node.Put place (Some k)) cs there = one_put id place k cs (entry_data es k) (slot_data-of es k) (there k refl)
  one_change (id, node.Put place None) cs there = refl
  one_change (id, node.Gone) cs there = refl

  all_changes : (ns : NodeChanges) → AreThere es ns → nodes_changed m (map (plan_change data_slots) ns) ≡ put_all es m ns
  all_changes [] there = refl
  all_changes (c ∷ cs) there =
      one_change c (map (plan_change data_slots) cs) (λ k e. there 0 c k refl e)
      ∙ ap (λ n. set_at n c.0 (changed_data es c.1 (get m c.0))) (all_changes cs (λ i x k at e. there (suc i) x k at e))

  pub nodes_changed-of : (ts : List TreeRecord) (ns : NodeChanges) → AreThere es ns → nodes_changed m (map Tree ts ++ map (plan_change data_slots) ns) ≡ put_all es m ns
  nodes_changed-of [] ns there = all_changes ns there
  nodes_changed-of (t ∷ ts) ns there = nodes_changed-of ts ns there

-- ---- places in lists in order

all_at : {A : Type 0} (P : A → Type 0) (xs : List A) (j : ℕ) (y : A) → AllByRecursion P xs → slice_get xs j ≡ Some y → P y
all_at P [] j y h at = cc
all_at P (x ∷ xs) zero y h at = subst P (same_Some x y at) h.0
all_at P (x ∷ xs) (suc j) y h at = all_at P xs j y h.1 at

not_below : (id : FullNodeId) → full_cmp id id ≡ Less → ⊥
not_below id less = let t : is_at (full_cmp id) id ≡ false = ap is_eq less in let e : is_at (full_cmp id) id ≡ true = at_itself id in let clash : false ≡ true = sym t ∙ e in cc

pub position_once : (ks : List FullNodeId) → IsStrictlySortedBy full_cmp ks → (i j : ℕ) (id : FullNodeId) → slice_get ks i ≡ Some id → slice_get ks j ≡ Some id → i ≡ j
unfolding IsStrictlySortedBy
position_once [] h i j id at_i at_j = cc
position_once (k ∷ ks) h zero zero id at_i at_j = refl
position_once (k ∷ ks) h zero (suc j) id at_i at_j = absurd (not_below id (subst (λ x. full_cmp x id ≡ Less) (same_Some k id at_i) (all_at (λ y. full_cmp k y ≡ Less) ks j id h.0 at_j)))
position_once (k ∷ ks) h (suc i) zero id at_i at_j = absurd (not_below id (subst (λ x. full_cmp x id ≡ Less) (same_Some k id at_j) (all_at (λ y. full_cmp k y ≡ Less) ks i id h.0 at_i)))
position_once (k ∷ ks) h (suc i) (suc j) id at_i at_j = ap suc (position_once ks h.1 i j id at_i at_j)

-- the change at a place is the one at its id
pub change_at-place : (ns : NodeChanges) → IsStrictlySortedBy full_cmp (keys_of ns) → (i : ℕ) (c : FullNodeId × NodeChange) → slice_get ns i ≡ Some c → change_at ns c.0 ≡ Some c.1
change_at-place ns sorted i c at = lookup_from_place (eq_by_cmp_equiv full_total) ns i c.0 c.1 (IsDistinct-from_sorted full_cmp (keys_of ns) sorted) at

module _ (w : World) (u : UpdateData) (d : Decision) (h : IsDecision w u d) where
  named_by : (i : ℕ) (c : FullNodeId × NodeChange) (k : ℕ) → slice_get d.nodes.items i ≡ Some c → entry_of c.1 ≡ Some k → (c.0.tree ≡ index_for w u.name) × (named_at u k ≡ Some c.0.node)
  named_by i c k at takes = go c.1 takes (h.changes c.0 c.1 (change_at-place d.nodes.items h.ascending i c at)).data_found
    where
      go : (n : NodeChange) → entry_of n ≡ Some k → FindsData w u c.0 n → (c.0.tree ≡ index_for w u.name) × (named_at u k ≡ Some c.0.node)
      go (node.Put place (Some j)) e found = subst (λ x. (c.0.tree ≡ index_for w u.name) × (named_at u x ≡ Some c.0.node)) (same_Some j k e) found
      go (node.Put place None) e found = cc
      go node.Gone e found = cc

  pub are_there : AreThere u.nodes d.nodes.items
  are_there i c k at takes =
      let n = (named_by i c k at takes).1 in
      let e = map_some (λ (e : NodeId × NodeData). e.0) (slice_get u.nodes k) c.0.node (sym (slice_get-map (λ (e : NodeId × NodeData). e.0) u.nodes k) ∙ n) in
      subst (λ o. IsSome (option_map (λ (e : NodeId × NodeData). e.1) o)) (sym e.1) refl

  pub taken_once : AreTakenOnce d.nodes.items
  taken_once i j k at_i at_j =
      let a = and_then_some (λ (c : FullNodeId × NodeChange). entry_of c.1) (slice_get d.nodes.items i) k at_i in
      let b = and_then_some (λ (c : FullNodeId × NodeChange). entry_of c.1) (slice_get d.nodes.items j) k at_j in
      let m = named_by i a.0 k a.1 a.2 in
      let n = named_by j b.0 k b.1 b.2 in
      let same : a.0.0 ≡ b.0.0 = same_id a.0.0 b.0.0 (m.0 ∙ sym n.0) (same_Some a.0.0.node b.0.0.node (sym m.1 ∙ n.1)) in
      let key_i : slice_get (keys_of d.nodes.items) i ≡ Some a.0.0 = slice_get-map (λ (c : FullNodeId × NodeChange). c.0) d.nodes.items i ∙ ap (option_map (λ (c : FullNodeId × NodeChange). c.0)) a.1 in
      let key_j : slice_get (keys_of d.nodes.items) j ≡ Some a.0.0 = slice_get-map (λ (c : FullNodeId × NodeChange). c.0) d.nodes.items j ∙ ap (option_map (λ (c : FullNodeId × NodeChange). c.0)) b.1 ∙ ap Some (sym same) in
      position_once (keys_of d.nodes.items) h.ascending i j a.0.0 key_i key_j

-- ---- the known names

tree_change-of : (rs : List TreeRecord) (t : TreeRecord) → AllPairs (λ a b. a.id ≢ b.id) rs → Contains rs t → tree_change rs t.id ≡ Some t
tree_change-of [] t once c = absurd (contains_none t c)
tree_change-of (r ∷ rs) t once c = go (is_name t.id r.id) refl (contains_cases r t rs c) (tree_change-of rs t (λ i j e below within. once (suc i) (suc j) e (omega arith) (omega arith)))
  where
    later_other : Contains rs t → r.id ≢ t.id
    later_other c = subst (λ x. r.id ≢ x.id) c.2 (once 0 (suc c.0) t (omega arith) (omega (arith, c.1)))

    go : (b : Bool) → is_name t.id r.id ≡ b → (r ≡ t) ⊎ Contains rs t → (Contains rs t → tree_change rs t.id ≡ Some t) → (if b then Some r else tree_change rs t.id) ≡ Some t
    go true named (inl same) later = ap Some same
    go true named (inr c) later = absurd (later_other c (is_name-true t.id r.id named))
    go false other (inl same) later =
        let yes : is_name t.id r.id ≡ true = subst (λ x. is_name x.id r.id ≡ true) same (is_name-itself r.id) in
        let clash : false ≡ true = sym other ∙ yes in
        absurd cc
    go false other (inr c) later = later c

name_one : (known : List TreeId) (id : TreeId) (o : Option ℕ) → o ≢ Some (length known) → option_map_or (λ index. if index == length known then known ++ id ∷ [] else known) o known ≡ known
name_one known id None other = refl
name_one known id (Some i) other = ap (λ b. if b then known ++ id ∷ [] else known) (ne_eqb i (length known) (λ e. other (ap Some e)))

-- no record has the next index: the names stay
names_stay : (known : List TreeId) (rs : List TreeRecord) → ((r : TreeRecord) → Contains rs r → r.index ≢ Some (length known)) → name_trees known rs ≡ known
names_stay known [] none = refl
names_stay known (r ∷ rs) none =
    ap (λ k. name_trees k rs) (name_one known r.id r.index (none r (contains_head r r rs refl))) ∙ names_stay known rs (λ t c. none t (contains_later r t rs c))

past_end : {A : Type 0} (xs : List A) → slice_get xs (length xs) ≡ None
past_end [] = refl
past_end (x ∷ xs) = past_end xs

last_at : {A : Type 0} (xs : List A) (y : A) → slice_get (xs ++ y ∷ []) (length xs) ≡ Some y
last_at [] y = refl
last_at (x ∷ xs) y = last_at xs y

-- a record has the next index, and this name
module _ (known : List TreeId) (name : TreeId) where
  name_next : (o : Option ℕ) (id : TreeId) → o ≡ Some (length known) → id ≡ name → option_map_or (λ index. if index == length known then known ++ id ∷ [] else known) o known ≡ known ++ name ∷ []
  name_next o id is same =
      ap (λ x. option_map_or (λ index. if index == length known then known ++ id ∷ [] else known) x known) is
      ∙ ap (λ b. if b then known ++ id ∷ [] else known) (eq-eqb (length known) (length known) refl) ∙ ap (λ x. known ++ x ∷ []) same

  names_grow : (rs : List TreeRecord) → ((r : TreeRecord) (i : ℕ) → Contains rs r → r.index ≡ Some i → slice_get (known ++ name ∷ []) i ≡ Some r.id)
      → (r0 : TreeRecord) → Contains rs r0 → r0.index ≡ Some (length known) → name_trees known rs ≡ known ++ name ∷ []
  names_grow [] at r0 c is = absurd (contains_none r0 c)
  names_grow (r ∷ rs) at r0 c is = go (decide_index r.index) (contains_cases r r0 rs c) (λ d. names_grow rs (λ t i e. at t i (contains_later r t rs e)) r0 d is)
    where
      decide_index : (o : Option ℕ) → IsDecided (o ≡ Some (length known))
      decide_index None = inr (λ e. cc)
      decide_index (Some i) = ⊎_elim (λ e. inl (ap Some e)) (λ ne. inr (λ e. ne (same_Some i (length known) e))) (cases_eq i (length known))

      first : r.index ≡ Some (length known) → name_trees (name_tree known r) rs ≡ known ++ name ∷ []
      first here =
          let id : r.id ≡ name = last_is (at r (length known) (contains_head r r rs refl) here) in
          ap (λ k. name_trees k rs) (name_next r.index r.id here id)
          ∙ names_stay (known ++ name ∷ []) rs (λ t e next. let clash : None ≡ Some t.id = sym (past_end (known ++ name ∷ [])) ∙ at t (length (known ++ name ∷ [])) (contains_later r t rs e) next in cc)
        where
          last_is : slice_get (known ++ name ∷ []) (length known) ≡ Some r.id → r.id ≡ name
          last_is e = sym (same_Some name r.id (sym (last_at known name) ∙ e))

      go : IsDecided (r.index ≡ Some (length known)) → (r ≡ r0) ⊎ Contains rs r0 → (Contains rs r0 → name_trees known rs ≡ known ++ name ∷ []) → name_trees (name_tree known r) rs ≡ known ++ name ∷ []
      go (inl here) d later = first here
      go (inr other) (inl same) later = absurd (other (ap (λ t. t.index) same ∙ is))
      go (inr other) (inr d) later = ap (λ k. name_trees k rs) (name_one known r.id r.index other) ∙ later d

-- the known names, and the texts
module _ (w : World) (o : IsOld w) where
  module _ (u : UpdateData) (d : Decision) (h : IsDecision w u d) where
    abbrev new : World
    new = overlaid_world w u d

    abbrev rs : List TreeRecord
    rs = d.trees.items

    after : (name : TreeId) → IsTreeRecord new name (tree_after rs name (record_of w o name).0)
    after name = h.trees name (record_of w o name).0 (record_of w o name).1

    -- a changed record has the index of its name afterwards
    index_after : (r : TreeRecord) (i : ℕ) → Contains rs r → r.index ≡ Some i → slice_get new.known i ≡ Some r.id
    index_after r i c is = known-index_of new r.id i (sym (after r.id).index ∙ here)
      where
        kept : if_kept r ≡ Some r
        kept = ap (λ x. if (is_some x || is_some r.graft) then Some r else None) is

        here : option_and_then (λ t. t.index) (tree_after rs r.id (record_of w o r.id).0) ≡ Some i
        here = ap (λ x. option_and_then (λ (t : TreeRecord). t.index) (option_map_or if_kept x (record_of w o r.id).0)) (tree_change-of rs r h.trees_once c) ∙ ap (option_and_then (λ t. t.index)) kept ∙ is

    -- where the name is new, one has the next index
    next_there : index_of w u.name ≡ None → (r : TreeRecord) × Contains rs r × (r.index ≡ Some (length w.known))
    next_there none = go (tree_change rs u.name) refl
      where
        index : index_of new u.name ≡ Some (length w.known)
        index = index_here w u o ∙ ap (λ x. Some (unwrap_or x (length w.known))) none

        was : option_and_then (λ t. t.index) (record_of w o u.name).0 ≡ None
        was = (record_of w o u.name).1.index ∙ none

        by_kept : (t : TreeRecord) → option_and_then (λ t. t.index) (if_kept t) ≡ Some (length w.known) → t.index ≡ Some (length w.known)
        by_kept t e = by_test (is_some t.index || is_some t.graft) e
          where
            by_test : (b : Bool) → option_and_then (λ (t : TreeRecord). t.index) (if b then Some t else None) ≡ Some (length w.known) → t.index ≡ Some (length w.known)
            by_test true e = e
            by_test false e = cc

        go : (x : Option TreeRecord) → tree_change rs u.name ≡ x → (r : TreeRecord) × Contains rs r × (r.index ≡ Some (length w.known))
        go None e =
            let now : option_and_then (λ t. t.index) (record_of w o u.name).0 ≡ Some (length w.known) = ap (λ x. option_and_then (λ (t : TreeRecord). t.index) (option_map_or if_kept x (record_of w o u.name).0)) (sym e) ∙ (after u.name).index ∙ index in
            absurd (let clash : None ≡ Some (length w.known) = sym was ∙ now in cc)
        go (Some t) e =
            let now : option_and_then (λ t. t.index) (if_kept t) ≡ Some (length w.known) = ap (λ x. option_and_then (λ (t : TreeRecord). t.index) (option_map_or if_kept x (record_of w o u.name).0)) (sym e) ∙ (after u.name).index ∙ index in
            (t, (tree_change_in rs u.name t e).0, by_kept t now)

    pub known_is : name_trees w.known rs ≡ known_after w u.name
    known_is = go (index_of w u.name) refl
      where
        go : (x : Option ℕ) → index_of w u.name ≡ x → name_trees w.known rs ≡ known_after w u.name
        go (Some j) e =
            let same : known_after w u.name ≡ w.known = ap (λ x. option_map_or (λ (_ : ℕ). w.known) x (w.known ++ u.name ∷ [])) e in
            names_stay w.known rs (λ r c is. let at : slice_get w.known (length w.known) ≡ Some r.id = subst (λ k. slice_get k (length w.known) ≡ Some r.id) same (index_after r (length w.known) c is) in let clash : None ≡ Some r.id = sym (past_end w.known) ∙ at in cc)
            ∙ sym same
        go None e =
            let grows : known_after w u.name ≡ w.known ++ u.name ∷ [] = ap (λ x. option_map_or (λ (_ : ℕ). w.known) x (w.known ++ u.name ∷ [])) e in
            let r = next_there e in
            names_grow w.known u.name rs (λ r i c is. subst (λ k. slice_get k i ≡ Some r.id) grows (index_after r i c is)) r.0 r.1 r.2 ∙ sym grows

    -- ---- the texts

    kept : KeepsRules w u
    kept = (rules_or_fault w u).1 h.accepted.0

    opened : IsOpened w u
    opened = (rules_passed w u o kept).climbed.refined.removed.settled.compared.opened

    root_test : (b : Bool) → (IsTrue b ↔ (u.name ≡ ROOT_NAME)) → b ≡ (index_for w u.name == 0)
    root_test true is = sym (eq-eqb (index_for w u.name) 0 (index_zero w u o (is.0 refl)))
    root_test false is = sym (ne_eqb (index_for w u.name) 0 (λ e. let yes : false ≡ true = is.1 (zero_index w u o opened e) in cc))

    texts_are : (b : Bool) → (IsTrue b ↔ (u.name ≡ ROOT_NAME)) → replaces u.info b w.toolkit ≡ toolkit_after w u
    texts_are b is = ap (λ t. replaces u.info t w.toolkit) (root_test b is)

-- ---- the plan

no_put : (ts : List TreeRecord) (id : FullNodeId) (place : Option Place) (given : Option NodeData) → Contains (map Tree ts) (Put id place given) → ⊥
no_put [] id place given c = contains_none (Put id place given) c
no_put (t ∷ ts) id place given c = ⊎_elim (λ e. let f : Tree t ≡ Put id place given = e in absurd cc) (λ d. no_put ts id place given d) (contains_cases (Tree t) (Put id place given) (map Tree ts) c)

put_is : (slots : Slots) (c : FullNodeId × NodeChange) (id : FullNodeId) (place : Option Place) (given : Option NodeData) → plan_change slots c ≡ Put id place given → (entry : Option ℕ) × (c ≡ (id, node.Put place entry))
put_is slots (i, node.Put at (Some k)) id place given e =
    let same : i ≡ id = cc in
    let there : at ≡ place = cc in
    (Some k, λ j. (same j, node.Put (there j) (Some k)))
put_is slots (i, node.Put at None) id place given e =
    let same : i ≡ id = cc in
    let there : at ≡ place = cc in
    (None, λ j. (same j, node.Put (there j) None))
put_is slots (i, node.Gone) id place given e = absurd cc

-- the data that a change takes out of a slot
data_taken : (slots : Slots) (id : FullNodeId) (place : Option Place) (entry : Option ℕ) (d : NodeData) → plan_change slots (id, node.Put place entry) ≡ Put id place (Some d) → (k : ℕ) × (entry ≡ Some k) × (slot_data slots k ≡ Some d)
data_taken slots id place (Some k) d e = (k, refl, cc)
data_taken slots id place None d e = absurd cc

put_at : (slots : Slots) (ns : NodeChanges) (id : FullNodeId) (place : Option Place) (given : Option NodeData) → Contains (map (plan_change slots) ns) (Put id place given)
    → (i : ℕ) × (entry : Option ℕ) × (slice_get ns i ≡ Some (id, node.Put place entry)) × (plan_change slots (id, node.Put place entry) ≡ Put id place given)
put_at slots [] id place given c = absurd (contains_none (Put id place given) c)
put_at slots (n ∷ ns) id place given c = go (contains_cases (plan_change slots n) (Put id place given) (map (plan_change slots) ns) c) (put_at slots ns id place given)
  where
    go : (plan_change slots n ≡ Put id place given) ⊎ Contains (map (plan_change slots) ns) (Put id place given)
        → (Contains (map (plan_change slots) ns) (Put id place given)
        → (i : ℕ) × (entry : Option ℕ) × (slice_get ns i ≡ Some (id, node.Put place entry)) × (plan_change slots (id, node.Put place entry) ≡ Put id place given))
        → (i : ℕ) × (entry : Option ℕ) × (slice_get (n ∷ ns) i ≡ Some (id, node.Put place entry)) × (plan_change slots (id, node.Put place entry) ≡ Put id place given)
    go (inl e) later = let f = put_is slots n id place given e in (0, f.0, ap Some f.1, subst (λ c. plan_change slots c ≡ Put id place given) f.1 e)
    go (inr d) later = let f = later d in (suc f.0, f.1, f.2, f.3)

module _ (w : World) (o : IsOld w) (u : UpdateData) (d : Decision) (h : IsDecision w u d) (p : Plan) (slots : Slots) (same_slots : slots ≡ map (λ e. Some e.1) u.nodes)
    (changes : p.changes.items ≡ map Tree d.trees.items ++ map (plan_change slots) d.nodes.items) (is_root : Bool) (root : IsTrue is_root ↔ (u.name ≡ ROOT_NAME))
    (texts : (before : Option (List ℕ) × Option (List ℕ)) → replaced_texts p.toolkit before ≡ replaces u.info is_root before) where
  trees_are : tree_changes p.changes.items ≡ d.trees.items
  trees_are = ap tree_changes changes ∙ tree_changes-of d.trees.items slots d.nodes.items

  ids_are : changed_nodes p.changes.items ≡ map (λ c. c.0) d.nodes.items
  ids_are = ap changed_nodes changes ∙ changed_nodes-of d.trees.items slots d.nodes.items

  pub planned_is : planned_world w p ≡ overlaid_world w u d
  planned_is =
      let known : (planned_world w p).known ≡ (overlaid_world w u d).known = ap (name_trees w.known) trees_are ∙ known_is w o u d h in
      let trees : (planned_world w p).trees ≡ (overlaid_world w u d).trees = ap (put_trees w.trees) trees_are in
      let nodes : (planned_world w p).nodes ≡ (overlaid_world w u d).nodes =
      ap (nodes_changed w.nodes) (changes ∙ ap (λ s. map Tree d.trees.items ++ map (plan_change s) d.nodes.items) same_slots)
      ∙ nodes_changed-of u.nodes w.nodes d.trees.items d.nodes.items (are_there w u d h) in
      let toolkit : (planned_world w p).toolkit ≡ (overlaid_world w u d).toolkit = texts w.toolkit ∙ texts_are w o u d h is_root root in
      λ i. record { known = known i; trees = trees i; nodes = nodes i; toolkit = toolkit i; host_focused = w.host_focused }

  by_plan : (P : World → Type 0) → P (overlaid_world w u d) → P (planned_world w p)
  by_plan P x = subst P (sym planned_is) x

  unchanged : (id : FullNodeId) → ¬ (Contains (changed_nodes p.changes.items) id) → change_at d.nodes.items id ≡ None
  unchanged id out = go (change_at d.nodes.items id) refl
    where
      go : (x : Option NodeChange) → change_at d.nodes.items id ≡ x → change_at d.nodes.items id ≡ None
      go None e = e
      go (Some c) e = absurd (out (subst (λ ids. Contains ids id) (sym ids_are) (is_among d.nodes.items id c e)))

  -- a node's change in the plan is one of the decision
  put_in : (id : FullNodeId) (place : Option Place) (given : Option NodeData) → Contains p.changes.items (Put id place given)
      → (i : ℕ) × (entry : Option ℕ) × (slice_get d.nodes.items i ≡ Some (id, node.Put place entry)) × (plan_change slots (id, node.Put place entry) ≡ Put id place given)
  put_in id place given c = ⊎_elim (λ x. absurd (no_put d.trees.items id place given x)) (put_at slots d.nodes.items id place given)
      (in_either (map Tree d.trees.items) (map (plan_change slots) d.nodes.items) (Put id place given) (subst (λ cs. Contains cs (Put id place given)) changes c))

  pub plan_is : p.focus ≡ d.focus → p.events.items ≡ d.events.items → IsPlan w u p
  plan_is focus events = record {
    accepted = by_plan (IsAccepted w u) h.accepted;
    once = subst (IsStrictlySortedBy full_cmp) (sym ids_are) h.ascending;
    changes = λ id. by_plan (λ v. Contains (changed_nodes p.changes.items) id ↔ Differs w v id)
        (subst (λ ids. Contains ids id ↔ Differs w (overlaid_world w u d) id) (sym ids_are) (h.nodes_listed id));
    places = λ id place given c.
        let f = put_in id place given c in
        by_plan (λ v. IsPlaceOf v id place) (h.changes id (node.Put place f.1) (change_at-place d.nodes.items h.ascending f.0 (id, node.Put place f.1) f.2)).place;
    given = λ id place sent c same.
        let f = put_in id place (Some sent) c in
        let e = change_at-place d.nodes.items h.ascending f.0 (id, node.Put place f.1) f.2 in
        let k = data_taken slots id place f.1 sent f.3 in
        let now : data_of (overlaid_world w u d) id ≡ Some sent =
        get-put_all u.nodes w.nodes d.nodes.items id ∙ ap (λ c. effect u.nodes c (data_of w id)) (e ∙ ap (λ x. Some (node.Put place x)) k.1)
        ∙ sym (slot_data-of u.nodes k.0) ∙ ap (λ s. slot_data s k.0) (sym same_slots) ∙ k.2 in
        (h.changes id (node.Put place f.1) e).given (subst IsSome (sym k.1) refl) (same ∙ sym now);
    others = λ id out.
        let none = unchanged id out in
        by_plan (λ v. (data_of w id ≡ data_of v id) × ((at : Place) → StandsAt w at id ↔ StandsAt v at id))
        (sym (get-put_all u.nodes w.nodes d.nodes.items id ∙ ap (λ c. effect u.nodes c (data_of w id)) none), λ at. (h.others id at none, h.others_back id at none));
    trees_once = subst (AllPairs (λ a b. a.id ≢ b.id)) (sym trees_are) h.trees_once;
    trees_listed = λ name. by_plan (λ v. Contains (names_of (tree_changes p.changes.items)) name ↔ TreeDiffers w v name)
        (subst (λ ts. Contains (names_of ts) name ↔ TreeDiffers w (overlaid_world w u d) name) (sym trees_are) (h.trees_listed name));
    trees = λ name r is. by_plan (λ v. IsTreeRecord v name (tree_after (tree_changes p.changes.items) name r)) (subst (λ ts. IsTreeRecord (overlaid_world w u d) name (tree_after ts name r)) (sym trees_are) (h.trees name r is));
    focus = by_plan (λ v. IsEffectiveFocus v p.focus) (subst (IsEffectiveFocus (overlaid_world w u d)) (sym focus) h.focus);
    told = λ later. by_plan (λ v. AreToldBy w u v p.events.items) (subst (AreToldBy w u (overlaid_world w u d)) (sym events) (h.told later));
    quiet = λ first. events ∙ h.quiet first;
  }

  pub plan_within : p.events.items ≡ d.events.items → (before after : ℕ) → IsWithinWork w u d before after → IsPlannedWithin w u p before after
  plan_within events before after within work is =
      let short = within work (subst (λ v. IsWorkOf w u v work) planned_is is) in
      let told = ap length events in
      let a = ap length changes ∙ length-append (map Tree d.trees.items) (map (plan_change slots) d.nodes.items) in
      let b : length (map Tree d.trees.items) ≡ length d.trees.items = length-map d.trees.items Tree in
      let c : length (map (plan_change slots) d.nodes.items) ≡ length d.nodes.items = length-map d.nodes.items (plan_change slots) in
      omega arith
