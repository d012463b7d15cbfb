-- How an example is shown: what holds of each entry of a small world holds of all its nodes.
use Rattle.std.proofs.Common.{get_or, ◌≡◌, ℕ, zero, suc, ◌+◌, Bool, true, false, cond, List, [], ◌∷◌, length, slice_get, map, ◌≢◌, IsSome, option_map, option_and_then, Some, refl, sym, ap, ◌∙◌, subst, Ordering, Less, Equal, Greater, arith}
use Rattle.std.specs.List.{AllByRecursion}
use Rattle.std.specs.Option.{option_map_or}
use Rattle.std.specs.Bool.{⊤}
use Rattle.std.specs.Ordering.{is_eq, eq_by_cmp}
use Rattle.std.specs.Cmp.{IsTotalOrder}
use Rattle.std.specs.FinMap.{FinMap, get, empty, entries, find, put, insert, from_entries, get-entries, len-entries, len-empty, entries-insert, IsAntisymmetric}
use Rattle.std.proofs.lemmas.Option.{same_Some}
use Rattle.schema.specs.NodeData.{NodeData}
use Rattle.schema.specs.declared.NodeId.{NodeId}
use Rattle.schema.specs.declared.TreeId.{TreeId}
use Rattle.model.specs.declared.FullNodeId.{FullNodeId}
use Rattle.model.specs.FullIds.{full_cmp, full_total}
use Rattle.model.specs.World.{World, Tree, HasData, IsNode, in_tree, listed_ids, graft_name, root_of}
use Rattle.model.specs.Update.{overwritten_nodes}
use Rattle.model.specs.Examples.{name}

infixr 5 ◌▸◌
-- a proof for the first entry, and those for the others
pub ◌▸◌ : {A B : Type 0} → A → B → A × B
◌▸◌ a b = (a, b)

-- put one after another, the last first
abbrev pub sorted : {K X : Type 0} → (K → K → Ordering) → List (K × X) → List (K × X)
sorted R [] = []
sorted R (e ∷ es) = put R e.0 e.1 (sorted R es)

no_entries : {K X : Type 0} (R : K → K → Ordering) → entries (empty {X = X} {R = R}) ≡ []
no_entries {X = X} R = none (entries (empty {X = X} {R = R})) (sym (len-entries (empty {X = X} {R = R})) ∙ len-empty R X)
  where
    none : {A : Type 0} (xs : List A) → length xs ≡ 0 → xs ≡ []
    none [] e = refl
    none (x ∷ xs) e = absurd (omega arith)

equal : (o : Ordering) → is_eq o ≡ true → o ≡ Equal
equal Less e = cc
equal Equal e = refl
equal Greater e = cc

module _ {K X : Type 0} {R : K → K → Ordering} (total : IsTotalOrder R) where
  pub entries-from_entries : (es : List (K × X)) → entries (from_entries {R = R} es) ≡ sorted R es
  entries-from_entries [] = no_entries R
  entries-from_entries (e ∷ es) = entries-insert total (from_entries es) e.0 e.1 ∙ ap (put R e.0 e.1) (entries-from_entries es)

  -- what holds of each entry holds of what is found
  found : IsAntisymmetric R → (P : K → X → Type 0) (es : List (K × X)) → AllByRecursion (λ e. P e.0 e.1) es → (q : K) (x : X) → find R q es ≡ Some x → P q x
  found exact P [] each q x is = cc
  found exact P (e ∷ es) each q x is = go (eq_by_cmp R q e.0) refl (found exact P es each.1 q x) is
    where
      go : (b : Bool) → eq_by_cmp R q e.0 ≡ b → (find R q es ≡ Some x → P q x) → cond b (Some e.1) (find R q es) ≡ Some x → P q x
      go true tied rest is = subst (λ k. P k x) (sym (exact q e.0 (equal (R q e.0) tied))) (subst (P e.0) (same_Some e.1 x is) each.0)
      go false other rest is = rest is

  pub got : IsAntisymmetric R → (P : K → X → Type 0) (m : FinMap R X) (es : List (K × X)) → entries m ≡ es → AllByRecursion (λ e. P e.0 e.1) es → (q : K) (x : X) → get m q ≡ Some x → P q x
  got exact P m es are each q x is = found exact P es each q x (sym (get-entries m q ∙ ap (find R q) are) ∙ is)

pub get_is : {K X : Type 0} {R : K → K → Ordering} (m : FinMap R X) (es : List (K × X)) → entries m ≡ es → (q : K) → get m q ≡ find R q es
get_is {R = R} m es are q = get-entries m q ∙ ap (find R q) are

-- the entries of overwritten nodes
abbrev pub over : ℕ → List (NodeId × NodeData) → List (FullNodeId × NodeData) → List (FullNodeId × NodeData)
over index [] es = es
over index (u ∷ us) es = over index us (put full_cmp (in_tree index u.0) u.1 es)

pub entries-overwritten : (nodes : FinMap full_cmp NodeData) (index : ℕ) (us : List (NodeId × NodeData)) → entries (overwritten_nodes nodes index us) ≡ over index us (entries nodes)
entries-overwritten nodes index [] = refl
entries-overwritten nodes index (u ∷ us) = entries-overwritten (insert nodes (in_tree index u.0) u.1) index us ∙ ap (over index us) (entries-insert full_total nodes (in_tree index u.0) u.1)

-- P holds of each element and its place, counted from k
abbrev pub EachAt : {A : Type 0} → (ℕ → A → Type 0) → ℕ → List A → Type 0
EachAt P k [] = ⊤
EachAt P k (x ∷ xs) = P k x × EachAt P (suc k) xs

pub each_at : {A : Type 0} (P : ℕ → A → Type 0) (k : ℕ) (xs : List A) → EachAt P k xs → (i : ℕ) (x : A) → slice_get xs i ≡ Some x → P (i + k) x
each_at P k [] each i x is = cc
each_at P k (y ∷ xs) each zero x is = let h : P k x = subst (P k) (same_Some y x is) each.0 in subst (λ n. P n x) (omega arith) h
each_at P k (y ∷ xs) each (suc i) x is = subst (λ n. P n x) (omega arith) (each_at P (suc k) xs each.1 i x is)

pub node_at : (w : World) (es : List (FullNodeId × NodeData)) → entries w.nodes ≡ es → (id : FullNodeId) → IsSome (find full_cmp id es) → IsNode w id
node_at w es are id there = subst IsSome (sym (get_is w.nodes es are id)) there

pub lists_at : (w : World) (p : FullNodeId) (d : NodeData) (i : ℕ) (c : FullNodeId) → HasData w p d → slice_get (map (in_tree p.tree) d.children) i ≡ Some c → slice_get (listed_ids w p) i ≡ Some c
lists_at w p d i c has at = ap (λ o. slice_get (option_map_or (λ d. map (in_tree p.tree) d.children) o []) i) has ∙ at

pub grafts_at : (w : World) (id : FullNodeId) (d : NodeData) → HasData w id d → graft_name w id ≡ d.tree_id
grafts_at w id d has = ap (option_and_then (λ d. d.tree_id)) has

pub other_root : (w : World) (t : Tree) (id : FullNodeId) → get w.trees id.tree ≡ Some t → t.root.0 ≢ id.node.0 → root_of w id.tree ≢ Some id
other_root w t id is other e = other (ap (λ x. x.node.0) (same_Some (in_tree id.tree t.root) id (ap (option_map (λ t. in_tree id.tree t.root)) (sym is) ∙ e)))

abbrev last_byte : TreeId → ℕ
last_byte k = get_or k.0 15 0

-- names of other numbers are others
pub names_apart : (a b : ℕ) → a ≢ b → name a ≢ name b
names_apart a b other e = other (ap last_byte e)
