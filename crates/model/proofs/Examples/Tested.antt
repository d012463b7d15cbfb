-- Small worlds written out: that an update of one is accepted, and leaves another, is tested on their entries.
use Rattle.std.proofs.Common.{◌≡◌, ◌≢◌, ℕ, zero, suc, Bool, true, false, not, cond, eqb, ◌&&◌, ◌||◌, List, [], ◌∷◌, map, nat_cmp, position, slice_get, Option, Some, None, IsSome, is_some, Contains, option_map, option_and_then, unwrap_or, ◌⊎◌, inl, inr, refl, sym, ap, ◌∙◌, subst}
use Rattle.std.specs.Option.{option_or, option_map_or, IfSome}
use Rattle.std.specs.List.{AllByRecursion}
use Rattle.std.specs.Cmp.{nat_cmp_total}
use Rattle.std.specs.FinMap.{get, insert, entries, find, put, entries-insert}
use Rattle.std.proofs.lemmas.Bool.{and_parts, or_cases, eqb-true, false≢true}
use Rattle.schema.specs.NodeData.{NodeData}
use Rattle.schema.specs.declared.NodeId.{NodeId}
use Rattle.schema.specs.declared.TreeId.{TreeId}
use Rattle.model.specs.declared.FullNodeId.{FullNodeId}
use Rattle.model.specs.FullIds.{full_cmp}
use Rattle.model.specs.World.{ROOT_NAME, World, Tree, HasData, IsNode, index_of, in_tree, listed_ids, graft_name, root_of, root_named, at_most_one, children, Place, Reached, Kept}
use Rattle.model.specs.World as world
use Rattle.model.specs.Forest.{place_of, place_among, is_same}
use Rattle.model.specs.Update.{UpdateData, IsAccepted, index_for, root_after, merged_world}
use Rattle.model.proofs.Worlds.Names.{is_name, is_name-itself}
use Rattle.model.proofs.Forest.PlaceOf.{same_from_test, test_self}
use Rattle.model.proofs.Worlds.Written.{found_key}
use Rattle.model.proofs.Surgery.Spots.{root_reached}
use Rattle.model.proofs.State.StatePlaces.{and_then_some}
use Rattle.model.proofs.Examples.Tools.{get_is, over, entries-overwritten, EachAt}
use Rattle.model.proofs.Examples.Evidence.{EachListed, EachGraft, IsShownApart, IsShownFirst, IsShownLater, accepted_shown}

-- a world whose trees and nodes are these
pub record IsWritten (w : World) (ts : List (ℕ × Tree)) (es : List (FullNodeId × NodeData)) : Type 0 where
  pub trees : entries w.trees ≡ ts
  pub nodes : entries w.nodes ≡ es

-- the named tree's root, read off the entries
abbrev pub root_read : World → UpdateData → List (ℕ × Tree) → Option NodeId
root_read w u ts = option_map_or (λ info. Some info.root) u.info (option_map (λ t. t.root) (find nat_cmp (index_for w u.name) ts))

-- the entries of a merged world
abbrev pub trees_over : World → UpdateData → NodeId → List (ℕ × Tree) → List (ℕ × Tree)
trees_over w u root ts = put nat_cmp (index_for w u.name) (record { root = root; focus = u.focus }) ts

abbrev pub nodes_over : World → UpdateData → List (FullNodeId × NodeData) → List (FullNodeId × NodeData)
nodes_over w u es = over (index_for w u.name) u.nodes es

pub merged_written : (w : World) (u : UpdateData) {ts : List (ℕ × Tree)} {es : List (FullNodeId × NodeData)} → IsWritten w ts es → (root : NodeId) → root_read w u ts ≡ Some root → IsWritten (merged_world w u) (trees_over w u root ts) (nodes_over w u es)
merged_written w u {ts} {es} is root read = record {
  trees =
      ap (λ o. entries (option_map_or (λ r. insert w.trees (index_for w u.name) (record { root = r; focus = u.focus })) o w.trees)) comes
      ∙ entries-insert nat_cmp_total w.trees (index_for w u.name) (record { root = root; focus = u.focus }) ∙ ap (put nat_cmp (index_for w u.name) (record { root = root; focus = u.focus })) is.trees;
  nodes = entries-overwritten w.nodes (index_for w u.name) u.nodes ∙ ap (over (index_for w u.name) u.nodes) is.nodes;
}
  where
    comes : root_after w u ≡ Some root
    comes = ap (λ o. option_map_or (λ info. Some info.root) u.info (option_map (λ t. t.root) o)) (get_is w.trees ts is.trees (index_for w u.name)) ∙ read

-- ---- what is read off entries

abbrev pub has_node : List (FullNodeId × NodeData) → FullNodeId → Bool
has_node es id = is_some (find full_cmp id es)

abbrev pub has_tree : List (ℕ × Tree) → ℕ → Bool
has_tree ts index = is_some (find nat_cmp index ts)

abbrev root_in : List (ℕ × Tree) → ℕ → Option FullNodeId
root_in ts index = option_map (λ t. in_tree index t.root) (find nat_cmp index ts)

abbrev is_root_in : List (ℕ × Tree) → FullNodeId → Bool
is_root_in ts id = option_map_or (is_same id) (root_in ts id.tree) false

abbrev listed_in : List (FullNodeId × NodeData) → FullNodeId → List FullNodeId
listed_in es id = option_map_or (λ d. map (in_tree id.tree) d.children) (find full_cmp id es) []

abbrev pub graft_in : List (FullNodeId × NodeData) → FullNodeId → Option TreeId
graft_in es id = option_and_then (λ d. d.tree_id) (find full_cmp id es)

abbrev named_in : World → List (ℕ × Tree) → TreeId → Option FullNodeId
named_in w ts name = option_and_then (root_in ts) (index_of w name)

abbrev children_in : World → List (ℕ × Tree) → List (FullNodeId × NodeData) → FullNodeId → List FullNodeId
children_in w ts es id = option_map_or (λ name. at_most_one (named_in w ts name)) (graft_in es id) (listed_in es id)

-- the first place of a node among the children of some of these nodes
abbrev pub place_read_among : World → List (ℕ × Tree) → List (FullNodeId × NodeData) → FullNodeId → List (FullNodeId × NodeData) → Option Place
place_read_among w ts es id [] = None
place_read_among w ts es id (e ∷ some) = option_or (option_map (λ i. (e.0, i)) (position (is_same id) (children_in w ts es e.0))) (place_read_among w ts es id some)

-- the first place at which a node is listed, and the first node that grafts a tree
abbrev lister : List (FullNodeId × NodeData) → FullNodeId → Option Place
lister [] id = None
lister (e ∷ es) id = option_or (option_map (λ i. (e.0, i)) (position (is_same id) (map (in_tree e.0.tree) e.1.children))) (lister es id)

abbrev grafter : List (FullNodeId × NodeData) → TreeId → Option FullNodeId
grafter [] name = None
grafter (e ∷ es) name = cond (option_map_or (is_name name) e.1.tree_id false) (Some e.0) (grafter es name)

-- ---- what is reached and kept

-- where an option's value passes a test, there is one
passed : {A : Type 0} (f : A → Bool) (o : Option A) → option_map_or f o false ≡ true → (x : A) × (o ≡ Some x) × (f x ≡ true)
passed f None e = absurd (false≢true e)
passed f (Some x) e = (x, refl, e)

module _ (w : World) (ts : List (ℕ × Tree)) (es : List (FullNodeId × NodeData)) where
  -- the way up by places leads to a root, in so many steps
  abbrev pub climbs : ℕ → FullNodeId → Bool
  climbs zero id = is_root_in ts id
  climbs (suc n) id = is_root_in ts id || option_map_or (λ p. option_map_or (is_same id) (slice_get (listed_in es p.0) p.1) false && climbs n p.0) (lister es id) false

  -- the way out by grafts leads to the root tree
  abbrev pub leads_out : ℕ → ℕ → Bool
  leads_out zero index = eqb index 0
  leads_out (suc n) index =
      eqb index 0 || option_map_or
      (λ graft. option_map_or (λ inner. eqb index inner.tree) (option_and_then (named_in w ts) (graft_in es graft)) false && climbs 3 graft && leads_out n graft.tree)
      (option_and_then (grafter es) (slice_get w.known index)) false

module _ {w : World} {ts : List (ℕ × Tree)} {es : List (FullNodeId × NodeData)} (is : IsWritten w ts es) where
  pub tree_at : (index : ℕ) → get w.trees index ≡ find nat_cmp index ts
  tree_at index = get_is w.trees ts is.trees index

  pub node_in : (id : FullNodeId) → get w.nodes id ≡ find full_cmp id es
  node_in id = get_is w.nodes es is.nodes id

  root_at : (index : ℕ) → root_of w index ≡ root_in ts index
  root_at index = ap (option_map (λ t. in_tree index t.root)) (tree_at index)

  pub is_there : (id : FullNodeId) → has_node es id ≡ true → IsNode w id
  is_there id e = subst IsSome (sym (node_in id)) e

  pub is_present : (index : ℕ) → has_tree ts index ≡ true → IsSome (get w.trees index)
  is_present index e = subst IsSome (sym (tree_at index)) e

  pub grafts_in : (id : FullNodeId) → graft_name w id ≡ graft_in es id
  grafts_in id = ap (option_and_then (λ d. d.tree_id)) (node_in id)

  named_at : (name : TreeId) → root_named w name ≡ named_in w ts name
  named_at name = at_index (index_of w name)
    where
      at_index : (o : Option ℕ) → option_and_then (root_of w) o ≡ option_and_then (root_in ts) o
      at_index None = refl
      at_index (Some index) = root_at index

  pub no_root : (id : FullNodeId) → is_root_in ts id ≡ false → root_of w id.tree ≢ Some id
  no_root id e same = false≢true (sym e ∙ ap (λ o. option_map_or (is_same id) o false) (sym (root_at id.tree) ∙ same) ∙ test_self id)

  from_root : (id : FullNodeId) → is_root_in ts id ≡ true → Reached w id
  from_root id e =
      let r = passed (is_same id) (root_in ts id.tree) e in
      root_reached w id.tree id (root_at id.tree ∙ r.1 ∙ ap Some (sym (same_from_test id r.0 r.2)))

  pub reached_by : (n : ℕ) (id : FullNodeId) → climbs w ts es n id ≡ true → Reached w id
  reached_by zero id e = from_root id e
  reached_by (suc n) id e = elim (or_cases (is_root_in ts id) _ e) [
    | inl root ↦ from_root id root
    | inr up ↦
        let p = passed (λ (p : Place). option_map_or (is_same id) (slice_get (listed_in es p.0) p.1) false && climbs w ts es n p.0) (lister es id) up in
        let both = and_parts (option_map_or (is_same id) (slice_get (listed_in es p.0.0) p.0.1) false) (climbs w ts es n p.0.0) p.2 in
        let c = passed (is_same id) (slice_get (listed_in es p.0.0) p.0.1) both.0 in
        let lists : slice_get (listed_ids w p.0.0) p.0.1 ≡ Some id = ap (λ o. slice_get (option_map_or (λ d. map (in_tree p.0.0.tree) d.children) o []) p.0.1) (node_in p.0.0) ∙ c.1 ∙ ap Some (sym (same_from_test id c.0 c.2)) in
        world.Reached.child p.0.0 id p.0.1 (reached_by n p.0.0 both.1) lists
  ]

  pub kept_by : (n index : ℕ) → leads_out w ts es n index ≡ true → Kept w index
  kept_by zero index e = subst (Kept w) (sym (eqb-true index 0 e)) world.Kept.root
  kept_by (suc n) index e = elim (or_cases (eqb index 0) _ e) [
    | inl root ↦ subst (Kept w) (sym (eqb-true index 0 root)) world.Kept.root
    | inr out ↦
        let g = passed _ (option_and_then (grafter es) (slice_get w.known index)) out in
        let both = and_parts (option_map_or (λ inner. eqb index inner.tree) (option_and_then (named_in w ts) (graft_in es g.0)) false && climbs w ts es 3 g.0) (leads_out w ts es n g.0.tree) g.2 in
        let here = and_parts (option_map_or (λ inner. eqb index inner.tree) (option_and_then (named_in w ts) (graft_in es g.0)) false) (climbs w ts es 3 g.0) both.0 in
        let inner = passed (λ (inner : FullNodeId). eqb index inner.tree) (option_and_then (named_in w ts) (graft_in es g.0)) here.0 in
        let name = and_then_some (named_in w ts) (graft_in es g.0) inner.0 inner.1 in
        subst (Kept w) (sym (eqb-true index inner.0.tree inner.2))
        (world.Kept.grafted g.0 inner.0 name.0 (kept_by n g.0.tree both.1) (reached_by 3 g.0 here.1) (grafts_in g.0 ∙ name.1) (named_at name.0 ∙ name.2))
  ]

  pub is_away : (id : FullNodeId) → find full_cmp id es ≡ None → ¬ (IsNode w id)
  is_away id e h = let f : IsSome {T = NodeData} None = subst IsSome (node_in id ∙ e) h in cc

  pub among : (id : FullNodeId) → IsNode w id → Contains (map (λ e. e.0) es) id
  among id h = found_key id es (subst IsSome (node_in id) h)

  children_read : (id : FullNodeId) → children w id ≡ children_in w ts es id
  children_read id = by_graft (graft_name w id) ∙ ap (λ o. option_map_or (λ name. at_most_one (named_in w ts name)) o (listed_ids w id)) (grafts_in id) ∙ ap (option_map_or (λ name. at_most_one (named_in w ts name)) (graft_in es id)) (ap (λ o. option_map_or (λ d. map (in_tree id.tree) d.children) o []) (node_in id))
    where
      by_graft : (o : Option TreeId) → option_map_or (λ name. at_most_one (root_named w name)) o (listed_ids w id) ≡ option_map_or (λ name. at_most_one (named_in w ts name)) o (listed_ids w id)
      by_graft None = refl
      by_graft (Some name) = ap at_most_one (named_at name)

  among_read : (id : FullNodeId) (some : List (FullNodeId × NodeData)) → place_among w id (map (λ e. e.0) some) ≡ place_read_among w ts es id some
  among_read id [] = refl
  among_read id (e ∷ some) =
      ap (λ cs. option_or (option_map (λ i. (e.0, i)) (position (is_same id) cs)) (place_among w id (map (λ x. x.0) some))) (children_read e.0)
      ∙ ap (option_or (option_map (λ i. (e.0, i)) (position (is_same id) (children_in w ts es e.0)))) (among_read id some)

  -- the place of a node, read off the entries
  pub place_read : (id : FullNodeId) → place_of w id ≡ place_read_among w ts es id es
  unfolding place_of
  place_read id = ap (λ (xs : List (FullNodeId × NodeData)). place_among w id (map (λ x. x.0) xs)) is.nodes ∙ among_read id es

-- ---- tests of all entries

abbrev all_pass : {A : Type 0} → (A → Bool) → List A → Bool
all_pass test [] = true
all_pass test (x ∷ xs) = test x && all_pass test xs

each_passed : {A : Type 0} (test : A → Bool) (P Q : A → Type 0) → ((x : A) → P x → test x ≡ true → Q x) → (xs : List A) → AllByRecursion P xs → all_pass test xs ≡ true → AllByRecursion Q xs
each_passed test P Q makes [] each e = tt
each_passed test P Q makes (x ∷ xs) each e = let both = and_parts (test x) (all_pass test xs) e in (makes x each.0 both.0, each_passed test P Q makes xs each.1 both.1)

pass_each : {A : Type 0} (test : A → Bool) (Q : A → Type 0) → ((x : A) → test x ≡ true → Q x) → (xs : List A) → all_pass test xs ≡ true → AllByRecursion Q xs
pass_each test Q makes [] e = tt
pass_each test Q makes (x ∷ xs) e = let both = and_parts (test x) (all_pass test xs) e in (makes x both.0, pass_each test Q makes xs both.1)

abbrev pass_at : {A : Type 0} → (ℕ → A → Bool) → ℕ → List A → Bool
pass_at test k [] = true
pass_at test k (x ∷ xs) = test k x && pass_at test (suc k) xs

pass_each_at : {A : Type 0} (test : ℕ → A → Bool) (Q : ℕ → A → Type 0) → ((i : ℕ) (x : A) → test i x ≡ true → Q i x) → (k : ℕ) (xs : List A) → pass_at test k xs ≡ true → EachAt Q k xs
pass_each_at test Q makes k [] e = tt
pass_each_at test Q makes k (x ∷ xs) e = let both = and_parts (test k x) (pass_at test (suc k) xs) e in (makes k x both.0, pass_each_at test Q makes (suc k) xs both.1)

abbrev pass_listed : (Place → FullNodeId → Bool) → List (FullNodeId × NodeData) → Bool
pass_listed test es = all_pass (λ e. pass_at (λ i c. test (e.0, i) c) 0 (map (in_tree e.0.tree) e.1.children)) es

pass_each_listed : (test : Place → FullNodeId → Bool) (Q : Place → FullNodeId → Type 0) → ((p : Place) (c : FullNodeId) → test p c ≡ true → Q p c) → (es : List (FullNodeId × NodeData)) → pass_listed test es ≡ true → EachListed Q es
pass_each_listed test Q makes es e =
    pass_each (λ e. pass_at (λ i c. test (e.0, i) c) 0 (map (in_tree e.0.tree) e.1.children)) (λ e. EachAt (λ i c. Q (e.0, i) c) 0 (map (in_tree e.0.tree) e.1.children))
    (λ e passes. pass_each_at (λ i c. test (e.0, i) c) (λ i c. Q (e.0, i) c) (λ i c. makes (e.0, i) c) 0 (map (in_tree e.0.tree) e.1.children) passes) es e

abbrev pass_grafts : (FullNodeId → NodeData → TreeId → Bool) → List (FullNodeId × NodeData) → Bool
pass_grafts test es = all_pass (λ e. option_map_or (test e.0 e.1) e.1.tree_id true) es

pass_each_graft : (test : FullNodeId → NodeData → TreeId → Bool) (Q : FullNodeId → NodeData → TreeId → Type 0) → ((id : FullNodeId) (d : NodeData) (name : TreeId) → test id d name ≡ true → Q id d name) → (es : List (FullNodeId × NodeData)) → pass_grafts test es ≡ true → EachGraft Q es
pass_each_graft test Q makes es e = pass_each (λ e. option_map_or (test e.0 e.1) e.1.tree_id true) (λ e. IfSome e.1.tree_id (Q e.0 e.1)) (λ e passes. of_graft e.0 e.1 e.1.tree_id passes) es e
  where
    of_graft : (id : FullNodeId) (d : NodeData) (o : Option TreeId) → option_map_or (test id d) o true ≡ true → IfSome o (Q id d)
    of_graft id d None passes = tt
    of_graft id d (Some name) passes = makes id d name passes

-- ---- the tests of an update

abbrev is_nil : {A : Type 0} → List A → Bool
is_nil [] = true
is_nil (x ∷ xs) = false

nil_passed : {A : Type 0} (xs : List A) → is_nil xs ≡ true → xs ≡ []
nil_passed [] e = refl
nil_passed (x ∷ xs) e = absurd (false≢true e)

false_passed : (b : Bool) → not b ≡ true → b ≡ false
false_passed true e = absurd (false≢true e)
false_passed false e = refl

abbrev is_same_place : Place → Place → Bool
is_same_place p q = is_same p.0 q.0 && eqb p.1 q.1

same_place_passed : (p q : Place) → is_same_place p q ≡ true → p ≡ q
same_place_passed p q e =
    let both = and_parts (is_same p.0 q.0) (eqb p.1 q.1) e in
    let parent : p.0 ≡ q.0 = same_from_test p.0 q.0 both.0 in
    let index : p.1 ≡ q.1 = eqb-true p.1 q.1 both.1 in
    λ i. (parent i, index i)

abbrev entry_in : List NodeId → NodeId → ℕ
entry_in [] n = 0
entry_in (x ∷ xs) n = cond (eqb x.0 n.0) 0 (suc (entry_in xs n))

abbrev place_in : List (FullNodeId × NodeData) → FullNodeId → Place
place_in es id = unwrap_or (lister es id) (id, 0)

abbrev graft_of : List (FullNodeId × NodeData) → TreeId → FullNodeId
graft_of es name = unwrap_or (grafter es name) (record { tree = 0; node = record { 0 = 0 } })

-- the trees that stay are kept, and their roots stay
abbrev trees_pass : World → List (ℕ × Tree) → List (FullNodeId × NodeData) → List (ℕ × Tree) → List (FullNodeId × NodeData) → Bool
trees_pass m mts mes ts es = all_pass (λ e. leads_out m mts mes 3 e.0 && has_node es (in_tree e.0 e.1.root)) ts

-- the nodes that stay are reached, and their trees stay
abbrev nodes_pass : World → List (ℕ × Tree) → List (FullNodeId × NodeData) → List (ℕ × Tree) → List (FullNodeId × NodeData) → Bool
nodes_pass m mts mes ts es = all_pass (λ e. climbs m mts mes 3 e.0 && has_tree ts e.0.tree) es

-- what they list stays, stands at one place, and is no root
abbrev lists_pass : List (ℕ × Tree) → List (FullNodeId × NodeData) → Bool
lists_pass mts es = pass_listed (λ p c. (has_node es c && is_same_place p (place_in es c)) && not (is_root_in mts c)) es

-- a graft lists nothing, is the only one of its tree, which isn't the root tree, and stays where it is present
abbrev grafts_pass : World → List (ℕ × Tree) → List (ℕ × Tree) → List (FullNodeId × NodeData) → Bool
grafts_pass m mts ts es = pass_grafts (λ id d name. ((is_nil d.children && not (is_name ROOT_NAME name)) && is_same id (graft_of es name)) && option_map_or (λ inner. has_tree ts inner.tree) (named_in m mts name) true) es

-- the named nodes stay, and each is named once
abbrev named_pass : World → UpdateData → List (ℕ × Tree) → List (FullNodeId × NodeData) → Bool
named_pass w u ts es =
    ((has_tree ts 0 && has_tree ts (index_for w u.name)) && all_pass (λ e. has_node es (in_tree (index_for w u.name) e.0)) u.nodes) && pass_at (λ i n. eqb (entry_in (map (λ e. e.0) u.nodes) n) i) 0 (map (λ e. e.0) u.nodes)

abbrev pub all_tests_pass : World → UpdateData → List (ℕ × Tree) → List (FullNodeId × NodeData) → List (ℕ × Tree) → List (FullNodeId × NodeData) → Bool
all_tests_pass w u mts mes ts es =
    ((trees_pass (merged_world w u) mts mes ts es && nodes_pass (merged_world w u) mts mes ts es) && (lists_pass mts es && grafts_pass (merged_world w u) mts ts es)) && named_pass w u ts es

-- what is shown of an update and the world that it leaves: where each comes from, and that all tests pass
pub record IsTested (w : World) (u : UpdateData) (new : World) (mts : List (ℕ × Tree)) (mes : List (FullNodeId × NodeData)) (ts : List (ℕ × Tree)) (es : List (FullNodeId × NodeData)) : Type 0 where
  pub before : IsWritten (merged_world w u) mts mes
  pub after : IsWritten new ts es
  pub same : (new.known ≡ (merged_world w u).known) × (new.toolkit ≡ (merged_world w u).toolkit) × (new.host_focused ≡ w.host_focused)
  pub occasion : IsShownFirst w u ⊎ IsShownLater w u
  pub found : AllByRecursion (λ e. find nat_cmp e.0 mts ≡ Some e.1) ts × AllByRecursion (λ e. find full_cmp e.0 mes ≡ Some e.1) es
  pub passes : all_tests_pass w u mts mes ts es ≡ true

-- an update of the root tree that comes later, to a world that has it
pub root_tree_again : {w : World} (u : UpdateData) {ts : List (ℕ × Tree)} {es : List (FullNodeId × NodeData)} → IsWritten w ts es → u.name ≡ ROOT_NAME → has_tree ts (index_for w u.name) ≡ true → IsSome (index_of w u.name) → IsShownFirst w u ⊎ IsShownLater w u
root_tree_again {w} u is named there known =
    inr (record { later = λ first. nothing_known first; grafted = inl named; has_root = inl (is_present is (index_for w u.name) there); index_left = inl known })
  where
    nothing_known : ¬ (w.known ≡ [])
    nothing_known first = let none : index_of w u.name ≡ None = ap (position (is_name u.name)) first in let some : IsSome {T = ℕ} None = subst IsSome none known in cc

-- the same of an update of a written world, whose merged world is written with it
pub tested : {w : World} (u : UpdateData) {new : World} {ots : List (ℕ × Tree)} {oes : List (FullNodeId × NodeData)} {ts : List (ℕ × Tree)} {es : List (FullNodeId × NodeData)}
    → IsWritten w ots oes → (root : NodeId) → root_read w u ots ≡ Some root → IsWritten new ts es
    → (new.known ≡ (merged_world w u).known) × (new.toolkit ≡ (merged_world w u).toolkit) × (new.host_focused ≡ w.host_focused) → IsShownFirst w u ⊎ IsShownLater w u
    → AllByRecursion (λ e. find nat_cmp e.0 (trees_over w u root ots) ≡ Some e.1) ts × AllByRecursion (λ e. find full_cmp e.0 (nodes_over w u oes) ≡ Some e.1) es
    → all_tests_pass w u (trees_over w u root ots) (nodes_over w u oes) ts es ≡ true
    → IsTested w u new (trees_over w u root ots) (nodes_over w u oes) ts es
tested {w} u before root read after same occasion found passes = record { before = merged_written w u before root read; after = after; same = same; occasion = occasion; found = found; passes = passes }

module _ {w : World} {u : UpdateData} {new : World} {mts : List (ℕ × Tree)} {mes : List (FullNodeId × NodeData)} {ts : List (ℕ × Tree)} {es : List (FullNodeId × NodeData)} (s : IsTested w u new mts mes ts es) where
  abbrev m : World
  m = merged_world w u

  pub tested_apart : IsShownApart w u new ts es
  tested_apart =
      let all = and_parts ((trees_pass m mts mes ts es && nodes_pass m mts mes ts es) && (lists_pass mts es && grafts_pass m mts ts es)) (named_pass w u ts es) s.passes in
      let first = and_parts (trees_pass m mts mes ts es && nodes_pass m mts mes ts es) (lists_pass mts es && grafts_pass m mts ts es) all.0 in
      let entries_pass = and_parts (trees_pass m mts mes ts es) (nodes_pass m mts mes ts es) first.0 in
      let lists_and_grafts = and_parts (lists_pass mts es) (grafts_pass m mts ts es) first.1 in
      let named = and_parts ((has_tree ts 0 && has_tree ts (index_for w u.name)) && all_pass (λ e. has_node es (in_tree (index_for w u.name) e.0)) u.nodes) (pass_at (λ i n. eqb (entry_in (map (λ e. e.0) u.nodes) n) i) 0 (map (λ e. e.0) u.nodes)) all.1 in
      let present = and_parts (has_tree ts 0 && has_tree ts (index_for w u.name)) (all_pass (λ e. has_node es (in_tree (index_for w u.name) e.0)) u.nodes) named.0 in
      let both_trees = and_parts (has_tree ts 0) (has_tree ts (index_for w u.name)) present.0 in
      record {
        rebuilt = record {
          ts_are = s.after.trees;
          es_are = s.after.nodes;
          known = s.same.0;
          toolkit = s.same.1;
          host = s.same.2;
          trees = each_passed (λ e. leads_out m mts mes 3 e.0 && has_node es (in_tree e.0 e.1.root)) _ _ tree_shown ts s.found.0 entries_pass.0;
          nodes = each_passed (λ e. climbs m mts mes 3 e.0 && has_tree ts e.0.tree) _ _ node_shown es s.found.1 entries_pass.1;
          root_tree = is_present s.after 0 both_trees.0;
          children = pass_each_listed _ (λ p c. IsNode new c) (λ p c e. is_there s.after c (list_parts p c e).0) es lists_and_grafts.0;
          grafts = pass_each_graft _ _ (λ id d name e. inner_stays name (graft_parts id d name e).1) es lists_and_grafts.1;
        };
        occasion = s.occasion;
        named_tree = is_present s.after (index_for w u.name) both_trees.1;
        named = pass_each _ _ (λ e passes. is_there s.after (in_tree (index_for w u.name) e.0) passes) u.nodes present.1;
        entry_of = entry_in (map (λ e. e.0) u.nodes);
        named_once = pass_each_at _ _ (λ i n e. eqb-true (entry_in (map (λ e. e.0) u.nodes) n) i e) 0 (map (λ e. e.0) u.nodes) named.1;
        place_of = place_in es;
        listed_once = pass_each_listed _ (λ p c. (p ≡ place_in es c) × (root_of m c.tree ≢ Some c)) (λ p c e. let parts = list_parts p c e in (parts.1, parts.2)) es lists_and_grafts.0;
        graft_of = graft_of es;
        grafted_once = pass_each_graft _ (λ id d name. (d.children ≡ []) × (name ≢ ROOT_NAME) × (id ≡ graft_of es name)) (λ id d name e. (graft_parts id d name e).0) es lists_and_grafts.1;
      }
    where
      tree_shown : (e : ℕ × Tree) → find nat_cmp e.0 mts ≡ Some e.1 → (leads_out m mts mes 3 e.0 && has_node es (in_tree e.0 e.1.root)) ≡ true → (get m.trees e.0 ≡ Some e.1) × Kept m e.0 × IsNode new (in_tree e.0 e.1.root)
      tree_shown e is passes =
          let both = and_parts (leads_out m mts mes 3 e.0) (has_node es (in_tree e.0 e.1.root)) passes in
          (tree_at s.before e.0 ∙ is, kept_by s.before 3 e.0 both.0, is_there s.after (in_tree e.0 e.1.root) both.1)

      node_shown : (e : FullNodeId × NodeData) → find full_cmp e.0 mes ≡ Some e.1 → (climbs m mts mes 3 e.0 && has_tree ts e.0.tree) ≡ true → HasData m e.0 e.1 × Reached m e.0 × IsSome (get new.trees e.0.tree)
      node_shown e is passes =
          let both = and_parts (climbs m mts mes 3 e.0) (has_tree ts e.0.tree) passes in
          (node_in s.before e.0 ∙ is, reached_by s.before 3 e.0 both.0, is_present s.after e.0.tree both.1)

      list_parts : (p : Place) (c : FullNodeId) → ((has_node es c && is_same_place p (place_in es c)) && not (is_root_in mts c)) ≡ true → (has_node es c ≡ true) × (p ≡ place_in es c) × (root_of m c.tree ≢ Some c)
      list_parts p c e =
          let outer = and_parts (has_node es c && is_same_place p (place_in es c)) (not (is_root_in mts c)) e in
          let here = and_parts (has_node es c) (is_same_place p (place_in es c)) outer.0 in
          (here.0, same_place_passed p (place_in es c) here.1, no_root s.before c (false_passed (is_root_in mts c) outer.1))

      graft_parts : (id : FullNodeId) (d : NodeData) (name : TreeId) → (((is_nil d.children && not (is_name ROOT_NAME name)) && is_same id (graft_of es name)) && option_map_or (λ inner. has_tree ts inner.tree) (named_in m mts name) true) ≡ true
          → ((d.children ≡ []) × (name ≢ ROOT_NAME) × (id ≡ graft_of es name)) × (option_map_or (λ inner. has_tree ts inner.tree) (named_in m mts name) true ≡ true)
      graft_parts id d name e =
          let outer = and_parts ((is_nil d.children && not (is_name ROOT_NAME name)) && is_same id (graft_of es name)) (option_map_or (λ inner. has_tree ts inner.tree) (named_in m mts name) true) e in
          let here = and_parts (is_nil d.children && not (is_name ROOT_NAME name)) (is_same id (graft_of es name)) outer.0 in
          let own = and_parts (is_nil d.children) (not (is_name ROOT_NAME name)) here.0 in
          let other : is_name ROOT_NAME name ≡ false = false_passed (is_name ROOT_NAME name) own.1 in
          ((nil_passed d.children own.0, λ same. false≢true (sym other ∙ ap (is_name ROOT_NAME) same ∙ is_name-itself ROOT_NAME), same_from_test id (graft_of es name) here.1), outer.1)

      inner_stays : (name : TreeId) → option_map_or (λ inner. has_tree ts inner.tree) (named_in m mts name) true ≡ true → (inner : FullNodeId) → root_named m name ≡ Some inner → IsSome (get new.trees inner.tree)
      inner_stays name e inner is = is_present s.after inner.tree (ap (λ o. option_map_or (λ i. has_tree ts i.tree) o true) (sym (sym (named_at s.before name) ∙ is)) ∙ e)

  -- the update is accepted where the root tree's declared focus is a node and no graft
  pub accepted_tested : (focus : Tree) → find nat_cmp 0 mts ≡ Some focus → has_node es (in_tree 0 focus.focus) ≡ true → graft_in mes (in_tree 0 focus.focus) ≡ None → IsAccepted w u new
  accepted_tested focus is stays ends = accepted_shown (record {
    apart = tested_apart;
    focus = focus;
    is_focus = tree_at s.before 0 ∙ is;
    focus_there = is_there s.after (in_tree 0 focus.focus) stays;
    focus_ends = grafts_in s.before (in_tree 0 focus.focus) ∙ ends;
  })

-- an update of a written world is accepted and leaves another, where the tests pass and the root tree's declared focus is a node and no graft
pub accepted_by_tests : {w : World} (u : UpdateData) {new : World} {ots : List (ℕ × Tree)} {oes : List (FullNodeId × NodeData)} {ts : List (ℕ × Tree)} {es : List (FullNodeId × NodeData)}
    → IsWritten w ots oes → (root : NodeId) → root_read w u ots ≡ Some root → IsWritten new ts es
    → (new.known ≡ (merged_world w u).known) × (new.toolkit ≡ (merged_world w u).toolkit) × (new.host_focused ≡ w.host_focused) → IsShownFirst w u ⊎ IsShownLater w u
    → AllByRecursion (λ e. find nat_cmp e.0 (trees_over w u root ots) ≡ Some e.1) ts × AllByRecursion (λ e. find full_cmp e.0 (nodes_over w u oes) ≡ Some e.1) es
    → all_tests_pass w u (trees_over w u root ots) (nodes_over w u oes) ts es ≡ true
    → (focus : Tree) → find nat_cmp 0 (trees_over w u root ots) ≡ Some focus → has_node es (in_tree 0 focus.focus) ≡ true → graft_in (nodes_over w u oes) (in_tree 0 focus.focus) ≡ None → IsAccepted w u new
accepted_by_tests u before root read after same occasion found passes focus is stays ends = accepted_tested (tested u before root read after same occasion found passes) focus is stays ends
