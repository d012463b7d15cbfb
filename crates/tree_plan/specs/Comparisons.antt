-- The comparison of the update's nodes with their old records, up to some entry.
use Rattle.std.specs.Prelude.{◌≡◌, ◌≢◌, ℕ, ◌<◌, ◌≤◌, List, [], ◌++◌, length, map, slice_get, AllPairs, Contains, Option, Some, None, IsSome, Bool, IsTrue, ⊤, ◌⊎◌, ◌↔◌, if◌then◌else◌}
use Rattle.std.specs.Option.{option_map, option_to_list}
use Rattle.std.specs.BTreeMap.{is_at}
use Rattle.values_by_id.specs.Rows.{IsTwice}
use Rattle.schema.specs.NodeData.{NodeData}
use Rattle.schema.specs.declared.NodeId.{NodeId}
use Rattle.schema.specs.declared.TreeId.{TreeId}
use Rattle.model.specs.declared.FullNodeId.{FullNodeId}
use Rattle.model.specs.FullIds.{full_cmp}
use Rattle.model.specs.World.{ROOT_NAME, World, Place, IsNode, data_of, in_tree, listed_ids, graft_name}
use Rattle.model.specs.Update.{UpdateData, index_for, merged_world, IsNamed, named_at}
use Rattle.model.specs.Surgery.{Seat, Left, Entered}
use Rattle.tree_changes.specs.LookUps.{IsPlaceOf}
use Rattle.tree_changes.specs.declared.error.UpdateError.{UpdateError}
use Rattle.tree_changes.specs.declared.error.UpdateError.TheVariants as error
use Rattle.tree_plan.specs.declared.passes.Opened.{Opened}
use Rattle.tree_plan.specs.declared.passes.Arrival.{Arrival}
use Rattle.tree_plan.specs.declared.passes.Named.{Named}
use Rattle.tree_plan.specs.declared.passes.Comparing.{Comparing}
use Rattle.tree_plan.specs.declared.comparing.Lists.{Lists}
use Rattle.tree_plan.specs.declared.passes.Compared.{Compared}
use Rattle.tree_plan.specs.Passes.{at, at_name, IsNamedAs, IsShift}

-- one of the first so many entries names the node
abbrev pub IsNamedBefore : World → UpdateData → ℕ → FullNodeId → Type 0
IsNamedBefore w u count id =
    (id.tree ≡ index_for w u.name) × (k : ℕ) × (k < count) × (named_at u k ≡ Some id.node)

-- the first so many entries name nodes of the tree with this index, each another
pub record AreEntriesTaken (index : ℕ) (u : UpdateData) (count : ℕ) (named : List (FullNodeId × Named)) : Type 0 where
  pub has : (id : FullNodeId) → IsSome (at named id) ↔ ((id.tree ≡ index) × (k : ℕ) × (k < count) × (named_at u k ≡ Some id.node))
  pub once : (i j : ℕ) (n : NodeId) → i < count → j < count → named_at u i ≡ Some n → named_at u j ≡ Some n → i ≡ j
  pub count_of : length named ≡ count

-- two entries have the node's id, or memory runs out
abbrev pub IsNamedTwice : UpdateData → UpdateError → Type 0
IsNamedTwice u error.Memory = ⊤
IsNamedTwice u (error.NamedTwice n) = (i j : ℕ) × (i ≢ j) × (named_at u i ≡ Some n) × (named_at u j ≡ Some n)
IsNamedTwice u e = ⊥

-- nodes at spots
abbrev pub Spots : Type 0
Spots = List (FullNodeId × Seat)

-- nodes that entered spots
abbrev pub Arrivals : Type 0
Arrivals = List (FullNodeId × Arrival)

abbrev pub arrival_at : Seat → Bool → Arrival
arrival_at spot is_shifted = record { spot = spot; is_shifted = is_shifted }

abbrev pub spot_entry : FullNodeId × Arrival → FullNodeId × Seat
spot_entry e = (e.0, e.1.spot)

abbrev pub spots_of : Arrivals → Spots
spots_of es = map spot_entry es

-- the list says of the node that it has only shifted
abbrev pub IsShiftedIn : Arrivals → FullNodeId → Type 0
IsShiftedIn es c = (x : Arrival) × Contains es (c, x) × IsTrue x.is_shifted

-- nothing that is said to have only shifted has come to the list
abbrev pub OnlyPlain : Arrivals → Arrivals → Type 0
OnlyPlain before after = (c : FullNodeId) (x : Arrival) → Contains after (c, x) → IsTrue x.is_shifted → Contains before (c, x)

-- no two are of one spot
abbrev pub AreApart : Spots → Type 0
AreApart es = AllPairs (λ a b. a.1 ≢ b.1) es

-- what P finds at spots has come to the list, each once, and nothing else
pub record Gathers (P : FullNodeId → Seat → Type 0) (before after : Spots) : Type 0 where
  pub added : Spots
  pub is : after ≡ before ++ added
  pub found : (c : FullNodeId) (s : Seat) → Contains added (c, s) ↔ P c s
  pub once : AreApart added

-- it is the one and not the other
abbrev pub IsOnly : Option FullNodeId → Option FullNodeId → FullNodeId → Type 0
IsOnly this other c = (this ≡ Some c) × (other ≢ Some c)

-- at this spot there is this and not the other
abbrev pub OnlyAt : Seat → Option FullNodeId → Option FullNodeId → FullNodeId → Seat → Type 0
OnlyAt spot this other c s = (s ≡ spot) × IsOnly this other c

-- it is in this list of the parent, and not at the same index of the other one
abbrev pub OnlyIn : FullNodeId → List FullNodeId → List FullNodeId → FullNodeId → Seat → Type 0
OnlyIn parent this other c s = (k : ℕ) × OnlyAt (Some (parent, k)) (slice_get this k) (slice_get other k) c s

-- the same, at the first so many indexes
abbrev pub OnlyInBefore : ℕ → FullNodeId → List FullNodeId → List FullNodeId → FullNodeId → Seat → Type 0
OnlyInBefore count parent this other c s = (k : ℕ) × (k < count) × OnlyAt (Some (parent, k)) (slice_get this k) (slice_get other k) c s

-- it was at some index of the old list and no longer is, and has come to this spot, in the new list
abbrev pub MovesWithin : FullNodeId → List FullNodeId → List FullNodeId → FullNodeId → Seat → Type 0
MovesWithin parent old new c s = (k j : ℕ) × (slice_get old k ≡ Some c) × (slice_get new k ≢ Some c) × (s ≡ Some (parent, j))

-- what the lists name, in the tree of their parent: before, and after
abbrev pub ids_before : Lists → List FullNodeId
ids_before lists = map (in_tree lists.parent.tree) lists.before.now

abbrev pub ids_after : Lists → List FullNodeId
ids_after lists = map (in_tree lists.parent.tree) lists.after.now

-- Of the old list, what is at these indexes and isn't at the same index of the new one has come to those that left, or has only
-- shifted. Nothing else has come to those that left, and what has come as shifted has shifted.
pub record Leaves (parent : FullNodeId) (old new : List FullNodeId) (from to : ℕ) (left left' : Spots)
    (entered entered' : Arrivals) : Type 0 where
  pub each : (k : ℕ) (c : FullNodeId) → from ≤ k → k < to → slice_get old k ≡ Some c → slice_get new k ≢ Some c
      → Contains left' (c, Some (parent, k)) ⊎ IsShiftedIn entered' c
  pub only : (c : FullNodeId) (s : Seat) → Contains left' (c, s) → Contains left (c, s) ⊎ OnlyIn parent old new c s
  pub kept : (c : FullNodeId) (s : Seat) → Contains left (c, s) → Contains left' (c, s)
  pub shifted : (c : FullNodeId) (x : Arrival) → Contains entered' (c, x) → IsTrue x.is_shifted
      → Contains entered (c, x) ⊎ MovesWithin parent old new c x.spot
  pub stays : (c : FullNodeId) (x : Arrival) → Contains entered (c, x) → Contains entered' (c, x)

-- the child at an index of the new list is compared, and the old list is gone through from one index to another
pub record ComparesChild (parent : FullNodeId) (old new : List FullNodeId) (index from to : ℕ) (a b : Comparing) : Type 0 where
  pub left : Leaves parent old new from to a.left b.left a.entered b.entered
  pub entered : Gathers (OnlyAt (Some (parent, index)) (slice_get new index) (slice_get old index)) (spots_of a.entered)
      (spots_of b.entered)

-- what a node with these data lists, in the tree of the id
abbrev pub child_ids : FullNodeId → NodeData → List FullNodeId
child_ids id d = map (in_tree id.tree) d.children

-- a node with these data may graft what it does, and this is kept in mind
pub record TakesGraft (id : FullNodeId) (d : NodeData) (before after : TreeId → Option FullNodeId) : Type 0 where
  pub ungrafting : d.tree_id ≢ Some ROOT_NAME
  pub childless : (name : TreeId) → d.tree_id ≡ Some name → d.children ≡ []
  pub taken : (name : TreeId) → d.tree_id ≡ Some name → (before name ≡ None) × (after name ≡ Some id)
  pub others : (name : TreeId) → d.tree_id ≢ Some name → after name ≡ before name

-- it may not, or memory runs out
abbrev pub IsGraftFault : FullNodeId → NodeData → (TreeId → Option FullNodeId) → UpdateError → Type 0
IsGraftFault id d before error.Memory = ⊤
IsGraftFault id d before (error.RootTreeGrafted n) = (id.node ≡ n) × (d.tree_id ≡ Some ROOT_NAME)
IsGraftFault id d before (error.GraftWithChildren n) = (id.node ≡ n) × (name : TreeId) × (d.tree_id ≡ Some name) × (d.children ≢ [])
IsGraftFault id d before (error.GraftedTwice name) = (d.tree_id ≡ Some name) × (k : FullNodeId) × (before name ≡ Some k)
IsGraftFault id d before e = ⊥

-- the tree that is no longer grafted is added to the lost ones, and the one that is grafted now to the gained ones
abbrev pub ChangesGraft : Option TreeId → Option TreeId → Comparing → Comparing → Type 0
ChangesGraft old new a b =
    ((old ≡ new) × (b.lost.items ≡ a.lost.items) × (b.gained.items ≡ a.gained.items))
    ⊎ ((old ≢ new) × (b.lost.items ≡ a.lost.items ++ option_to_list old) × (b.gained.items ≡ a.gained.items ++ option_to_list new))

-- an entry with these data names the node
pub record IsEntryOf (w : World) (id : FullNodeId) (entry : ℕ) (d : NodeData) (n : Named) : Type 0 where
  pub entry_is : n.entry ≡ entry
  pub new : n.was ≡ None → ¬ (IsNode w id)
  pub old : (was : Option Place) → n.was ≡ Some was → IsNode w id × IsPlaceOf w id was
  pub news : IsTrue n.is_news ↔ (data_of w id ≢ Some d)

-- A node's data are compared with what it listed and grafted before.
pub record ComparesData (id : FullNodeId) (n : Named) (children : List FullNodeId) (graft : Option TreeId) (d : NodeData)
    (a b : Comparing) : Type 0 where
  pub named : (q : FullNodeId) → at b.named q ≡ (if is_at (full_cmp id) q then Some n else at a.named q)
  pub count_of : IsSome (at a.named id) → length b.named ≡ length a.named
  pub left : Leaves id children (child_ids id d) 0 (length children) a.left b.left a.entered b.entered
  pub entered : Gathers (OnlyIn id (child_ids id d) children) (spots_of a.entered) (spots_of b.entered)
  pub regrafted : ChangesGraft graft d.tree_id a b

-- a named node is compared with its old record
pub record ComparesNode (w : World) (id : FullNodeId) (entry : ℕ) (d : NodeData) (a b : Comparing) : Type 0 where
  pub grafted : TakesGraft id d (at_name a.grafted) (at_name b.grafted)
  pub n : Named
  pub is_entry : IsEntryOf w id entry d n
  pub compares : ComparesData id n (listed_ids w id) (graft_name w id) d a b

-- the root is compared with the one before, and nothing else
pub record BeginsComparing (o : Opened) (named : List (FullNodeId × Named)) (c : Comparing) : Type 0 where
  pub named_is : c.named ≡ named
  pub left : Gathers (OnlyAt None (option_map (in_tree o.index) o.record.root) (Some (in_tree o.index o.root))) [] c.left
  pub entered : Gathers (OnlyAt None (Some (in_tree o.index o.root)) (option_map (in_tree o.index) o.record.root)) [] (spots_of c.entered)
  pub plain : OnlyPlain [] c.entered
  pub grafted : c.grafted.entries ≡ []
  pub lost : c.lost.items ≡ []
  pub gained : c.gained.items ≡ []

-- the root's spot, and those in the lists of the nodes that the first so many entries name
abbrev pub IsDone : World → UpdateData → ℕ → Seat → Type 0
IsDone w u count None = ⊤
IsDone w u count (Some p) = IsNamedBefore w u count p.0

-- the root and the nodes that the first so many entries name have been compared
pub record AreCompared (w : World) (u : UpdateData) (count : ℕ) (c : Comparing) : Type 0 where
  pub ungrafting : (n : FullNodeId) → IsNamedBefore w u count n → graft_name (merged_world w u) n ≢ Some ROOT_NAME
  pub childless : (n : FullNodeId) (name : TreeId) → IsNamedBefore w u count n → graft_name (merged_world w u) n ≡ Some name
      → listed_ids (merged_world w u) n ≡ []
  pub is_named : (id : FullNodeId) (n : Named) → IsNamedBefore w u count id → at c.named id ≡ Some n → IsNamedAs w u id n
  pub has_named : (id : FullNodeId) → IsSome (at c.named id) ↔ IsNamed w u id
  pub left : (id : FullNodeId) (s : Seat) → Contains c.left (id, s) → Left w u s id
  pub left_each : (id : FullNodeId) (s : Seat) → Left w u s id → IsDone w u count s → Contains c.left (id, s) ⊎ IsShiftedIn c.entered id
  pub entered : (id : FullNodeId) (s : Seat) → Contains (spots_of c.entered) (id, s) ↔ (Entered w u s id × IsDone w u count s)
  pub entered_apart : AreApart (spots_of c.entered)
  pub shifted : (id : FullNodeId) (x : Arrival) → Contains c.entered (id, x) → IsTrue x.is_shifted → IsShift w u id x.spot
  pub grafted : (name : TreeId) (n : FullNodeId)
      → (at_name c.grafted name ≡ Some n) ↔ (IsNamedBefore w u count n × (graft_name (merged_world w u) n ≡ Some name))
  pub lost : (name : TreeId)
      → Contains c.lost.items name
      ↔ ((n : FullNodeId) × IsNamedBefore w u count n × (graft_name w n ≡ Some name) × (graft_name (merged_world w u) n ≢ Some name))
  pub gained : (name : TreeId)
      → Contains c.gained.items name
      ↔ ((n : FullNodeId) × IsNamedBefore w u count n × (graft_name (merged_world w u) n ≡ Some name) × (graft_name w n ≢ Some name))
  pub lost_once : AllPairs (λ a b. a ≢ b) c.lost.items
  pub gained_once : AllPairs (λ a b. a ≢ b) c.gained.items
  pub named_count : length c.named ≡ length u.nodes
  pub lost_count : length c.lost.items ≤ count
  pub gained_count : length c.gained.items ≤ count

-- the lists are sorted: what left has one of its spots, and what entered its only arrival
pub record SettlesLists (a : Comparing) (c : Compared) : Type 0 where
  pub named : c.named ≡ a.named
  pub left_found : (id : FullNodeId) (s : Seat) → at c.left id ≡ Some s → Contains a.left (id, s)
  pub left_each : (id : FullNodeId) (s : Seat) → Contains a.left (id, s) → IsSome (at c.left id)
  pub entered : (id : FullNodeId) (x : Arrival) → (at c.entered id ≡ Some x) ↔ Contains a.entered (id, x)
  pub grafted : c.grafted ≡ a.grafted
  pub lost : c.lost ≡ a.lost
  pub gained : c.gained ≡ a.gained

-- a node entered twice
abbrev pub IsEnteredTwice : Comparing → UpdateError → Type 0
IsEnteredTwice a (error.ListedTwice n) = (id : FullNodeId) × (id.node ≡ n) × IsTwice a.entered id
IsEnteredTwice a e = ⊥
