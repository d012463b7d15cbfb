-- What a store shows after room is made and after changes are written.
use Rattle.std.proofs.Common.{◌≡◌, ℕ, List, [], Bool, true, false, cond, Option, Some, None, refl, sym, ap, subst, ◌∙◌}
use Rattle.std.specs.Prelude.{◌||◌, is_some, option_and_then}
use Rattle.std.specs.Option.{option_map, option_map_or}
use Rattle.std.specs.FinMap.{get, get-empty, empty, same_map}
use Rattle.std.specs.FinSet as set
use Rattle.schema.specs.NodeData.{NodeData}
use Rattle.schema.specs.declared.NodeId.{NodeId}
use Rattle.schema.specs.declared.TreeId.{TreeId}
use Rattle.model.specs.declared.FullNodeId.{FullNodeId}
use Rattle.model.specs.FullIds.{full_cmp, full_total, exact_full}
use Rattle.model.specs.World.{World, Place, data_of, index_of, graft_name}
use Rattle.model.specs.Focus.{IsEffectiveFocus}
use Rattle.model.specs.Update.{UpdateData, known_after, toolkit_after}
use Rattle.model.specs.State.{IsState, empty_world}
use Rattle.tree_changes.specs.declared.look_ups.TreeRecord.{TreeRecord}
use Rattle.tree_changes.specs.declared.decision.NodeChange.{NodeChange}
use Rattle.tree_changes.specs.declared.decision.NodeChange.TheVariants.{Put, Gone}
use Rattle.tree_changes.specs.declared.decision.Decision.{Decision}
use Rattle.tree_changes.specs.Changes.{NodeChanges, change_at, entry_data, place_in, put_all, put_trees, overlaid_world, tree_change, tree_after, if_kept}
use Rattle.tree_changes.specs.LookUps.{IsPlaceOf, IsTreeRecord}
use Rattle.tree_changes.specs.Decisions.{IsDecision}
use Rattle.tree_store.specs.Cells.{Record}
use Rattle.tree_store.specs.declared.records.PresentTree.{PresentTree}
use Rattle.tree_store.specs.declared.records.NameRecord.{NameRecord}
use Rattle.tree_store.specs.declared.store.Store.TheInside.{Inside}
use Rattle.tree_store.specs.Cells.{SlotsView, slot_in, record_at, HasOwnCells}
use Rattle.tree_store.specs.Stored.{nodes_shown, trees_shown, texts_shown, slots_shown, names_shown}
use Rattle.tree_store.specs.Seated.{IsSeated}
use Rattle.tree_store.specs.KeptNames.{name_at, name_after, kept_in}
use Rattle.tree_store.specs.NameRecords.{record_of}
use Rattle.tree_store.specs.Shown.{world_shown, NamesAreTrue, IsStored}
use Rattle.tree_store.specs.Commits.{record_moved_to, record_after, changed_record, HasNoSpare, HasRoomFor}
use Rattle.tree_store.proofs.Maps.{node_in, get-nodes_shown, contains-slots_shown}
use Rattle.tree_store.proofs.KeptReads.{stored_record}
use Rattle.tree_changes.proofs.Overlays.{effect, get-put_all}

some_node : (r : Option Record) → is_some (node_in r) ≡ is_some r
some_node None = refl
some_node (Some r) = refl

pub shown_some : (es : SlotsView) (q : FullNodeId) → is_some (get (nodes_shown es) q) ≡ is_some (record_at es q)
shown_some es q = ap is_some (get-nodes_shown es q) ∙ some_node (record_at es q)

-- room as the world and the slots show it, and as the records do
pub no_spare : (es : SlotsView) → ((id : FullNodeId) → set.contains (slots_shown es) id ≡ is_some (get (nodes_shown es) id)) → HasNoSpare es
no_spare es h id = sym (contains-slots_shown es id) ∙ h id ∙ shown_some es id

pub tight : (es : SlotsView) → HasNoSpare es → (id : FullNodeId) → set.contains (slots_shown es) id ≡ is_some (get (nodes_shown es) id)
tight es h id = contains-slots_shown es id ∙ h id ∙ sym (shown_some es id)

pub room_for : (es : SlotsView) (cs : NodeChanges) → ((id : FullNodeId) → set.contains (slots_shown es) id ≡ (is_some (get (nodes_shown es) id) || is_some (change_at cs id))) → HasRoomFor es cs
room_for es cs h id = sym (contains-slots_shown es id) ∙ h id ∙ ap (λ b. b || is_some (change_at cs id)) (shown_some es id)

pub ready : (es : SlotsView) (cs : NodeChanges) → HasRoomFor es cs → (id : FullNodeId) → set.contains (slots_shown es) id ≡ (is_some (get (nodes_shown es) id) || is_some (change_at cs id))
ready es cs h id = contains-slots_shown es id ∙ h id ∙ ap (λ b. b || is_some (change_at cs id)) (sym (shown_some es id))

pub same_nodes : (es fs : SlotsView) → ((id : FullNodeId) → record_at fs id ≡ record_at es id) → nodes_shown fs ≡ nodes_shown es
same_nodes es fs same = same_map full_total exact_full _ _ (λ q. get-nodes_shown fs q ∙ ap node_in (same q) ∙ sym (get-nodes_shown es q))

-- the places in the records are those of the nodes
abbrev pub HasTruePlaces : SlotsView → World → Type 0
HasTruePlaces s w = (id : FullNodeId) (r : Record) → record_at s id ≡ Some r → IsPlaceOf w id r.place

-- cells that are their ids' own, and have the data and the places, show the world
pub seated_by : (s : SlotsView) (w : World) → HasOwnCells s → ((id : FullNodeId) → node_in (record_at s id) ≡ data_of w id) → HasTruePlaces s w → IsSeated s (slot_in s) w
seated_by s w cells nodes places = record {
  own = λ id n is. let c = cells.own id n is in ap (option_map (λ x. x.id)) c.1 ∙ ap Some c.2;
  nodes = nodes;
  place = places;
}

-- a store with room shows what it showed, and keeps what it kept
module _ (a b : Inside) (stored : IsStored a (world_shown a)) (nodes : (id : FullNodeId) → record_at b.tables.nodes id ≡ record_at a.tables.nodes id)
    (names : (name : TreeId) → kept_in (name_at b.tables.names name) ≡ kept_in (name_at a.tables.names name)) (known : b.tables.known.items ≡ a.tables.known.items)
    (texts : texts_shown b.tables.toolkit ≡ texts_shown a.tables.toolkit) (host : b.host_focused ≡ a.host_focused) (focus : b.focus ≡ a.focus) (cells : HasOwnCells b.tables.nodes) where
  pub world_same : world_shown b ≡ world_shown a
  world_same = λ i. record { known = names_shown (known i); trees = trees_shown 0 (known i); nodes = same_nodes a.tables.nodes b.tables.nodes nodes i; toolkit = texts i; host_focused = host i }

  stored_by : (v : World) → v ≡ world_shown a → IsStored b v
  stored_by v e = subst (IsStored b) (sym e) (record {
    state = stored.state;
    seated = seated_by b.tables.nodes (world_shown a) cells (λ id. ap node_in (nodes id) ∙ stored.seated.nodes id) (λ id r is. stored.seated.place id r (sym (nodes id) ∙ is));
    names = record {
      index = λ name. ap (λ p. p.0) (names name) ∙ stored.names.index name;
      graft = λ name g. ((λ e. (stored.names.graft name g).0 (sym (ap (λ p. p.1) (names name)) ∙ e)), (λ e. ap (λ p. p.1) (names name) ∙ (stored.names.graft name g).1 e));
    };
    focus = subst (IsEffectiveFocus (world_shown a)) (sym focus) stored.focus;
  })

  pub stored_same : IsStored b (world_shown b)
  stored_same = stored_by (world_shown b) world_same

node_given : (place : Option Place) (o : Option NodeData) → node_in (option_map (λ d. let r : Record = record { place = place; node = d } in r) o) ≡ o
node_given place None = refl
node_given place (Some d) = refl

node_moved : (place : Option Place) (r : Option Record) → node_in (record_moved_to place r) ≡ node_in r
node_moved place None = refl
node_moved place (Some r) = refl

node_after : (nodes : List (NodeId × NodeData)) (o : Option NodeChange) (r : Option Record) → node_in (changed_record nodes o r) ≡ effect nodes o (node_in r)
node_after nodes None r = refl
node_after nodes (Some (Put p (Some k))) r = node_given p (entry_data nodes k)
node_after nodes (Some (Put p None)) r = node_moved p r
node_after nodes (Some Gone) r = refl

place_given : (place : Option Place) (o : Option NodeData) (r : Record) → option_map (λ d. let x : Record = record { place = place; node = d } in x) o ≡ Some r → r.place ≡ place
place_given place None r e = cc
place_given place (Some d) r e = let x : Record = record { place = place; node = d } in let j : x ≡ r = cc in sym (ap (λ (y : Record). y.place) j)

place_moved : (place : Option Place) (before : Option Record) (r : Record) → record_moved_to place before ≡ Some r → r.place ≡ place
place_moved place None r e = cc
place_moved place (Some x) r e = let y : Record = record { place = place; node = x.node } in let j : y ≡ r = cc in sym (ap (λ (z : Record). z.place) j)

place_after : (nodes : List (NodeId × NodeData)) (c : NodeChange) (before : Option Record) (r : Record) → record_after nodes c before ≡ Some r → r.place ≡ place_in c
place_after nodes (Put p (Some k)) before r e = place_given p (entry_data nodes k) r e
place_after nodes (Put p None) before r e = place_moved p before r e
place_after nodes Gone before r e = cc

index_by : (i : Option ℕ) (g : Option FullNodeId) (name : TreeId) (t : Option PresentTree) → i ≡ option_and_then (λ r. r.index) (record_of name i g t)
index_by (Some i) g name t = refl
index_by None (Some g) name t = refl
index_by None None name t = refl

graft_by : (i : Option ℕ) (g : Option FullNodeId) (name : TreeId) (t : Option PresentTree) → g ≡ option_and_then (λ r. r.graft) (record_of name i g t)
graft_by (Some i) g name t = refl
graft_by None (Some g) name t = refl
graft_by None None name t = refl

index_kept : (r : TreeRecord) (b : Bool) → option_and_then (λ (x : NameRecord). x.index) (cond b (Some (record { index = r.index; graft = r.graft })) None) ≡ option_and_then (λ (x : TreeRecord). x.index) (cond b (Some r) None)
index_kept r true = refl
index_kept r false = refl

graft_kept : (r : TreeRecord) (b : Bool) → option_and_then (λ (x : NameRecord). x.graft) (cond b (Some (record { index = r.index; graft = r.graft })) None) ≡ option_and_then (λ (x : TreeRecord). x.graft) (cond b (Some r) None)
graft_kept r true = refl
graft_kept r false = refl

-- a part of a name's record afterwards, which f has of what is kept of a name, and h of the record of a tree
part_after : {X : Type 0} (f : NameRecord → Option X) (h : TreeRecord → Option X) (name : TreeId)
    → ((n : Option NameRecord) (t : Option PresentTree) → option_and_then f n ≡ option_and_then h (record_of name (option_and_then (λ r. r.index) n) (option_and_then (λ r. r.graft) n) t))
    → ((r : TreeRecord) (b : Bool) → option_and_then f (cond b (Some (record { index = r.index; graft = r.graft })) None) ≡ option_and_then h (cond b (Some r) None))
    → (rs : List TreeRecord) (o : Option TreeRecord) (n : Option NameRecord) (t : Option PresentTree) → o ≡ tree_change rs name
    → option_and_then f (name_after o n) ≡ option_and_then h (tree_after rs name (record_of name (option_and_then (λ r. r.index) n) (option_and_then (λ r. r.graft) n) t))
part_after f h name by kept rs None n t e =
    by n t ∙ ap (λ x. option_and_then h (option_map_or if_kept x (record_of name (option_and_then (λ r. r.index) n) (option_and_then (λ r. r.graft) n) t))) e
part_after f h name by kept rs (Some r) n t e =
    kept r (is_some r.index || is_some r.graft)
    ∙ ap (λ x. option_and_then h (option_map_or if_kept x (record_of name (option_and_then (λ r. r.index) n) (option_and_then (λ r. r.graft) n) t))) e

index_after : (rs : List TreeRecord) (name : TreeId) (o : Option TreeRecord) (n : Option NameRecord) (t : Option PresentTree) → o ≡ tree_change rs name
    → option_and_then (λ r. r.index) (name_after o n) ≡ option_and_then (λ r. r.index) (tree_after rs name (record_of name (option_and_then (λ r. r.index) n) (option_and_then (λ r. r.graft) n) t))
index_after rs name = part_after (λ r. r.index) (λ r. r.index) name (λ n t. index_by (option_and_then (λ r. r.index) n) (option_and_then (λ r. r.graft) n) name t) index_kept rs

graft_after : (rs : List TreeRecord) (name : TreeId) (o : Option TreeRecord) (n : Option NameRecord) (t : Option PresentTree) → o ≡ tree_change rs name
    → option_and_then (λ r. r.graft) (name_after o n) ≡ option_and_then (λ r. r.graft) (tree_after rs name (record_of name (option_and_then (λ r. r.index) n) (option_and_then (λ r. r.graft) n) t))
graft_after rs name = part_after (λ r. r.graft) (λ r. r.graft) name (λ n t. graft_by (option_and_then (λ r. r.index) n) (option_and_then (λ r. r.graft) n) name t) graft_kept rs

-- the record of a name that a store keeps
pub record_of_name : (a : Inside) (name : TreeId) → NamesAreTrue a.tables.names (world_shown a) → (before : Option TreeRecord) × IsTreeRecord (world_shown a) name before
record_of_name a name stored = (_, stored_record a name (name_at a.tables.names name) _ _ _ stored refl refl refl refl)

-- a store whose changes are written shows the world with the changes, and keeps what that asks
module _ (a b : Inside) (u : UpdateData) (d : Decision) (old_places : HasTruePlaces a.tables.nodes (world_shown a)) (old_names : NamesAreTrue a.tables.names (world_shown a)) (leaves : IsState (overlaid_world (world_shown a) u d)) (decided : IsDecision (world_shown a) u d)
    (records : (id : FullNodeId) → record_at b.tables.nodes id ≡ changed_record u.nodes (change_at d.nodes.items id) (record_at a.tables.nodes id))
    (known : names_shown b.tables.known.items ≡ known_after (world_shown a) u.name) (trees : trees_shown 0 b.tables.known.items ≡ put_trees (trees_shown 0 a.tables.known.items) d.trees.items)
    (names : (name : TreeId) → name_at b.tables.names name ≡ name_after (tree_change d.trees.items name) (name_at a.tables.names name))
    (texts : texts_shown b.tables.toolkit ≡ toolkit_after (world_shown a) u) (host : b.host_focused ≡ a.host_focused) (focus : b.focus ≡ d.focus) (cells : HasOwnCells b.tables.nodes) where
  nodes_written : nodes_shown b.tables.nodes ≡ put_all u.nodes (nodes_shown a.tables.nodes) d.nodes.items
  nodes_written = same_map full_total exact_full _ _ (λ q.
      get-nodes_shown b.tables.nodes q ∙ ap node_in (records q) ∙ node_after u.nodes (change_at d.nodes.items q) (record_at a.tables.nodes q)
      ∙ ap (effect u.nodes (change_at d.nodes.items q)) (sym (get-nodes_shown a.tables.nodes q)) ∙ sym (get-put_all u.nodes (nodes_shown a.tables.nodes) d.nodes.items q))

  pub world_written : world_shown b ≡ overlaid_world (world_shown a) u d
  world_written = λ i. record { known = known i; trees = trees i; nodes = nodes_written i; toolkit = texts i; host_focused = host i }

  place_by : (id : FullNodeId) (r : Record) (o : Option NodeChange) → change_at d.nodes.items id ≡ o → changed_record u.nodes o (record_at a.tables.nodes id) ≡ Some r → IsPlaceOf (overlaid_world (world_shown a) u d) id r.place
  place_by id r None is e p =
      let here = old_places id r e p in
      ((λ at. decided.others id p is (here.0 at)), (λ at. here.1 (decided.others_back id p is at)))
  place_by id r (Some c) is e p = subst (IsPlaceOf (overlaid_world (world_shown a) u d) id) (sym (place_after u.nodes c (record_at a.tables.nodes id) r e)) (decided.changes id c is).place p

  record_before : (name : TreeId) → (t : Option PresentTree) × IsTreeRecord (world_shown a) name (record_of name (option_and_then (λ r. r.index) (name_at a.tables.names name)) (option_and_then (λ r. r.graft) (name_at a.tables.names name)) t)
  record_before name = (_, stored_record a name (name_at a.tables.names name) _ _ _ old_names refl refl refl refl)

  names_written : NamesAreTrue b.tables.names (overlaid_world (world_shown a) u d)
  names_written = record {
    index = λ name.
        let h = record_before name in
        ap (option_and_then (λ r. r.index)) (names name) ∙ index_after d.trees.items name (tree_change d.trees.items name) (name_at a.tables.names name) h.0 refl ∙ (decided.trees name _ h.1).index;
    graft = λ name g.
        let h = record_before name in
        let same = ap (option_and_then (λ r. r.graft)) (names name) ∙ graft_after d.trees.items name (tree_change d.trees.items name) (name_at a.tables.names name) h.0 refl in
        let k = (decided.trees name _ h.1).graft g in
        ((λ e. k.0 (sym same ∙ e)), (λ e. same ∙ k.1 e));
  }

  written_by : (v : World) → v ≡ overlaid_world (world_shown a) u d → IsStored b v
  written_by v e = subst (IsStored b) (sym e) (record {
    state = leaves;
    seated = seated_by b.tables.nodes (overlaid_world (world_shown a) u d) cells
        (λ id. sym (get-nodes_shown b.tables.nodes id) ∙ ap (λ w. data_of w id) world_written)
        (λ id r is. place_by id r (change_at d.nodes.items id) refl (sym (records id) ∙ is));
    names = names_written;
    focus = subst (IsEffectiveFocus (overlaid_world (world_shown a) u d)) (sym focus) decided.focus;
  })

  pub stored_written : IsStored b (world_shown b)
  stored_written = written_by (world_shown b) world_written

-- no node and no name is known
pub record IsBlank (a : Inside) (host : Bool) : Type 0 where
  pub nodes : (id : FullNodeId) → record_at a.tables.nodes id ≡ None
  pub world : world_shown a ≡ empty_world host
  pub names : NamesAreTrue a.tables.names (world_shown a)
  pub places : HasTruePlaces a.tables.nodes (world_shown a)

-- before anything is written a store of no record shows the empty world, and keeps what that asks
module _ (a : Inside) (host : Bool) (known : a.tables.known.items ≡ []) (nodes : (id : FullNodeId) → record_at a.tables.nodes id ≡ None)
    (names : (name : TreeId) → kept_in (name_at a.tables.names name) ≡ (None, None)) (texts : texts_shown a.tables.toolkit ≡ (None, None)) (told : a.host_focused ≡ host) where
  blank_world : world_shown a ≡ empty_world host
  blank_world = λ i. record {
    known = names_shown (known i);
    trees = trees_shown 0 (known i);
    nodes = same_map full_total exact_full (nodes_shown a.tables.nodes) empty (λ q. get-nodes_shown a.tables.nodes q ∙ ap node_in (nodes q) ∙ sym (get-empty full_cmp q)) i;
    toolkit = texts i;
    host_focused = told i;
  }

  blank_places : HasTruePlaces a.tables.nodes (world_shown a)
  blank_places id r e = let none : None ≡ Some r = sym (nodes id) ∙ e in cc

  ungrafted : (g : FullNodeId) (name : TreeId) → graft_name (world_shown a) g ≡ Some name → ⊥
  ungrafted g name e =
      let none : None ≡ Some name = sym (ap (λ w. graft_name w g) blank_world ∙ ap (option_and_then (λ d. d.tree_id)) (get-empty full_cmp g)) ∙ e in cc

  blank_names : NamesAreTrue a.tables.names (world_shown a)
  blank_names = record {
    index = λ name. ap (λ p. p.0) (names name) ∙ sym (ap (λ w. index_of w name) blank_world);
    graft = λ name g. ((λ e. let none : None ≡ Some g = sym (ap (λ p. p.1) (names name)) ∙ e in cc), (λ e. absurd (ungrafted g name e)));
  }

  pub all_blank : IsBlank a host
  all_blank = record { nodes = nodes; world = blank_world; names = blank_names; places = blank_places }
