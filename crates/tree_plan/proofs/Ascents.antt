-- The climb from a node: each step goes up to a parent that doesn't go, and where it ends its nodes are reached.
use Rattle.std.proofs.Common.{◌≡◌, ◌≢◌, ◌⊎◌, ◌||◌, ℕ, ◌+◌, ◌<◌, ◌≤◌, Bool, List, [], ◌∷◌, ◌++◌, length, map, take, get_or, slice_get, true, false, Option, Some, None, IsSome, MatchOption, option_map, refl, sym, ap, subst, ◌∙◌, inl, inr, ⊎_elim, arith}
use Rattle.std.specs.List.{Contains, list_any}
use Rattle.std.specs.List.Sorted.{IsStrictlySortedBy}
use Rattle.std.specs.BTreeMap.{BTreeMap, is_at}
use Rattle.std.specs.BTreeMap as tree
use Rattle.std.specs.Ordering.{eq_by_cmp, is_eq}
use Rattle.std.specs.Cmp.{eq_by_cmp_equiv}
use Rattle.std.proofs.lemmas.Cmp.{tied_itself}
use Rattle.std.proofs.lemmas.Option.{same_Some, slice_get-map, slice_get-get_or, slice_get_within}
use Rattle.std.proofs.lemmas.List.{length-map, take_more, get_or-take, length-take-le}
use Rattle.std.proofs.lemmas.List.Elements.{Contains-append_left, Contains-push}
use Rattle.std.proofs.lemmas.Map.Keys.{IsDistinct-from_sorted}
use Rattle.std.proofs.lemmas.Map.Made.{length-le_from_is_member, is_some-lookup}
use Rattle.model.specs.declared.FullNodeId.{FullNodeId}
use Rattle.model.specs.FullIds.{full_cmp, full_total}
use Rattle.model.specs.World.{World, IsNode, data_of, in_tree, graft_name, root_of, Place, StandsAt, Reached}
use Rattle.model.specs.World as world
use Rattle.schema.specs.NodeData.{NodeData}
use Rattle.schema.specs.declared.NodeId.{NodeId}
use Rattle.schema.specs.declared.TreeId.{TreeId}
use Rattle.model.specs.Work.{named_ids}
use Rattle.model.specs.Update.{UpdateData, NotReached, Stands, IsNamed, index_for, named_at, merged_world}
use Rattle.model.specs.State.{Lists}
use Rattle.model.specs.Surgery.{IsOld, Seat, IsAt, HasEntered, Gone, IsRefined, LeadsDown, here, down, IsClimb}
use Rattle.model.proofs.Worlds.Names.{cases_id, cases_some}
use Rattle.model.proofs.State.StatePlaces.{value_of, by_place, stands_listed, root_named_parts, listed_tree, map_some}
use Rattle.model.proofs.Update.AcceptedOrFault.{IsIn, keys, is_key}
use Rattle.model.proofs.Surgery.Spots.{root_reached}
use Rattle.model.proofs.Surgery.LiveAndGone.{reached_node}
use Rattle.model.proofs.Surgery.RulesKept.{listed_is_node}
use Rattle.model.proofs.Surgery.ClimbsUp.{named_spotted, entered_up, old_up, climb_begins, climb_goes_up, climb_loops, climb_ends, unmoved_reached}
use Rattle.tree_changes.specs.LookUps.{IsPlaceOf}
use Rattle.tree_plan.specs.declared.passes.Arrival.{Arrival}
use Rattle.tree_plan.specs.declared.passes.Named.{Named}
use Rattle.tree_plan.specs.declared.passes.Compared.{Compared}
use Rattle.tree_plan.specs.declared.passes.Settled.{Settled}
use Rattle.tree_plan.specs.declared.passes.Opened.{Opened}
use Rattle.tree_plan.specs.Passes.{at, entered_at, HoldsOpened, HoldsCompared, HoldsSettled}
use Rattle.tree_plan.specs.Climbs.{IsNext, IsOldPlace, AreClimbed, IsClimbedFrom}
use Rattle.tree_plan.proofs.Arrived.{not_arrived}
use Rattle.tree_plan.proofs.IdMaps.{Put, put_here, put_apart}

abbrev pub Marks : Type 0
Marks = BTreeMap FullNodeId FullNodeId

-- ---- a map whose keys are nodes has no more entries than there are nodes

module _ (v : World) (marks : Marks) where
  is_among : (xs : List FullNodeId) (q : FullNodeId) → IsIn q xs → list_any (eq_by_cmp full_cmp q) xs ≡ true
  is_among [] q «in» = absurd «in»
  is_among (x ∷ xs) q (inl same) = ap (λ b. b || list_any (eq_by_cmp full_cmp q) xs) (ap (λ z. eq_by_cmp full_cmp q z) same ∙ ap is_eq (tied_itself full_total q))
  is_among (x ∷ xs) q (inr later) = go (eq_by_cmp full_cmp q x) (is_among xs q later)
    where
      go : (b : Bool) → list_any (eq_by_cmp full_cmp q) xs ≡ true → (b || list_any (eq_by_cmp full_cmp q) xs) ≡ true
      go true e = refl
      go false e = e

  pub marks_bounded : IsStrictlySortedBy full_cmp (tree.keys marks) → ((n q : FullNodeId) → at marks.entries n ≡ Some q → IsNode v n) → length marks.entries ≤ length (keys v)
  marks_bounded sorted nodes =
      let same : length (tree.keys marks) ≡ length marks.entries = length-map marks.entries (λ (e : FullNodeId × FullNodeId). e.0) in
      let most : length (tree.keys marks) ≤ length (keys v) = length-le_from_is_member (eq_by_cmp_equiv full_total) (tree.keys marks) (keys v) (IsDistinct-from_sorted full_cmp (tree.keys marks) sorted) (λ q «in».
      let there : IsSome (at marks.entries q) = is_some-lookup (is_at (full_cmp q)) marks.entries ∙ «in» in
      let f = value_of (at marks.entries q) there in
      is_among (keys v) q (is_key v q (nodes q f.0 f.1))) in
      omega arith

-- ---- old places

pub old_was : (w : World) (id : FullNodeId) (n : Named) → IsNode w id → IsOldPlace w id n → (was : Option Place) × (n.was ≡ Some was) × IsPlaceOf w id was
old_was w id n there known = go n.was refl known
  where
    go : (x : Option (Option Place)) → n.was ≡ x → MatchOption x (¬ (IsNode w id)) (λ was. IsPlaceOf w id was) → (was : Option Place) × (n.was ≡ Some was) × IsPlaceOf w id was
    go None e none = absurd (none there)
    go (Some was) e place = (was, e, place)

pub stands_node : (w : World) → IsOld w → (p : Place) (id : FullNodeId) → StandsAt w p id → IsNode w id
stands_node w o p id at = ⊎_elim (λ l. o.listed_is_node p id l.1) (λ g. o.root_is_node id.tree id (root_named_parts w g.0 id g.2).1) (by_place w p id at)

pub leads_tree : (v : World) (x q : FullNodeId) (steps : ℕ) → LeadsDown v x q steps → q.tree ≡ x.tree
leads_tree v x q steps (here n) = refl
leads_tree v x q steps (down p c n k at leads) = leads_tree v c q k leads ∙ listed_tree v p c at

-- the node of this entry: it is named, and by no earlier entry
pub record IsStart (w : World) (u : UpdateData) (k : ℕ) (start : FullNodeId) : Type 0 where
  pub at : slice_get (named_ids w u) k ≡ Some start
  pub named : IsNamed w u start
  pub new : ¬ (Contains (take k (named_ids w u)) start)
  pub more : take (k + 1) (named_ids w u) ≡ take k (named_ids w u) ++ start ∷ []

module _ (w : World) (u : UpdateData) where
  -- the entry at this place names the node of this place
  pub entry_at : (k : ℕ) (q : FullNodeId) → slice_get (named_ids w u) k ≡ Some q → (named_at u k ≡ Some q.node) × (q.tree ≡ index_for w u.name)
  entry_at k q at =
      let e = map_some (λ (e : NodeId × NodeData). in_tree (index_for w u.name) e.0) (slice_get u.nodes k) q (sym (slice_get-map (λ (e : NodeId × NodeData). in_tree (index_for w u.name) e.0) u.nodes k) ∙ at) in
      (slice_get-map (λ (e : NodeId × NodeData). e.0) u.nodes k ∙ ap (option_map (λ (e : NodeId × NodeData). e.0)) e.1 ∙ ap Some (ap (λ x. x.node) e.2), sym (ap (λ x. x.tree) e.2))

  pub is_start : ((i j : ℕ) (n : NodeId) → named_at u i ≡ Some n → named_at u j ≡ Some n → i ≡ j) → (k : ℕ) (start : FullNodeId) → slice_get (named_ids w u) k ≡ Some start → IsStart w u k start
  is_start once k start at =
      let ids = named_ids w u in
      let names = map (λ (e : NodeId × NodeData). e.0) u.nodes in
      let fits : k < length ids = slice_get_within ids k start at in
      let here : get_or ids k start ≡ start = same_Some (get_or ids k start) start (sym (slice_get-get_or ids k start fits) ∙ at) in
      let e = entry_at k start at in
      let name_fits : k < length names = slice_get_within names k start.node e.0 in
      record {
        at = at;
        named = (e.1, (k, name_fits, same_Some (get_or names k start.node) start.node (sym (slice_get-get_or names k start.node name_fits) ∙ e.0)));
        new = λ c.
            let same : length (take k ids) ≡ k = length-take-le k ids (omega arith) in
            let low : c.0 < k = omega (arith, c.1) in
            let before : slice_get ids c.0 ≡ Some start = slice_get-get_or ids c.0 start (omega arith) ∙ ap Some (sym (get_or-take k ids c.0 start low) ∙ c.2) in
            let one : c.0 ≡ k = once c.0 k start.node (entry_at c.0 start before).0 e.0 in
            omega arith;
        more = take_more ids k start fits ∙ ap (λ x. take k ids ++ x ∷ []) here;
      }

-- the marks of a climb from this node, over those of others that ended
abbrev pub AreOthers : World → UpdateData → List FullNodeId → FullNodeId → Marks → Type 0
AreOthers w u starts start marks = (n q : FullNodeId) → at marks.entries n ≡ Some q → (q ≡ start) ⊎ (Reached (merged_world w u) n × Contains starts q)

abbrev pub IsMarked : FullNodeId → Marks → FullNodeId → Type 0
IsMarked start marks n = at marks.entries n ≡ Some start

-- a node of which a spot is found
abbrev pub IsFound : World → UpdateData → FullNodeId → Type 0
IsFound w u id = IsNode w id ⊎ HasEntered w u id

-- what a climb goes by: the passes before it, and that they hold of the update
pub record Known (w : World) (u : UpdateData) (op : Opened) (c : Compared) (s : Settled) : Type 0 where
  pub old : IsOld w
  pub opening : HoldsOpened w u op
  pub comparison : HoldsCompared w u c
  pub settlement : HoldsSettled w u s
  pub refined : IsRefined w u

pub known_by : {w : World} {u : UpdateData} {op : Opened} {c : Compared} {s : Settled} → IsOld w → HoldsOpened w u op → HoldsCompared w u c → HoldsSettled w u s → IsRefined w u → Known w u op c s
known_by old opening comparison settlement refined = record { old = old; opening = opening; comparison = comparison; settlement = settlement; refined = refined }

module _ {w : World} {u : UpdateData} {op : Opened} {c : Compared} {s : Settled} (known : Known w u op c s) where
  abbrev m : World
  m = merged_world w u

  abbrev i : ℕ
  i = index_for w u.name

  -- ---- the next node up

  old_spot : (id : FullNodeId) → Reached w id → (s : Seat) × IsAt w s id
  old_spot id (world.Reached.root j t is) = (None, ap (option_map (λ t. in_tree j t.root)) is)
  old_spot id (world.Reached.child parent id' k reached at) = (Some (parent, k), at)

  not_entered : (id : FullNodeId) → at c.entered id ≡ None → ¬ (HasEntered w u id)
  not_entered = not_arrived w u c known.comparison

  lists_stands : (p : Place) (id : FullNodeId) → Lists w p id → StandsAt w p id
  lists_stands p id at = stands_listed w p id (ungrafted (graft_name w p.0) refl) at
    where
      ungrafted : (x : Option TreeId) → graft_name w p.0 ≡ x → graft_name w p.0 ≡ None
      ungrafted None e = e
      ungrafted (Some name) e = let no : slice_get [] p.1 ≡ Some id = subst (λ xs. slice_get xs p.1 ≡ Some id) (known.old.graft_childless p.0 name e) at in cc

  pub next_there : (id : FullNodeId) → IsFound w u id → ¬ (Gone w u id) → root_of m id.tree ≢ Some id → (p : FullNodeId) × IsNext w c id p
  next_there id spotted stays below = go (at c.entered id) refl
    where
      from_old : at c.entered id ≡ None → IsNode w id → (p : FullNodeId) × IsNext w c id p
      from_old e there =
          let s = old_spot id (known.old.node_reached id there) in
          let f = old_up w u known.old s.0 id s.1 (not_entered id e) stays below in
          (f.0.0, (f.0.1, inr (e, lists_stands f.0 id (subst (λ t. IsAt w t id) f.1 s.1))))

      from_spot : (s : Option Place) → entered_at c id ≡ Some s → (p : FullNodeId) × IsNext w c id p
      from_spot (Some p) e = (p.0, (p.1, inl e))
      from_spot None e = absurd (below ((known.comparison.entered id None).0 e).0)

      go : (x : Option Arrival) → at c.entered id ≡ x → (p : FullNodeId) × IsNext w c id p
      go (Some x) e = from_spot x.spot (ap (option_map (λ (y : Arrival). y.spot)) e)
      go None e = ⊎_elim (from_old e) (λ entered. absurd (not_entered id e entered)) spotted

  pub goes_up : (id parent : FullNodeId) → root_of m id.tree ≢ Some id → ¬ (Gone w u id) → IsNext w c id parent → (k : ℕ) × Lists m (parent, k) id × ¬ (Gone w u parent) × IsFound w u parent
  goes_up id parent below stays next = ⊎_elim entered old next.1
    where
      k : ℕ
      k = next.0

      entered : entered_at c id ≡ Some (Some (parent, k)) → (k : ℕ) × Lists m (parent, k) id × ¬ (Gone w u parent) × IsFound w u parent
      entered e =
          let f = entered_up w u known.old known.refined.removed (parent, k) id ((known.comparison.entered id (Some (parent, k))).0 e) in
          (k, f.1, f.2, named_spotted w u known.old known.refined parent f.0 (cases_some (data_of w parent)))

      listed_there : at c.entered id ≡ None → Lists w (parent, k) id → (k : ℕ) × Lists m (parent, k) id × ¬ (Gone w u parent) × IsFound w u parent
      listed_there none at =
          let f = old_up w u known.old (Some (parent, k)) id at (not_entered id none) stays below in
          let same : f.0 ≡ (parent, k) = sym (same_Some (parent, k) f.0 f.1) in
          (k, subst (λ p. Lists m p id) same f.2, subst (λ p. ¬ (Gone w u p.0)) same f.3, inl (subst (λ p. IsNode w p.0) same f.4))

      old : (at c.entered id ≡ None) × StandsAt w (parent, k) id → (k : ℕ) × Lists m (parent, k) id × ¬ (Gone w u parent) × IsFound w u parent
      old h = ⊎_elim (λ l. listed_there h.0 l.1)
          (λ g. let f = old_up w u known.old None id (root_named_parts w g.0 id g.2).1 (not_entered id h.0) stays below in let no : None ≡ Some f.0 = f.1 in cc)
          (by_place w (parent, k) id h.1)

  pub old_place_known : (id : FullNodeId) (n : Named) → at c.named id ≡ Some n → IsOldPlace w id n
  old_place_known id n is = go n.was refl
    where
      go : (x : Option (Option Place)) → n.was ≡ x → MatchOption x (¬ (IsNode w id)) (λ was. IsPlaceOf w id was)
      go None e = (known.comparison.is_named id n is).new e
      go (Some was) e = ((known.comparison.is_named id n is).old was e).1

  -- the node of this entry is where a climb starts
  pub starts_at : (k : ℕ) (start : FullNodeId) → slice_get (map (λ (e : NodeId × NodeData). in_tree op.index e.0) u.nodes) k ≡ Some start → IsStart w u k start
  starts_at k start at = is_start w u known.comparison.compared.named_once k start (subst (λ j. slice_get (map (λ (e : NodeId × NodeData). in_tree j e.0) u.nodes) k ≡ Some start) known.opening.index at)

  -- ---- the nodes of the climb

  pub begins : (starts : List FullNodeId) (start : FullNodeId) (marks : Marks) → AreClimbed w u starts marks → ¬ (Contains starts start) → IsNamed w u start → IsClimb w u start (IsMarked start marks) start 0
  begins starts start marks before new named = climb_begins w u known.old start (IsMarked start marks) (λ n is. new (before.begun n start is)) (known.refined.removed.named_stays start named)

  pub step : (start id parent : FullNodeId) (k steps : ℕ) (a b : Marks) → Put id (Some start) (at a.entries) (at b.entries) → IsClimb w u start (IsMarked start a) id steps → Lists m (parent, k) id → ¬ (Gone w u parent) → IsClimb w u start (IsMarked start b) parent (steps + 1)
  step start id parent k steps a b put climb lists stays = climb_goes_up w u known.old start (IsMarked start a) (IsMarked start b) id steps (parent, k) climb
      (λ n is. ⊎_elim (λ same. subst (IsMarked start b) same last) (λ other. put_apart id (Some start) (at a.entries) (at b.entries) put n other ∙ is) (cases_id id n))
      last
      (λ n is. ⊎_elim (λ same. inr (sym same)) (λ other. inl (sym (put_apart id (Some start) (at a.entries) (at b.entries) put n other) ∙ is)) (cases_id id n))
      lists stays
    where
      last : IsMarked start b id
      last = put_here id (Some start) (at a.entries) (at b.entries) put

  pub others_step : (starts : List FullNodeId) (start id : FullNodeId) (a b : Marks) → Put id (Some start) (at a.entries) (at b.entries) → AreOthers w u starts start a → AreOthers w u starts start b
  others_step starts start id a b put others n q is = ⊎_elim
      (λ same. inl (sym (same_Some start q (sym (put_here id (Some start) (at a.entries) (at b.entries) put) ∙ ap (at b.entries) same ∙ is))))
      (λ other. others n q (sym (put_apart id (Some start) (at a.entries) (at b.entries) put n other) ∙ is))
      (cases_id id n)

  pub below_root : (start id : FullNodeId) (steps : ℕ) → IsNamed w u start → LeadsDown m id start steps → id ≢ in_tree op.index op.root → root_of m id.tree ≢ Some id
  below_root start id steps named leads other is =
      let tree : id.tree ≡ op.index = sym (leads_tree m id start steps leads) ∙ named.0 ∙ sym known.opening.index in
      other (same_Some id (in_tree op.index op.root) (sym (subst (λ k. root_of m k ≡ Some id) tree is) ∙ known.opening.root))

  -- below the root a climb goes on
  pub rises : (start id parent : FullNodeId) (steps : ℕ) → IsNamed w u start → LeadsDown m id start steps → id ≢ in_tree op.index op.root → ¬ (Gone w u id) → IsNext w c id parent → (k : ℕ) × Lists m (parent, k) id × ¬ (Gone w u parent) × IsFound w u parent
  rises start id parent steps named leads other stays next = goes_up id parent (below_root start id steps named leads other) stays next

  pub known_reached : (id : FullNodeId) → (id ≡ in_tree op.index op.root) ⊎ ((s.has_moved ≡ false) × (n : Named) × (at c.named id ≡ Some n) × IsSome n.was) → Reached m id
  known_reached id (inl same) = subst (Reached m) (sym same) (root_reached m op.index (in_tree op.index op.root) known.opening.root)
  known_reached id (inr h) =
      let named = known.comparison.is_named id h.1 h.2 in
      let was = value_of h.1.was h.3 in
      unmoved_reached w u known.old known.refined.removed (λ p x is e none. let f = known.settlement.unmoved h.0 p x e is in none f.0 f.1) id named.named (named.old was.0 was.1).0

  pub comes_round : (start id : FullNodeId) (steps : ℕ) (marks : Marks) → IsNamed w u start → IsClimb w u start (IsMarked start marks) id steps → at marks.entries id ≡ Some start → Stands w u (NotReached start.node)
  comes_round start id steps marks named climb is = climb_loops w u known.old known.refined start (IsMarked start marks) id steps climb is named

  pub comes_other : (starts : List FullNodeId) (start id q : FullNodeId) (marks : Marks) → AreOthers w u starts start marks → at marks.entries id ≡ Some q → q ≢ start → Reached m id
  comes_other starts start id q marks others is other = ⊎_elim (λ same. absurd (other same)) (λ h. h.0) (others id q is)

  pub ends_reached : (start id : FullNodeId) (steps : ℕ) (marks : Marks) → IsClimb w u start (IsMarked start marks) id steps → Reached m id → Reached m start
  ends_reached start id steps marks climb reached = climb_ends w u known.old start (IsMarked start marks) id steps climb reached

  pub ends : (starts : List FullNodeId) (start id : FullNodeId) (steps : ℕ) (marks : Marks) → AreOthers w u starts start marks → IsClimb w u start (IsMarked start marks) id steps → Reached m id → AreClimbed w u (starts ++ start ∷ []) marks
  ends starts start id steps marks others climb reached = record {
    reached = λ n q is. ⊎_elim (λ same. climb.reached reached n (is ∙ ap Some same)) (λ h. h.0) (others n q is);
    begun = λ n q is. ⊎_elim (λ same. subst (Contains (starts ++ start ∷ [])) (sym same) (Contains-push starts start)) (λ h. Contains-append_left starts (start ∷ []) q h.1) (others n q is);
  }

  pub stays_climbed : (starts : List FullNodeId) (start : FullNodeId) (marks : Marks) → AreClimbed w u starts marks → AreClimbed w u (starts ++ start ∷ []) marks
  stays_climbed starts start marks before = record { reached = before.reached; begun = λ n q is. Contains-append_left starts (start ∷ []) q (before.begun n q is) }

  marked_nodes : (starts : List FullNodeId) (start id : FullNodeId) (steps : ℕ) (marks : Marks) → AreOthers w u starts start marks → IsClimb w u start (IsMarked start marks) id steps → (n q : FullNodeId) → at marks.entries n ≡ Some q → IsNode m n
  marked_nodes starts start id steps marks others climb n q is = ⊎_elim
      (λ same. let f = climb.up n (is ∙ ap Some same) in listed_is_node w u known.old known.refined.removed.settled f.0 n f.1)
      (λ h. reached_node w u known.old known.refined.removed.settled n h.0)
      (others n q is)

  -- one more mark is still no more than there are nodes
  pub marks_left : (starts : List FullNodeId) (start id parent : FullNodeId) (k steps : ℕ) (a b : Marks) → Put id (Some start) (at a.entries) (at b.entries) → IsStrictlySortedBy full_cmp (tree.keys b) → AreOthers w u starts start a → IsClimb w u start (IsMarked start a) id steps
      → Lists m (parent, k) id → ¬ (Gone w u parent) → length b.entries ≤ length (keys m)
  marks_left starts start id parent k steps a b put sorted others climb lists stays = marks_bounded m b sorted
      (marked_nodes starts start parent (steps + 1) b (others_step starts start id a b put others) (step start id parent k steps a b put climb lists stays))

  -- a climb from the node of this entry, over the marks of those before it
  module _ {entry : ℕ} {start : FullNodeId} (first : IsStart w u entry start) (marks : Marks) {id : FullNodeId} {steps : ℕ} (others : AreOthers w u (take entry (named_ids w u)) start marks)
      (climb : IsClimb w u start (IsMarked start marks) id steps) where
    abbrev starts : List FullNodeId
    starts = take entry (named_ids w u)

    -- below the root it goes on to the parent
    pub up_to : (parent : FullNodeId) → id ≢ in_tree op.index op.root → IsNext w c id parent → (k : ℕ) × Lists m (parent, k) id × ¬ (Gone w u parent) × IsFound w u parent
    up_to parent other next = rises start id parent steps first.named climb.leads other climb.stays next

    pub at_other : (q : FullNodeId) → at marks.entries id ≡ Some q → q ≢ start → Reached m id
    at_other q is other = comes_other starts start id q marks others is other

    pub all_climbed_to : Reached m id → AreClimbed w u (take (entry + 1) (named_ids w u)) marks
    all_climbed_to reached = subst (λ xs. AreClimbed w u xs marks) (sym first.more) (ends starts start id steps marks others climb reached)

    pub climbed_from : Reached m id → IsClimbedFrom w u entry steps
    climbed_from reached = record { start = start; at = first.at; reached = λ adopts. ends_reached start id steps marks climb reached; way = (id, climb.leads, inl reached) }
