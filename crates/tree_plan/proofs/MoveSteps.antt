-- The changes of a few nodes with other data or other children, entry by entry.
use Rattle.std.proofs.Common.{Contains, ◌≡◌, ◌≢◌, ℕ, ◌+◌, ◌<◌, ◌≤◌, ◌↔◌, List, [], ◌∷◌, ◌++◌, length, map, slice_get, Option, Some, None, option_map, option_and_then, option_to_list, ◌⊎◌, inl, inr, ⊎_elim, refl, sym, ap, ◌∙◌, subst, arith}
use Rattle.std.specs.Option.{option_map_or}
use Rattle.std.proofs.lemmas.List.Elements.{Contains-append_left, Contains-append_right, Contains-append_cases}
use Rattle.std.proofs.lemmas.Option.{same_Some, slice_get_within}
use Rattle.schema.specs.NodeData.{NodeData}
use Rattle.schema.specs.declared.NodeId.{NodeId}
use Rattle.model.specs.declared.FullNodeId.{FullNodeId}
use Rattle.model.specs.World.{World, Place, HasData, data_of, in_tree, listed_ids}
use Rattle.model.specs.Surgery.{IsOld, Seat, Left, Entered}
use Rattle.model.specs.Update.{UpdateData, index_for, merged_world, named_at}
use Rattle.model.proofs.Members.{contains_none, contains_head, contains_cases}
use Rattle.tree_changes.specs.declared.decision.NodeChange.{NodeChange}
use Rattle.tree_changes.specs.declared.decision.NodeChange.TheVariants.{Put}
use Rattle.tree_changes.specs.LookUps.{IsPlaceOf}
use Rattle.tree_changes.specs.Changes.{NodeChanges}
use Rattle.tree_plan.specs.declared.moves.Moving.{Moving}
use Rattle.tree_plan.specs.Passes.{at}
use Rattle.tree_plan.specs.Comparisons.{IsNamedBefore, OnlyAt, OnlyIn, OnlyInBefore, child_ids}
use Rattle.tree_plan.specs.News.{IsNamedOnce}
use Rattle.tree_plan.specs.Moves.{KeepsLinks, KeepsNode, came_to, Compares, IsRenewal, AddsNode, IsRenewedBefore, IsMovedBefore, AreMoves, HaveMoved}
use Rattle.tree_plan.proofs.Gathering.{none_at_zero, next_from, next_left, next_right, all_left, all_from}
use Rattle.tree_plan.proofs.IdMaps.{at_contains}
use Rattle.tree_plan.proofs.NamedNodes.{later_named, none_named, data_here, named_here, last_named, was_left, is_entered, left_was, entered_is}
use Rattle.tree_plan.proofs.Taking.{IsTurn, entry_id, last_or_before}

-- whether a node keeps its links, by its parts
pub other_name : (old d : NodeData) → old.tree_id ≢ d.tree_id → ¬ (KeepsLinks old d)
other_name old d other k = other k.graft

pub links_kept : (old d : NodeData) → old.tree_id ≡ d.tree_id → (old.active_descendant ≡ d.active_descendant) ↔ KeepsLinks old d
links_kept old d graft = (λ active. record { graft = graft; active = active }, λ k. k.active)

-- ---- one index

-- what is in a list to which one may have come
in_pushed : {X : Type 0} (xs : List X) (o : Option X) (x : X) → Contains (xs ++ option_to_list o) x ↔ (Contains xs x ⊎ (o ≡ Some x))
in_pushed {X} xs o x = (λ c. to o (Contains-append_cases xs (option_to_list o) x c), λ h. from o h)
  where
    to : (o : Option X) → Contains xs x ⊎ Contains (option_to_list o) x → Contains xs x ⊎ (o ≡ Some x)
    to o (inl c) = inl c
    to None (inr c) = absurd (contains_none x c)
    to (Some y) (inr c) = ⊎_elim (λ same. inr (ap Some same)) (λ none. absurd (contains_none x none)) (contains_cases y x [] c)

    from : (o : Option X) → Contains xs x ⊎ (o ≡ Some x) → Contains (xs ++ option_to_list o) x
    from o (inl c) = Contains-append_left xs (option_to_list o) x c
    from None (inr e) = cc
    from (Some y) (inr e) = Contains-append_right xs (y ∷ []) x (contains_head y x [] (same_Some y x e))

mapped_some : {X Y : Type 0} (f : X → Y) (o : Option X) (y : Y) → option_map f o ≡ Some y → (x : X) × (o ≡ Some x) × (f x ≡ y)
mapped_some f None y e = cc
mapped_some f (Some x) y e = (x, refl, same_Some (f x) y e)

abbrev AtOnly : Seat → Option FullNodeId → Option FullNodeId → FullNodeId → Seat → Type 0
AtOnly spot this other = OnlyAt spot this other

pub compares_same : (spot : Seat) (this other : Option FullNodeId) (parent : FullNodeId) (a b : Moving) → this ≡ other → b ≡ a → Compares (OnlyAt spot this other) (OnlyAt spot other this) parent a b
compares_same spot this other parent a b same is = subst (λ (x : Moving). Compares (OnlyAt spot this other) (OnlyAt spot other this) parent a x) (sym is) (record {
  left = λ c q. (inl, λ h. ⊎_elim (λ x. x) (λ f. absurd (f.2.1.1 (sym same ∙ f.2.1.0))) h);
  changes = λ c x. (inl, λ h. ⊎_elim (λ x. x) (λ f. absurd (f.2.1.1 (same ∙ f.2.1.0))) h);
})

pub compares_here : (spot : Seat) (this other : Option FullNodeId) (parent : FullNodeId) (a b : Moving) → this ≢ other
    → b.left.items ≡ a.left.items ++ option_to_list (option_map (λ id. (id, parent)) this)
    → b.changes ≡ a.changes ++ option_to_list (option_map (λ id. (id, Put spot None)) other)
    → Compares (OnlyAt spot this other) (OnlyAt spot other this) parent a b
compares_here spot this other parent a b apart left changes = record {
  left = λ c q.
      let there = in_pushed a.left.items (option_map pair this) (c, q) in (
        λ h. ⊎_elim inl (λ e. inr (left_to c q (mapped_some pair this (c, q) e))) (there.0 (subst (λ xs. Contains xs (c, q)) left h)),
        λ h. subst (λ xs. Contains xs (c, q)) (sym left) (there.1 (⊎_elim inl (λ f. inr (left_from c q f.0 f.2.1.0)) h)),
      );
  changes = λ c x.
      let there = in_pushed a.changes (option_map put other) (c, x) in (
        λ h. ⊎_elim inl (λ e. inr (changes_to c x (mapped_some put other (c, x) e))) (there.0 (subst (λ xs. Contains xs (c, x)) changes h)),
        λ h. subst (λ xs. Contains xs (c, x)) (sym changes) (there.1 (⊎_elim inl (λ f. inr (changes_from c x f.0 f.1 f.2)) h)),
      );
}
  where
    pair : FullNodeId → FullNodeId × FullNodeId
    pair id = (id, parent)

    put : FullNodeId → FullNodeId × NodeChange
    put id = (id, Put spot None)

    left_to : (c q : FullNodeId) → (x : FullNodeId) × (this ≡ Some x) × (pair x ≡ (c, q)) → (q ≡ parent) × (s : Seat) × OnlyAt spot this other c s
    left_to c q f =
        let is : this ≡ Some c = f.1 ∙ ap (λ (y : FullNodeId × FullNodeId). Some y.0) f.2 in
        (sym (ap (λ (y : FullNodeId × FullNodeId). y.1) f.2), spot, (refl, (is, λ e. apart (is ∙ sym e))))

    left_from : (c q : FullNodeId) → q ≡ parent → this ≡ Some c → option_map pair this ≡ Some (c, q)
    left_from c q same is = let p : FullNodeId → FullNodeId × FullNodeId = λ y. (c, y) in ap (option_map pair) is ∙ ap (λ y. Some (p y)) (sym same)

    changes_to : (c : FullNodeId) (x : NodeChange) → (y : FullNodeId) × (other ≡ Some y) × (put y ≡ (c, x)) → (s : Seat) × (x ≡ Put s None) × OnlyAt spot other this c s
    changes_to c x f =
        let is : other ≡ Some c = f.1 ∙ ap (λ (y : FullNodeId × NodeChange). Some y.0) f.2 in
        (spot, sym (ap (λ (y : FullNodeId × NodeChange). y.1) f.2), (refl, (is, λ e. apart (e ∙ sym is))))

    changes_from : (c : FullNodeId) (x : NodeChange) (s : Seat) → x ≡ Put s None → OnlyAt spot other this c s → option_map put other ≡ Some (c, x)
    changes_from c x s is only =
        let p : NodeChange → FullNodeId × NodeChange = λ y. (c, y) in
        let same : Put spot None ≡ x = ap (λ t. Put t None) (sym only.0) ∙ sym is in
        ap (option_map put) only.1.0 ∙ ap (λ y. Some (p y)) same

-- ---- the lists

abbrev Found : Type 1
Found = FullNodeId → Seat → Type 0

pub compares_none : (P Q : Found) (parent : FullNodeId) (a : Moving) → ((c : FullNodeId) (s : Seat) → P c s → ⊥) → ((c : FullNodeId) (s : Seat) → Q c s → ⊥) → Compares P Q parent a a
compares_none P Q parent a no_p no_q = record {
  left = λ c q. (inl, λ h. ⊎_elim (λ x. x) (λ f. absurd (no_p c f.1 f.2)) h);
  changes = λ c x. (inl, λ h. ⊎_elim (λ x. x) (λ f. absurd (no_q c f.0 f.2)) h);
}

module _ (P P' P2 Q Q' Q2 : Found)
    (p_from : (c : FullNodeId) (s : Seat) → P2 c s → P c s ⊎ P' c s) (p_left : (c : FullNodeId) (s : Seat) → P c s → P2 c s) (p_right : (c : FullNodeId) (s : Seat) → P' c s → P2 c s)
    (q_from : (c : FullNodeId) (s : Seat) → Q2 c s → Q c s ⊎ Q' c s) (q_left : (c : FullNodeId) (s : Seat) → Q c s → Q2 c s) (q_right : (c : FullNodeId) (s : Seat) → Q' c s → Q2 c s) where
  compares_both : (parent : FullNodeId) (a b d : Moving) → Compares P Q parent a b → Compares P' Q' parent b d → Compares P2 Q2 parent a d
  compares_both parent a b d f g = record {
    left = λ c q. (
      λ h. ⊎_elim
          (λ x. ⊎_elim inl (λ y. inr (y.0, y.1, p_left c y.1 y.2)) ((f.left c q).0 x))
          (λ y. inr (y.0, y.1, p_right c y.1 y.2))
          ((g.left c q).0 h),
      λ h. (g.left c q).1 (⊎_elim
          (λ x. inl ((f.left c q).1 (inl x)))
          (λ y. ⊎_elim (λ z. inl ((f.left c q).1 (inr (y.0, y.1, z)))) (λ z. inr (y.0, y.1, z)) (p_from c y.1 y.2))
          h),
    );
    changes = λ c x. (
      λ h. ⊎_elim
          (λ z. ⊎_elim inl (λ y. inr (y.0, y.1, q_left c y.0 y.2)) ((f.changes c x).0 z))
          (λ y. inr (y.0, y.1, q_right c y.0 y.2))
          ((g.changes c x).0 h),
      λ h. (g.changes c x).1 (⊎_elim
          (λ z. inl ((f.changes c x).1 (inl z)))
          (λ y. ⊎_elim (λ z. inl ((f.changes c x).1 (inr (y.0, y.1, z)))) (λ z. inr (y.0, y.1, z)) (q_from c y.0 y.2))
          h),
    );
  }

pub compares_next : (parent : FullNodeId) (old new : List FullNodeId) (k : ℕ) (a b d : Moving)
    → Compares (OnlyInBefore k parent old new) (OnlyInBefore k parent new old) parent a b
    → Compares (OnlyAt (Some (parent, k)) (slice_get old k) (slice_get new k)) (OnlyAt (Some (parent, k)) (slice_get new k) (slice_get old k)) parent b d
    → Compares (OnlyInBefore (k + 1) parent old new) (OnlyInBefore (k + 1) parent new old) parent a d
compares_next parent old new k a b d f g = compares_both
    (OnlyInBefore k parent old new) (OnlyAt (Some (parent, k)) (slice_get old k) (slice_get new k)) (OnlyInBefore (k + 1) parent old new)
    (OnlyInBefore k parent new old) (OnlyAt (Some (parent, k)) (slice_get new k) (slice_get old k)) (OnlyInBefore (k + 1) parent new old)
    (next_from parent old new k) (next_left parent old new k) (next_right parent old new k)
    (next_from parent new old k) (next_left parent new old k) (next_right parent new old k)
    parent a b d f g

pub compares_zero : (parent : FullNodeId) (old new : List FullNodeId) (a : Moving) → Compares (OnlyInBefore 0 parent old new) (OnlyInBefore 0 parent new old) parent a a
compares_zero parent old new a = compares_none (OnlyInBefore 0 parent old new) (OnlyInBefore 0 parent new old) parent a (none_at_zero parent old new) (none_at_zero parent new old)

pub compares_all : (parent : FullNodeId) (old new : List FullNodeId) (k : ℕ) (a b : Moving) → length old ≤ k → length new ≤ k
    → Compares (OnlyInBefore k parent old new) (OnlyInBefore k parent new old) parent a b → Compares (OnlyIn parent old new) (OnlyIn parent new old) parent a b
compares_all parent old new k a b fits fits' f = record {
  left = λ c q. (
    λ h. ⊎_elim inl (λ y. inr (y.0, y.1, all_left parent old new k c y.1 y.2)) ((f.left c q).0 h),
    λ h. (f.left c q).1 (⊎_elim inl (λ y. inr (y.0, y.1, all_from parent old new k fits c y.1 y.2)) h),
  );
  changes = λ c x. (
    λ h. ⊎_elim inl (λ y. inr (y.0, y.1, all_left parent new old k c y.0 y.2)) ((f.changes c x).0 h),
    λ h. (f.changes c x).1 (⊎_elim inl (λ y. inr (y.0, y.1, all_from parent new old k fits' c y.0 y.2)) h),
  );
}

-- ---- one node

none_only : (parent : FullNodeId) (xs ys : List FullNodeId) → xs ≡ ys → (c : FullNodeId) (s : Seat) → OnlyIn parent xs ys c s → ⊥
none_only parent xs ys same c s h = h.1.1.1 (subst (λ zs. slice_get zs h.0 ≡ Some c) same h.1.1.0)

pub children_same : (id : FullNodeId) (old d : NodeData) → old.children ≡ d.children → child_ids id old ≡ child_ids id d
children_same id old d same = ap (map (in_tree id.tree)) same

-- the same children: no list is compared
pub compares_children : (id : FullNodeId) (old d : NodeData) (a : Moving) → old.children ≡ d.children → Compares (OnlyIn id (child_ids id old) (child_ids id d)) (OnlyIn id (child_ids id d) (child_ids id old)) id a a
compares_children id old d a same =
    let one = children_same id old d same in
    compares_none (OnlyIn id (child_ids id old) (child_ids id d)) (OnlyIn id (child_ids id d) (child_ids id old)) id a (none_only id (child_ids id old) (child_ids id d) one) (none_only id (child_ids id d) (child_ids id old) (sym one))

pub adds_same : (w : World) (id : FullNodeId) (entry : ℕ) (old d : NodeData) (a b : Moving) → HasData w id old → old ≡ d → b ≡ a → AddsNode w id entry d a b
adds_same w id entry old d a b was same is = subst (λ (x : Moving). AddsNode w id entry d a x) (sym is) (record {
  old = old;
  was = was;
  links = record { graft = ap (λ x. x.tree_id) same; active = ap (λ x. x.active_descendant) same };
  plain = inl children;
  left = λ c q. (inl, λ h. ⊎_elim (λ x. x) (λ f. absurd (none_only id (child_ids id old) (child_ids id d) lists c f.1 f.2)) h);
  changes = λ c x. (
    inl,
    λ h. ⊎_elim (λ x. x) (λ f. ⊎_elim
        (λ r. absurd (r.1.2 (same_Some r.1.0 old (sym r.1.1 ∙ was) ∙ same)))
        (λ y. absurd (none_only id (child_ids id d) (child_ids id old) (sym lists) c y.0 y.2))
        f) h,
  );
})
  where
    children : old.children ≡ d.children
    children = ap (λ x. x.children) same

    lists : child_ids id old ≡ child_ids id d
    lists = children_same id old d children

pub adds_other : (w : World) (id : FullNodeId) (entry : ℕ) (old d : NodeData) (a b e : Moving) → HasData w id old → KeepsLinks old d → (old.children ≡ d.children) ⊎ (d.tree_id ≡ None) → old ≢ d
    → (place : Option Place) → IsPlaceOf w id place → b.left ≡ a.left → b.changes ≡ a.changes ++ (id, Put place (Some entry)) ∷ []
    → Compares (OnlyIn id (child_ids id old) (child_ids id d)) (OnlyIn id (child_ids id d) (child_ids id old)) id b e → AddsNode w id entry d a e
adds_other w id entry old d a b e was links plain other place stands left changes lists = record {
  old = old;
  was = was;
  links = links;
  plain = plain;
  left = λ c q. (
    λ h. ⊎_elim (λ x. inl (subst (λ y. Contains y.items (c, q)) left x)) inr ((lists.left c q).0 h),
    λ h. (lists.left c q).1 (⊎_elim (λ x. inl (subst (λ y. Contains y.items (c, q)) (sym left) x)) inr h),
  );
  changes = λ c x. (
    λ h. ⊎_elim (λ y. ⊎_elim inl (λ z. inr (inl z)) (renewed c x y)) (λ y. inr (inr y)) ((lists.changes c x).0 h),
    λ h. (lists.changes c x).1 (⊎_elim (λ y. inl (kept c x y)) (λ y. ⊎_elim (λ r. inl (new c x r.0 r.1)) inr y) h),
  );
}
  where
    change : NodeChange
    change = Put place (Some entry)

    renewed : (c : FullNodeId) (x : NodeChange) → Contains b.changes (c, x) → Contains a.changes (c, x) ⊎ ((c ≡ id) × IsRenewal w id entry d x)
    renewed c x h = ⊎_elim inl
        (λ now. ⊎_elim
        (λ one. inr (sym (ap (λ (y : FullNodeId × NodeChange). y.0) one), (old, was, other, place, stands, sym (ap (λ (y : FullNodeId × NodeChange). y.1) one))))
        (λ none. absurd (contains_none (c, x) none))
        (contains_cases (id, change) (c, x) [] now))
        (Contains-append_cases a.changes ((id, change) ∷ []) (c, x) (subst (λ (xs : NodeChanges). Contains xs (c, x)) changes h))

    kept : (c : FullNodeId) (x : NodeChange) → Contains a.changes (c, x) → Contains b.changes (c, x)
    kept c x h = subst (λ (xs : NodeChanges). Contains xs (c, x)) (sym changes) (Contains-append_left a.changes ((id, change) ∷ []) (c, x) h)

    one_place : (q r : Option Place) → IsPlaceOf w id q → IsPlaceOf w id r → q ≡ r
    one_place None None f g = refl
    one_place (Some p) r f g = sym ((g p).1 ((f p).0 refl))
    one_place None (Some p) f g = (f p).1 ((g p).0 refl)

    new : (c : FullNodeId) (x : NodeChange) → c ≡ id → IsRenewal w id entry d x → Contains b.changes (c, x)
    new c x same r =
        let is : change ≡ x = ap (λ y. Put y (Some entry)) (one_place place r.3 stands r.4) ∙ sym r.5 in
        let P : FullNodeId → NodeChange → Type 0 = λ y z. Contains b.changes (y, z) in
        let there : P id change = subst (λ (xs : NodeChanges). Contains xs (id, change)) (sym changes) (Contains-append_right a.changes ((id, change) ∷ []) (id, change) (contains_head (id, change) (id, change) [] refl)) in
        subst (λ y. P y x) (sym same) (subst (P id) is there)

-- ---- entry by entry

pub moves_none : (w : World) (u : UpdateData) (o : IsOld w) (m : Moving) → m.changes ≡ [] → m.left.items ≡ [] → AreMoves w u 0 m
moves_none w u o m changes left = record {
  keep = λ k e below at. absurd (let lt : k < 0 = below in omega arith);
  left = λ c q. (λ h. absurd (contains_none (c, q) (subst (λ xs. Contains xs (c, q)) left h)), λ h. absurd (none_named w u o q h.0));
  changes = λ c x. (
    λ h. absurd (contains_none (c, x) (subst (λ (xs : NodeChanges). Contains xs (c, x)) changes h)),
    λ h. ⊎_elim (λ r. absurd (let lt : r.0 < 0 = r.1 in omega arith)) (λ f. absurd (none_named w u o f.0.0 f.1)) h,
  );
}

module _ (w : World) (u : UpdateData) (o : IsOld w) (once : IsNamedOnce u) (k : ℕ) (e : NodeId × NodeData) (at_k : slice_get u.nodes k ≡ Some e) (a b : Moving) (so_far : AreMoves w u k a) (s : AddsNode w (in_tree (index_for w u.name) e.0) k e.1 a b) where
  abbrev m : World
  m = merged_world w u

  abbrev id : FullNodeId
  id = in_tree (index_for w u.name) e.0

  was_here : listed_ids w id ≡ child_ids id s.old
  was_here = ap (λ y. option_map_or (λ (d : NodeData). map (in_tree id.tree) d.children) y []) s.was

  is_here : data_of m id ≡ Some e.1
  is_here = data_here w u o once k e at_k

  keep_next : (j : ℕ) (f : NodeId × NodeData) → j < k + 1 → slice_get u.nodes j ≡ Some f → KeepsNode w (in_tree (index_for w u.name) f.0) f.1
  keep_next j f below at = ⊎_elim
      (λ lt. so_far.keep j f lt at)
      (λ same.
      let P : NodeId × NodeData → Type 0 = λ x. KeepsNode w (in_tree (index_for w u.name) x.0) x.1 in
      let one : e ≡ f = same_Some e f (sym at_k ∙ ap (slice_get u.nodes) (sym same) ∙ at) in
      subst P one (s.old, s.was, (s.links, s.plain)))
      (last_or_before j k below)

  left_here : (c q : FullNodeId) → id ≡ q → (j : ℕ) → Left w u (Some (q, j)) c → (t : Seat) × OnlyIn id (child_ids id s.old) (child_ids id e.1) c t
  left_here c q same j l =
      let f = left_was w u o once k e at_k c (q, j) same l in
      (Some (q, j), subst (λ xs. OnlyIn id xs (child_ids id e.1) c (Some (q, j))) was_here f)

  left_next : (c q : FullNodeId) → Contains b.left.items (c, q) ↔ (IsNamedBefore w u (k + 1) q × (j : ℕ) × Left w u (Some (q, j)) c)
  left_next c q = (
    λ h. ⊎_elim
        (λ x. let f = (so_far.left c q).0 x in (later_named w u o k q f.0, f.1, f.2))
        (λ y.
        let f = was_left w u o once k e at_k c y.1 (subst (λ xs. OnlyIn id xs (child_ids id e.1) c y.1) (sym was_here) y.2) in
        let l : Left w u (Some (id, y.2.0)) c = subst (λ t. Left w u t c) y.2.1.0 f in
        let P : FullNodeId → Type 0 = λ x. IsNamedBefore w u (k + 1) x × (j : ℕ) × Left w u (Some (x, j)) c in
        subst P (sym y.0) (named_here w u o once k e at_k, y.2.0, l))
        ((s.left c q).0 h),
    λ h. (s.left c q).1 (⊎_elim
        (λ earlier. inl ((so_far.left c q).1 (earlier, h.1, h.2)))
        (λ same. let f = left_here c q same h.1 h.2 in inr (sym same, f.0, f.1))
        (last_named w u o once k e at_k q h.0)),
  )

  renewed_to : (c : FullNodeId) (x : NodeChange) → c ≡ id → IsRenewal w id k e.1 x → IsRenewedBefore w u (k + 1) c x
  renewed_to c x same r =
      let P : FullNodeId → Type 0 = λ y. IsRenewedBefore w u (k + 1) y x in
      subst P (sym same) (k, omega arith, entry_id u k e at_k, refl, (λ one. r.2 (same_Some r.0 e.1 (sym r.1 ∙ one ∙ is_here))), r.3, r.4, r.5)

  renewed_from : (c : FullNodeId) (x : NodeChange) → IsRenewedBefore w u (k + 1) c x → IsRenewedBefore w u k c x ⊎ ((c ≡ id) × IsRenewal w id k e.1 x)
  renewed_from c x r = ⊎_elim
      (λ lt. inl (r.0, lt, r.2, r.3, r.4, r.5, r.6, r.7))
      (λ same.
      let before : IsNamedBefore w u (k + 1) c = (r.3, r.0, r.1, r.2) in
      ⊎_elim
      (λ earlier. absurd (let j = once earlier.1 k c.node earlier.3 (subst (λ j. named_at u j ≡ Some c.node) same r.2) in let lt : earlier.1 < k = earlier.2 in omega (arith, j)))
      (λ one.
      let is : x ≡ Put r.5 (Some k) = r.7 ∙ ap (λ j. Put r.5 (Some j)) same in
      let P : FullNodeId → Type 0 = λ y. IsRenewal w y k e.1 x in
      let differ : data_of w id ≢ data_of m id = subst (λ y. data_of w y ≢ data_of m y) (sym one) r.4 in
      let stands : IsPlaceOf w id r.5 = subst (λ y. IsPlaceOf w y r.5) (sym one) r.6 in
      inr (sym one, (s.old, s.was, (λ alike. differ (s.was ∙ ap Some alike ∙ sym is_here)), r.5, stands, is)))
      (last_named w u o once k e at_k c before))
      (last_or_before r.0 k r.1)

  moved_to : (c : FullNodeId) (x : NodeChange) → (t : Seat) × (x ≡ Put t None) × OnlyIn id (child_ids id e.1) (child_ids id s.old) c t → IsMovedBefore w u (k + 1) c x
  moved_to c x y =
      let f = is_entered w u o once k e at_k c y.0 (subst (λ xs. OnlyIn id (child_ids id e.1) xs c y.0) (sym was_here) y.2) in
      let spot : y.0 ≡ Some (id, y.2.0) = y.2.1.0 in
      ((id, y.2.0), named_here w u o once k e at_k, subst (λ t. Entered w u t c) spot f, y.1 ∙ ap (λ t. Put t None) spot)

  moved_from : (c : FullNodeId) (x : NodeChange) → IsMovedBefore w u (k + 1) c x → IsMovedBefore w u k c x ⊎ ((t : Seat) × (x ≡ Put t None) × OnlyIn id (child_ids id e.1) (child_ids id s.old) c t)
  moved_from c x f = ⊎_elim
      (λ earlier. inl (f.0, earlier, f.2, f.3))
      (λ same. inr (Some f.0, f.3, subst (λ xs. OnlyIn id (child_ids id e.1) xs c (Some f.0)) was_here (entered_is w u o once k e at_k c f.0 same f.2)))
      (last_named w u o once k e at_k f.0.0 f.1)

  changes_next : (c : FullNodeId) (x : NodeChange) → Contains b.changes (c, x) ↔ (IsRenewedBefore w u (k + 1) c x ⊎ IsMovedBefore w u (k + 1) c x)
  changes_next c x = (
    λ h. ⊎_elim
        (λ y. ⊎_elim
        (λ r. inl (r.0, (let lt : r.0 < k = r.1 in omega arith), r.2, r.3, r.4, r.5, r.6, r.7))
        (λ f. inr (f.0, later_named w u o k f.0.0 f.1, f.2, f.3))
        ((so_far.changes c x).0 y))
        (λ y. ⊎_elim (λ r. inl (renewed_to c x r.0 r.1)) (λ f. inr (moved_to c x f)) y)
        ((s.changes c x).0 h),
    λ h. (s.changes c x).1 (⊎_elim
        (λ r. ⊎_elim (λ before. inl ((so_far.changes c x).1 (inl before))) (λ now. inr (inl now)) (renewed_from c x r))
        (λ f. ⊎_elim (λ before. inl ((so_far.changes c x).1 (inr before))) (λ now. inr (inr now)) (moved_from c x f))
        h),
  )

  pub moves_next : AreMoves w u (k + 1) b
  moves_next = record { keep = keep_next; left = left_next; changes = changes_next }

-- a turn of the loop over the entries
pub turn_moves : {w : World} {u : UpdateData} {k : ℕ} {e : NodeId × NodeData} {id : FullNodeId} → IsOld w → IsNamedOnce u → IsTurn w u k e id → (v : World) → v ≡ w → (a b : Moving) → AreMoves w u k a → AddsNode v id k e.1 a b → AreMoves w u (k + 1) b
turn_moves {w} {u} {k} {e} {id} o once turn v same a b so_far s = moves_next w u o once k e turn.at a b so_far
    (subst (λ (x : FullNodeId). AddsNode w x k e.1 a b) turn.names (subst (λ (x : World). AddsNode x id k e.1 a b) same s))

-- ---- what left has come to a place

abbrev pub AllMoved : NodeChanges → List (FullNodeId × FullNodeId) → ℕ → Type 0
AllMoved rows left n = (k : ℕ) (e : FullNodeId × FullNodeId) → k < n → slice_get left k ≡ Some e → (x : NodeChange) × (p : Place) × (at rows e.0 ≡ Some x) × (came_to x ≡ Some p)

pub moved_next : (rows : NodeChanges) (left : List (FullNodeId × FullNodeId)) (n : ℕ) (e : FullNodeId × FullNodeId) (p : Place) → slice_get left n ≡ Some e → option_and_then came_to (at rows e.0) ≡ Some p → AllMoved rows left n → AllMoved rows left (n + 1)
moved_next rows left n e p here is before k f below read = ⊎_elim
    (λ lt. before k f lt read)
    (λ same.
    let one : e ≡ f = same_Some e f (sym here ∙ ap (slice_get left) (sym same) ∙ read) in
    subst (λ (y : FullNodeId × FullNodeId). (x : NodeChange) × (p : Place) × (at rows y.0 ≡ Some x) × (came_to x ≡ Some p)) one (found (at rows e.0) refl is))
    (last_or_before k n below)
  where
    found : (o : Option NodeChange) → at rows e.0 ≡ o → option_and_then came_to o ≡ Some p → (x : NodeChange) × (p : Place) × (at rows e.0 ≡ Some x) × (came_to x ≡ Some p)
    found None e f = cc
    found (Some x) e f = (x, p, e, f)

pub moved_all : (rows : NodeChanges) (left : List (FullNodeId × FullNodeId)) (n : ℕ) → length left ≤ n → AllMoved rows left n → HaveMoved rows left
moved_all rows left n fits all c q h =
    let k = at_contains left (c, q) h in
    let lt : k.0 < length left = slice_get_within left k.0 (c, q) k.1 in
    all k.0 (c, q) (omega arith) k.1
