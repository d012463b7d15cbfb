-- What a step of the search for what goes says, and keeps.
use Rattle.std.proofs.Common.{◌≡◌, ◌≢◌, ◌⊎◌, ◌↔◌, ℕ, zero, suc, ◌+◌, ◌<◌, ◌≤◌, true, false, List, [], ◌∷◌, ◌++◌, length, map, get_or, Contains, AllPairs, Option, Some, None, ⊎_elim, inl, inr, refl, sym, ap, subst, ◌∙◌, arith, length-append}
use Rattle.std.specs.Prelude.{is_some, slice_get}
use Rattle.std.specs.Option.{option_map, option_map_or, option_and_then}
use Rattle.std.specs.BTreeSet.{BTreeSet, btree_set_len, contains}
use Rattle.std.specs.FinMap as fin
use Rattle.std.proofs.lemmas.Bool.{cases_lt}
use Rattle.std.proofs.lemmas.Option.{same_Some, slice_get_within, get_or_from_slice_get, slice_get-map, slice_get-get_or}
use Rattle.std.proofs.lemmas.List.{get_or_append_left}
use Rattle.std.proofs.Math.Seq.{get_or-append_seam}
use Rattle.std.proofs.lemmas.List.Elements.{Contains-get_or, Contains-append_left, Contains-append_right, Contains-append_cases}
use Rattle.schema.specs.NodeData.{NodeData}
use Rattle.schema.specs.declared.TreeId.{TreeId}
use Rattle.model.specs.declared.FullNodeId.{FullNodeId}
use Rattle.model.specs.FullIds.{full_cmp}
use Rattle.model.specs.World.{World, Tree, HasData, data_of, index_of, root_named, graft_name, in_tree}
use Rattle.model.specs.State.{Lists}
use Rattle.model.specs.Update.{UpdateData, IsNamed}
use Rattle.model.specs.Surgery.{IsOld, Seat, HasEntered, IsGraftedByNamed, Gone, IsSettled}
use Rattle.model.specs.Surgery as surgery
use Rattle.model.proofs.Worlds.Names.{cases_id}
use Rattle.model.proofs.Members.{contains_none, contains_first, contains_cases}
use Rattle.model.proofs.Update.Merges.{slice_get_push}
use Rattle.model.proofs.Surgery.LiveAndGone.{gone_found}
use Rattle.tree_changes.specs.declared.look_ups.TreeRecord.{TreeRecord}
use Rattle.tree_plan.specs.declared.passes.Compared.{Compared}
use Rattle.tree_plan.specs.declared.passes.Removed.{Removed}
use Rattle.tree_plan.specs.declared.removing.Removing.{Removing}
use Rattle.tree_plan.specs.Passes.{at, has, at_name, IsOfName, HoldsCompared, IsUngrafted, HoldsRemoved, LosesGraft, cut_record}
use Rattle.tree_plan.specs.Removing.{FindsGone, Extends, IsPlacedOrFound, LosesAll, IsDropDone, Drops, IsExpanded, Expands, LosesLeft, DropsLost, FollowsUp, IsWorkedOff}
use Rattle.tree_plan.proofs.Arrived.{arrived, not_arrived}
use Rattle.tree_plan.proofs.Taking.{last_or_before}
use Rattle.model.proofs.State.StatePlaces.{value_of}
use Rattle.model.proofs.Update.RulesOrFault.{no_some}
use Rattle.tree_plan.proofs.IdMaps.{Put, put_here, put_apart, some_is, none_if_not, contains_at, at_contains}

-- ---- lists

pub push_keeps : {X : Type 0} (xs : List X) (y : X) (i : ℕ) (x : X) → slice_get xs i ≡ Some x → slice_get (xs ++ y ∷ []) i ≡ Some x
push_keeps [] y i x e = cc
push_keeps (z ∷ xs) y zero x e = e
push_keeps (z ∷ xs) y (suc i) x e = push_keeps xs y i x e

pub contains_one : {X : Type 0} (y x : X) → Contains (y ∷ []) x → y ≡ x
contains_one y x h = ⊎_elim (λ e. e) (λ later. absurd (contains_none x later)) (contains_cases y x [] h)

pub contains_push : {X : Type 0} (xs : List X) (y x : X) → Contains (xs ++ y ∷ []) x → Contains xs x ⊎ (y ≡ x)
contains_push xs y x h = ⊎_elim inl (λ one. inr (contains_one y x one)) (Contains-append_cases xs (y ∷ []) x h)

pub contains_last : {X : Type 0} (xs : List X) (x : X) → Contains (xs ++ x ∷ []) x
contains_last xs x = Contains-append_right xs (x ∷ []) x (contains_first x [])

-- a list that has one element more
pub pushed_last : {X : Type 0} (xs ys : List X) (x : X) → ys ≡ xs ++ x ∷ [] → Contains ys x
pushed_last xs ys x more = subst (λ zs. Contains zs x) (sym more) (contains_last xs x)

pub pushed_cases : {X : Type 0} (xs ys : List X) (x : X) → ys ≡ xs ++ x ∷ [] → (y : X) → Contains ys y → Contains xs y ⊎ (x ≡ y)
pushed_cases xs ys x more y h = contains_push xs x y (subst (λ zs. Contains zs y) more h)

pub contains_map_at : {X Y : Type 0} (f : X → Y) (xs : List X) (i : ℕ) (d : X) → i < length xs → Contains (map f xs) (f (get_or xs i d))
contains_map_at f xs i d within = contains_at (map f xs) i (f (get_or xs i d)) (slice_get-map f xs i ∙ ap (option_map f) (slice_get-get_or xs i d within))

pub pairs_push : {X : Type 0} (R : X → X → Type 0) (xs : List X) (y : X) → AllPairs R xs → ((x : X) → Contains xs x → R x y) → AllPairs R (xs ++ y ∷ [])
pairs_push {X} R xs y pairs last i j d lt within = go (cases_lt j (length xs))
  where
    count : length (xs ++ y ∷ []) ≡ length xs + 1
    count = length-append xs (y ∷ [])

    go : (j < length xs) ⊎ (length xs ≤ j) → R (get_or (xs ++ y ∷ []) i d) (get_or (xs ++ y ∷ []) j d)
    go (inl inside) =
        let before : i < length xs = omega arith in
        subst (λ a. R a (get_or (xs ++ y ∷ []) j d)) (sym (get_or_append_left xs (y ∷ []) d i before)) (subst (R (get_or xs i d)) (sym (get_or_append_left xs (y ∷ []) d j inside)) (pairs i j d lt inside))
    go (inr past) =
        let same : j ≡ length xs = omega (arith, count) in
        let before : i < length xs = omega arith in
        subst (λ a. R a (get_or (xs ++ y ∷ []) j d)) (sym (get_or_append_left xs (y ∷ []) d i before)) (subst (λ k. R (get_or xs i d) (get_or (xs ++ y ∷ []) k d)) (sym same) (subst (R (get_or xs i d)) (sym (get_or-append_seam xs y [] d)) (last (get_or xs i d) (Contains-get_or xs i d before))))

pub pairs_none : {X : Type 0} (R : X → X → Type 0) → AllPairs R []
pairs_none R i j d lt within = absurd (omega arith)

-- ---- a set of ids and a queue of the same ids

-- an id is put into the set and pushed to the queue
pub put_pushed : (id : FullNodeId) (s t : BTreeSet FullNodeId) (xs ys : List FullNodeId) → ((q : FullNodeId) → has s q ↔ Contains xs q)
    → Put id true (λ q. contains full_cmp s q) (λ q. contains full_cmp t q) → ys ≡ xs ++ id ∷ [] → (q : FullNodeId) → has t q ↔ Contains ys q
put_pushed id s t xs ys same put more q = (to, from)
  where
    apart : id ≢ q → contains full_cmp t q ≡ contains full_cmp s q
    apart other = put_apart id true (λ x. contains full_cmp s x) (λ x. contains full_cmp t x) put q other

    to : has t q → Contains ys q
    to h = ⊎_elim (λ is. subst (Contains ys) is (pushed_last xs ys id more)) (λ other. subst (λ zs. Contains zs q) (sym more) (Contains-append_left xs (id ∷ []) q ((same q).0 (sym (apart other) ∙ h)))) (cases_id id q)

    from : Contains ys q → has t q
    from h = ⊎_elim (λ is. subst (has t) is (put_here id true (λ x. contains full_cmp s x) (λ x. contains full_cmp t x) put)) (λ other. apart other ∙ (same q).1 (⊎_elim (λ before. before) (λ is. absurd (other is)) (pushed_cases xs ys id more q h))) (cases_id id q)

-- ---- what the named nodes' maps say

module _ (w : World) (u : UpdateData) (d : Compared) (k : HoldsCompared w u d) where
  pub entered_has : (id : FullNodeId) → true ≡ is_some (at d.entered id) → HasEntered w u id
  entered_has id is = let f = value_of (at d.entered id) (sym is) in (f.0.spot, arrived w u d k id f.0 f.1)

  pub entered_not : (id : FullNodeId) → false ≡ is_some (at d.entered id) → ¬ (HasEntered w u id)
  entered_not id is = not_arrived w u d k id (none_if_not (at d.entered id) is)

  pub named_has : (id : FullNodeId) → true ≡ is_some (at d.named id) → IsNamed w u id
  named_has id is = let f = value_of (at d.named id) (sym is) in (k.is_named id f.0 f.1).named

  pub named_not : (id : FullNodeId) → false ≡ is_some (at d.named id) → ¬ (IsNamed w u id)
  named_not id is n = no_some (at d.named id) (none_if_not (at d.named id) is) (k.has_named id n)

  pub grafted_has : (name : TreeId) → true ≡ is_some (at_name d.grafted name) → IsGraftedByNamed w u name
  grafted_has name is = let f = value_of (at_name d.grafted name) (sym is) in let g = (k.grafted name f.0).0 f.1 in (f.0, g.0, g.1)

  pub grafted_not : (name : TreeId) → false ≡ is_some (at_name d.grafted name) → ¬ (IsGraftedByNamed w u name)
  grafted_not name is h = no_some (at_name d.grafted name) (none_if_not (at_name d.grafted name) is) (some_is (at_name d.grafted name) h.0 ((k.grafted name h.0).1 (h.1, h.2)))

-- the root of a tree that lost its graft loses its spot
pub root_goes : (w : World) (u : UpdateData) (name : TreeId) → ¬ (IsGraftedByNamed w u name) → (g : FullNodeId) → graft_name w g ≡ Some name → Gone w u g ⊎ IsNamed w u g → (c : FullNodeId) → root_named w name ≡ Some c → ¬ (HasEntered w u c) → Gone w u c
root_goes w u name other g grafts (inl gone) c is none = surgery.Gone.under g c name gone grafts other is none
root_goes w u name other g grafts (inr named) c is none = surgery.Gone.cut g c name named grafts other is none

pub cut_is : (w : World) (name : TreeId) (t : TreeRecord) → IsOfName w name t → record t { graft = None; root = None; focus = None } ≡ cut_record w name
cut_is w name t of = λ i. record { id = of.id i; index = of.index i; graft = None; root = None; focus = None }

-- ---- what is kept

pub extends_itself : (a : Removing) → Extends a a
extends_itself a = record { queue = λ i id e. e; trees = λ t h. h }

pub extends_then : (a b c : Removing) → Extends a b → Extends b c → Extends a c
extends_then a b c f g = record { queue = λ i id e. g.queue i id (f.queue i id e); trees = λ t h. g.trees t (f.trees t h) }

pub queued_stays : (a b : Removing) → Extends a b → (id : FullNodeId) → Contains a.queue.items id → Contains b.queue.items id
queued_stays a b e id h = let f = at_contains a.queue.items id h in contains_at b.queue.items f.0 id (e.queue f.0 id f.1)

module _ (w : World) (u : UpdateData) where
  pub placed_stays : (a b : Removing) → Extends a b → (id : FullNodeId) → IsPlacedOrFound w u a id → IsPlacedOrFound w u b id
  placed_stays a b e id h = ⊎_elim inl (λ q. inr (queued_stays a b e id q)) h

  pub over_stays : (a b : Removing) → Extends a b → (name : TreeId) → IsDropDone w u name a → IsDropDone w u name b
  over_stays a b e name h = record {
    tree = λ other. e.trees (cut_record w name) (h.tree other);
    root = λ other c is. placed_stays a b e c (h.root other c is);
  }

  pub expanded_stays : (a b : Removing) → Extends a b → (id : FullNodeId) → IsExpanded w u id a → IsExpanded w u id b
  expanded_stays a b e id h = record {
    children = λ k c lists. placed_stays a b e c (h.children k c lists);
    tree = λ name is. over_stays a b e name (h.tree name is);
  }

  -- ---- nodes that lost their spots

  pub loses_none : (a : Removing) → FindsGone w u a → LosesAll w u [] a a
  loses_none a found = record { found = found; extends = extends_itself a; trees = refl; lost = λ id h. absurd (contains_none id h) }

  pub loses_more : (xs : List FullNodeId) (y : FullNodeId) (a b c : Removing) → LosesAll w u xs a b → LosesAll w u (y ∷ []) b c → LosesAll w u (xs ++ y ∷ []) a c
  loses_more xs y a b c f g = record {
    found = g.found;
    extends = extends_then a b c f.extends g.extends;
    trees = g.trees ∙ f.trees;
    lost = λ id h. ⊎_elim (λ before. placed_stays b c g.extends id (f.lost id before)) (λ same. g.lost id (subst (Contains (y ∷ [])) same (contains_first y []))) (contains_push xs y id h);
  }

  -- one that came to another spot, or is found already
  pub loses_there : (id : FullNodeId) (a : Removing) → FindsGone w u a → IsPlacedOrFound w u a id → LosesAll w u (id ∷ []) a a
  loses_there id a found there = record {
    found = found;
    extends = extends_itself a;
    trees = refl;
    lost = λ x h. subst (IsPlacedOrFound w u a) (contains_one id x h) there;
  }

  -- a new one
  pub loses_new : (id : FullNodeId) (a b : Removing) → FindsGone w u a → Gone w u id → ¬ (IsNamed w u id)
      → contains full_cmp a.gone id ≡ false
      → Put id true (λ q. contains full_cmp a.gone q) (λ q. contains full_cmp b.gone q)
      → btree_set_len b.gone ≡ btree_set_len a.gone + 1
      → b.queue.items ≡ a.queue.items ++ id ∷ [] → b.trees ≡ a.trees → LosesAll w u (id ∷ []) a b
  loses_new id a b found goes unnamed absent put count queue trees = record {
    found = record {
      gone = put_pushed id a.gone b.gone a.queue.items b.queue.items found.gone put queue;
      once = once;
      count = let f : btree_set_len a.gone ≡ length a.queue.items = found.count in let l : length b.queue.items ≡ length a.queue.items + 1 = ap length queue ∙ length-append a.queue.items (id ∷ []) in omega arith;
      goes = λ q h. ⊎_elim (λ before. found.goes q before) (λ same. subst (λ x. Gone w u x × ¬ (IsNamed w u x)) same (goes, unnamed)) (pushed_cases a.queue.items b.queue.items id queue q h);
      trees = λ t h. found.trees t (subst (λ ts. Contains ts.items t) trees h);
      trees_once = subst (λ ts. AllPairs (λ (x y : TreeRecord). x.id ≢ y.id) ts.items) (sym trees) found.trees_once;
    };
    extends = record {
      queue = λ i q e. subst (λ xs. slice_get xs i ≡ Some q) (sym queue) (push_keeps a.queue.items id i q e);
      trees = λ t h. subst (λ ts. Contains ts.items t) (sym trees) h;
    };
    trees = trees;
    lost = λ x h. inr (subst (Contains b.queue.items) (contains_one id x h) (pushed_last a.queue.items b.queue.items id queue));
  }
    where
      new : (i : ℕ) → slice_get a.queue.items i ≡ Some id → ⊥
      new i e = let f : contains full_cmp a.gone id ≡ true = (found.gone id).1 (contains_at a.queue.items i id e) in cc

      once : (i j : ℕ) (q : FullNodeId) → slice_get b.queue.items i ≡ Some q → slice_get b.queue.items j ≡ Some q → i ≡ j
      once i j q at_i at_j = go (slice_get_push a.queue.items id i q (subst (λ xs. slice_get xs i ≡ Some q) queue at_i)) (slice_get_push a.queue.items id j q (subst (λ xs. slice_get xs j ≡ Some q) queue at_j))
        where
          go : (slice_get a.queue.items i ≡ Some q) ⊎ ((i ≡ length a.queue.items) × (id ≡ q)) → (slice_get a.queue.items j ≡ Some q) ⊎ ((j ≡ length a.queue.items) × (id ≡ q)) → i ≡ j
          go (inl x) (inl y) = found.once i j q x y
          go (inl x) (inr y) = absurd (new i (x ∙ ap Some (sym y.1)))
          go (inr x) (inl y) = absurd (new j (y ∙ ap Some (sym x.1)))
          go (inr x) (inr y) = x.0 ∙ sym y.0

  -- ---- a tree that lost its graft

  pub dropped_not : (name : TreeId) (a : Removing) → FindsGone w u a → IsGraftedByNamed w u name → Drops w u name a a
  dropped_not name a found grafted = record {
    found = found;
    extends = extends_itself a;
    over = record { tree = λ other. absurd (other grafted); root = λ other. absurd (other grafted) };
    only = λ t h. inl h;
    few = omega arith;
  }

  -- its record is pushed
  pub with_tree : (name : TreeId) (a b : Removing) → FindsGone w u a → IsUngrafted w u name → ((t : TreeRecord) → Contains a.trees.items t → t.id ≢ name)
      → b.gone ≡ a.gone → b.queue ≡ a.queue → b.trees.items ≡ a.trees.items ++ cut_record w name ∷ [] → FindsGone w u b × Extends a b × Contains b.trees.items (cut_record w name)
  with_tree name a b found is fresh gone queue trees = (
    record {
      gone = λ id. subst (λ s. has s id ↔ Contains b.queue.items id) (sym gone) (subst (λ q. has a.gone id ↔ Contains q.items id) (sym queue) (found.gone id));
      once = subst (λ q. (i j : ℕ) (id : FullNodeId) → slice_get q.items i ≡ Some id → slice_get q.items j ≡ Some id → i ≡ j) (sym queue) found.once;
      count = ap (λ s. btree_set_len s) gone ∙ found.count ∙ ap (λ q. length q.items) (sym queue);
      goes = λ id h. found.goes id (subst (λ q. Contains q.items id) queue h);
      trees = λ t h. ⊎_elim (λ before. found.trees t before) (λ same. subst (λ x. IsUngrafted w u x.id × (x ≡ cut_record w x.id)) same (is, refl)) (contains_push a.trees.items (cut_record w name) t (subst (λ ts. Contains ts t) trees h));
      trees_once = subst (AllPairs (λ (x y : TreeRecord). x.id ≢ y.id)) (sym trees) (pairs_push (λ (x y : TreeRecord). x.id ≢ y.id) a.trees.items (cut_record w name) found.trees_once fresh);
    },
    record {
      queue = λ i id e. subst (λ q. slice_get q.items i ≡ Some id) (sym queue) e;
      trees = λ t h. subst (λ ts. Contains ts t) (sym trees) (Contains-append_left a.trees.items (cut_record w name ∷ []) t h);
    },
    subst (λ ts. Contains ts (cut_record w name)) (sym trees) (contains_last a.trees.items (cut_record w name)),
  )

  pub dropped : (name : TreeId) (a b c : Removing) → FindsGone w u c → Extends a c → Contains c.trees.items (cut_record w name)
      → b.trees.items ≡ a.trees.items ++ cut_record w name ∷ [] → c.trees ≡ b.trees
      → ((id : FullNodeId) → root_named w name ≡ Some id → IsPlacedOrFound w u c id) → Drops w u name a c
  dropped name a b c found extends there trees same root = record {
    found = found;
    extends = extends;
    over = record { tree = λ other. there; root = λ other. root };
    only = λ t h. ⊎_elim inl (λ is. inr (ap (λ x. x.id) (sym is))) (contains_push a.trees.items (cut_record w name) t (subst (λ ts. Contains ts t) trees (subst (λ ts. Contains ts.items t) same h)));
    few = let l : length c.trees.items ≡ length a.trees.items + 1 = ap (λ ts. length ts.items) same ∙ ap length trees ∙ length-append a.trees.items (cut_record w name ∷ []) in omega arith;
  }

-- the root of the tree of a record
pub root_is : (w : World) (name : TreeId) (t : TreeRecord) → IsOfName w name t → option_and_then (λ index. option_map (in_tree index) t.root) t.index ≡ root_named w name
root_is w name t of = go (index_of w name) refl
  where
    with_tree : (i : ℕ) (o : Option Tree) → option_map (in_tree i) (option_map (λ t. t.root) o) ≡ option_map (λ t. in_tree i t.root) o
    with_tree i None = refl
    with_tree i (Some x) = refl

    go : (o : Option ℕ) → index_of w name ≡ o → option_and_then (λ index. option_map (in_tree index) t.root) t.index ≡ root_named w name
    go None e = rw (of.index ∙ e) (rw e refl)
    go (Some i) e = rw (of.index ∙ e) (rw of.root (rw e (with_tree i (fin.get w.trees i))))

-- a tree that lost its graft, and that no named node grafts: its record is pushed
module _ (w : World) (u : UpdateData) (name : TreeId) (t cut : TreeRecord) (of : IsOfName w name t) (a b : Removing) (found : FindsGone w u a)
    (fresh : (x : TreeRecord) → Contains a.trees.items x → x.id ≢ name)
    (lost : (g : FullNodeId) × (graft_name w g ≡ Some name) × (Gone w u g ⊎ IsNamed w u g))
    (other : ¬ (IsGraftedByNamed w u name))
    (cut_so : cut ≡ record t { graft = None; root = None; focus = None })
    (gone : b.gone ≡ a.gone) (queue : b.queue ≡ a.queue) (trees : b.trees.items ≡ a.trees.items ++ cut ∷ []) where
  pushed : b.trees.items ≡ a.trees.items ++ cut_record w name ∷ []
  pushed = trees ∙ ap (λ x. a.trees.items ++ x ∷ []) (cut_so ∙ cut_is w name t of)

  after : FindsGone w u b × Extends a b × Contains b.trees.items (cut_record w name)
  after = with_tree w u name a b found (other, lost.0, lost.1, lost.2) fresh gone queue pushed

  pub pushed_found : FindsGone w u b
  pushed_found = after.0

  pub pushed_goes : (c : FullNodeId) (r : Option FullNodeId) → r ≡ option_and_then (λ index. option_map (in_tree index) t.root) t.index → r ≡ Some c → ¬ (HasEntered w u c) → Gone w u c
  pushed_goes c r root is = root_goes w u name other lost.0 lost.1 lost.2 c (sym (root_is w name t of) ∙ sym root ∙ is)

  pub dropped_empty : (r : Option FullNodeId) → r ≡ option_and_then (λ index. option_map (in_tree index) t.root) t.index → r ≡ None → Drops w u name a b
  dropped_empty r root none = dropped w u name a b b after.0 after.1 after.2 pushed refl (λ id is. let f : None ≡ Some id = sym none ∙ root ∙ root_is w name t of ∙ is in absurd cc)

  pub dropped_root : (c : Removing) (id : FullNodeId) (r : Option FullNodeId) → r ≡ option_and_then (λ index. option_map (in_tree index) t.root) t.index → r ≡ Some id → LosesAll w u (id ∷ []) b c → Drops w u name a c
  dropped_root c id r root is l = dropped w u name a b c l.found (extends_then a b c after.1 l.extends) (l.extends.trees (cut_record w name) after.2) pushed l.trees
      (λ x named. l.lost x (subst (Contains (id ∷ [])) (same_Some id x (sym is ∙ root ∙ root_is w name t of ∙ named)) (contains_first id [])))

-- ---- a node that goes, with its children and its tree

children_lost : (w : World) (u : UpdateData) (id : FullNodeId) (d : NodeData) (r : Removing) → HasData w id d → ((x : FullNodeId) → Contains (map (in_tree id.tree) d.children) x → IsPlacedOrFound w u r x) → (k : ℕ) (c : FullNodeId) → Lists w (id, k) c → IsPlacedOrFound w u r c
children_lost w u id d r has all k c lists = all c (contains_at (map (in_tree id.tree) d.children) k c (sym (ap (λ o. slice_get (option_map_or (λ x. map (in_tree id.tree) x.children) o []) k) has) ∙ lists))

pub child_goes : (w : World) (u : UpdateData) (id : FullNodeId) (d : NodeData) → HasData w id d → Gone w u id → (c : FullNodeId) → Contains (map (in_tree id.tree) d.children) c → ¬ (HasEntered w u c) → Gone w u c
child_goes w u id d has gone c h none =
    let f = at_contains (map (in_tree id.tree) d.children) c h in
    surgery.Gone.child (id, f.0) c gone (ap (λ o. slice_get (option_map_or (λ x. map (in_tree id.tree) x.children) o []) f.0) has ∙ f.1) none

module _ (w : World) (u : UpdateData) (id : FullNodeId) (a : Removing) (found : FindsGone w u a) where
  -- one without a record would list nothing
  pub expands_nothing : data_of w id ≡ None → Expands w u id a a
  expands_nothing none = record {
    found = found;
    extends = extends_itself a;
    expanded = record {
      children = λ k c lists. let f : None ≡ Some c = sym (ap (λ o. slice_get (option_map_or (λ x. map (in_tree id.tree) x.children) o []) k) none) ∙ lists in absurd cc;
      tree = λ name is. let f : None ≡ Some name = sym (ap (λ o. option_and_then (λ d. d.tree_id) o) none) ∙ is in absurd cc;
    };
    only = λ t h. inl h;
    few = omega arith;
  }

  module _ (d : NodeData) (has : HasData w id d) where
    grafts : graft_name w id ≡ d.tree_id
    grafts = ap (λ o. option_and_then (λ x. x.tree_id) o) has

    pub expands_lists : (b : Removing) → d.tree_id ≡ None → LosesAll w u (map (in_tree id.tree) d.children) a b → Expands w u id a b
    expands_lists b none l = record {
      found = l.found;
      extends = l.extends;
      expanded = record {
        children = children_lost w u id d b has l.lost;
        tree = λ name is. let f : None ≡ Some name = sym none ∙ sym grafts ∙ is in absurd cc;
      };
      only = λ t h. inl (subst (λ ts. Contains ts.items t) l.trees h);
      few = let same : length b.trees.items ≡ length a.trees.items = ap (λ ts. length ts.items) l.trees in omega arith;
    }

    pub expands_graft : (b c : Removing) (name : TreeId) → d.tree_id ≡ Some name → LosesAll w u (map (in_tree id.tree) d.children) a b → Drops w u name b c → Expands w u id a c
    expands_graft b c name is l e = record {
      found = e.found;
      extends = extends_then a b c l.extends e.extends;
      expanded = record {
        children = children_lost w u id d c has (λ x h. placed_stays w u b c e.extends x (l.lost x h));
        tree = λ other named. subst (λ x. IsDropDone w u x c) (same_Some name other (sym is ∙ sym grafts ∙ named)) e.over;
      };
      only = λ t h. ⊎_elim (λ before. inl (subst (λ ts. Contains ts.items t) l.trees before)) (λ same. inr (grafts ∙ is ∙ ap Some (sym same))) (e.only t h);
      few = let same : length b.trees.items ≡ length a.trees.items = ap (λ ts. length ts.items) l.trees in let more : length c.trees.items ≤ length b.trees.items + 1 = e.few in omega arith;
    }

    pub graft_fresh : (b : Removing) (name : TreeId) → d.tree_id ≡ Some name → LosesAll w u (map (in_tree id.tree) d.children) a b → ((t : TreeRecord) → Contains a.trees.items t → graft_name w id ≢ Some t.id) → (t : TreeRecord) → Contains b.trees.items t → t.id ≢ name
    graft_fresh b name is l fresh t h same = fresh t (subst (λ ts. Contains ts.items t) l.trees h) (grafts ∙ is ∙ ap Some (sym same))

-- ---- the loops

-- the first of the lost names are worked off
pub record IsDropping (w : World) (u : UpdateData) (names : List TreeId) (n : ℕ) (a b : Removing) : Type 0 where
  pub found : FindsGone w u b
  pub extends : Extends a b
  pub over : (k : ℕ) (name : TreeId) → k < n → slice_get names k ≡ Some name → IsDropDone w u name b
  pub only : (t : TreeRecord) → Contains b.trees.items t → (k : ℕ) × (k < n) × (slice_get names k ≡ Some t.id)
  pub few : length b.trees.items ≤ n

-- the first of the queue are worked off
pub record IsFollowing (w : World) (u : UpdateData) (n : ℕ) (a b : Removing) : Type 0 where
  pub found : FindsGone w u b
  pub extends : Extends a b
  pub expanded : (k : ℕ) (id : FullNodeId) → k < n → slice_get b.queue.items k ≡ Some id → IsExpanded w u id b
  pub only : (t : TreeRecord) → Contains b.trees.items t → LosesGraft w u t.id ⊎ ((k : ℕ) × (id : FullNodeId) × (k < n) × (slice_get b.queue.items k ≡ Some id) × (graft_name w id ≡ Some t.id))
  pub few : length b.trees.items ≤ length a.trees.items + n
  pub within : n ≤ length b.queue.items

module _ (w : World) (u : UpdateData) where
  pub dropping_start : (names : List TreeId) (a : Removing) → FindsGone w u a → a.trees.items ≡ [] → IsDropping w u names 0 a a
  dropping_start names a found none = record {
    found = found;
    extends = extends_itself a;
    over = λ k name lt is. absurd (omega arith);
    only = λ t h. absurd (contains_none t (subst (λ ts. Contains ts t) none h));
    few = let same : length a.trees.items ≡ 0 = ap length none in omega arith;
  }

  pub dropping_fresh : (names : List TreeId) (n : ℕ) (name : TreeId) (a b : Removing) → AllPairs (λ x y. x ≢ y) names → slice_get names n ≡ Some name → IsDropping w u names n a b → (t : TreeRecord) → Contains b.trees.items t → t.id ≢ name
  dropping_fresh names n name a b once is i t h same =
      let f = i.only t h in
      let here : n < length names = slice_get_within names n name is in
      once f.0 n name f.1 here (get_or_from_slice_get names f.0 t.id name f.2 ∙ same ∙ sym (get_or_from_slice_get names n name name is))

  pub dropping_more : (names : List TreeId) (n : ℕ) (name : TreeId) (a b c : Removing) → slice_get names n ≡ Some name → IsDropping w u names n a b → Drops w u name b c → IsDropping w u names (n + 1) a c
  dropping_more names n name a b c is i e = record {
    found = e.found;
    extends = extends_then a b c i.extends e.extends;
    over = λ k other lt at_k. ⊎_elim (λ before. over_stays w u b c e.extends other (i.over k other before at_k)) (λ same. subst (λ x. IsDropDone w u x c) (same_Some name other (sym is ∙ ap (slice_get names) (sym same) ∙ at_k)) e.over) (last_or_before k n lt);
    only = λ t h. ⊎_elim (λ before. let f = i.only t before in (f.0, (let lt : f.0 < n = f.1 in omega arith), f.2)) (λ same. (n, omega arith, is ∙ ap Some (sym same))) (e.only t h);
    few = let before : length b.trees.items ≤ n = i.few in let more : length c.trees.items ≤ length b.trees.items + 1 = e.few in omega arith;
  }

  pub dropping_end : (d : Compared) (k : HoldsCompared w u d) (n : ℕ) (a b : Removing) → length d.lost.items ≤ n → n ≤ length d.lost.items → IsDropping w u d.lost.items n a b → DropsLost w u d a b
  dropping_end d k n a b all within i = record {
    found = i.found;
    extends = i.extends;
    over = λ name l. let f = at_contains d.lost.items name ((k.lost name).1 l) in let lt : f.0 < length d.lost.items = slice_get_within d.lost.items f.0 name f.1 in i.over f.0 name (omega arith) f.1;
    only = λ t h. let f = i.only t h in (k.lost t.id).0 (contains_at d.lost.items f.0 t.id f.2);
    few = let few : length b.trees.items ≤ n = i.few in omega arith;
  }

  pub following_start : (a : Removing) → FindsGone w u a → ((t : TreeRecord) → Contains a.trees.items t → LosesGraft w u t.id) → IsFollowing w u 0 a a
  following_start a found lost = record {
    found = found;
    extends = extends_itself a;
    expanded = λ k id lt is. absurd (omega arith);
    only = λ t h. inl (lost t h);
    few = omega arith;
    within = omega arith;
  }

  -- a node of the queue grafts a tree whose record isn't there
  pub following_fresh : (o : IsOld w) (n : ℕ) (id : FullNodeId) (a b : Removing) → slice_get b.queue.items n ≡ Some id → IsFollowing w u n a b → (t : TreeRecord) → Contains b.trees.items t → graft_name w id ≢ Some t.id
  following_fresh o n id a b is i t h grafts = go (i.only t h)
    where
      goes : Gone w u id × ¬ (IsNamed w u id)
      goes = i.found.goes id (contains_at b.queue.items n id is)

      go : LosesGraft w u t.id ⊎ ((k : ℕ) × (x : FullNodeId) × (k < n) × (slice_get b.queue.items k ≡ Some x) × (graft_name w x ≡ Some t.id)) → ⊥
      go (inl l) = goes.1 (subst (IsNamed w u) (o.grafted_once l.0 id t.id l.2 grafts) l.1)
      go (inr f) =
          let same : f.1 ≡ id = o.grafted_once f.1 id t.id f.4 grafts in
          let one : f.0 ≡ n = i.found.once f.0 n id (f.3 ∙ ap Some same) is in
          let lt : f.0 < n = f.2 in omega arith

  pub following_more : (n : ℕ) (id : FullNodeId) (a b c : Removing) → slice_get b.queue.items n ≡ Some id → IsFollowing w u n a b → Expands w u id b c → IsFollowing w u (n + 1) a c
  following_more n id a b c is i e = record {
    found = e.found;
    extends = extends_then a b c i.extends e.extends;
    expanded = λ k x lt at_k. ⊎_elim (λ before. expanded_stays w u b c e.extends x (i.expanded k x before (before_at k x before at_k))) (λ same. subst (λ y. IsExpanded w u y c) (same_Some id x (sym here ∙ ap (slice_get c.queue.items) (sym same) ∙ at_k)) e.expanded) (last_or_before k n lt);
    only = λ t h. ⊎_elim (λ before. kept t (i.only t before)) (λ grafts. inr (n, id, omega arith, here, grafts)) (e.only t h);
    few = let before : length b.trees.items ≤ length a.trees.items + n = i.few in let more : length c.trees.items ≤ length b.trees.items + 1 = e.few in omega arith;
    within = let lt : n < length c.queue.items = slice_get_within c.queue.items n id here in omega arith;
  }
    where
      here : slice_get c.queue.items n ≡ Some id
      here = e.extends.queue n id is

      before_at : (k : ℕ) (x : FullNodeId) → k < n → slice_get c.queue.items k ≡ Some x → slice_get b.queue.items k ≡ Some x
      before_at k x lt at_k =
          let n_within : n < length b.queue.items = slice_get_within b.queue.items n id is in
          let within : k < length b.queue.items = omega arith in
          let there : slice_get b.queue.items k ≡ Some (get_or b.queue.items k x) = slice_get-get_or b.queue.items k x within in
          there ∙ sym (e.extends.queue k (get_or b.queue.items k x) there) ∙ at_k

      kept : (t : TreeRecord) → LosesGraft w u t.id ⊎ ((k : ℕ) × (x : FullNodeId) × (k < n) × (slice_get b.queue.items k ≡ Some x) × (graft_name w x ≡ Some t.id)) → LosesGraft w u t.id ⊎ ((k : ℕ) × (x : FullNodeId) × (k < n + 1) × (slice_get c.queue.items k ≡ Some x) × (graft_name w x ≡ Some t.id))
      kept t (inl l) = inl l
      kept t (inr f) = inr (f.0, f.1, (let lt : f.0 < n = f.2 in omega arith), e.extends.queue f.0 f.1 f.3, f.4)

  pub following_end : (n : ℕ) (a b : Removing) → length b.queue.items ≤ n → IsFollowing w u n a b → FollowsUp w u a b
  following_end n a b all i = record {
    found = i.found;
    extends = i.extends;
    expanded = λ id h. let f = at_contains b.queue.items id h in let lt : f.0 < length b.queue.items = slice_get_within b.queue.items f.0 id f.1 in i.expanded f.0 id (omega arith) f.1;
    few = let few : length b.trees.items ≤ length a.trees.items + n = i.few in let within : n ≤ length b.queue.items = i.within in omega arith;
  }

  -- ---- all of it

  pub worked_off : (d : Compared) (a b c e : Removing) → a.trees.items ≡ [] → LosesLeft w u a b → DropsLost w u d b c → FollowsUp w u c e → IsWorkedOff w u d e
  worked_off d a b c e none l x f = record {
    found = f.found;
    left = λ s id is. placed_stays w u c e f.extends id (placed_stays w u b c x.extends id (l.left s id is));
    over = λ name is. over_stays w u c e f.extends name (x.over name is);
    expanded = f.expanded;
    few = let few : length e.trees.items ≤ length c.trees.items + length e.queue.items = f.few in let before : length c.trees.items ≤ length d.lost.items = x.few in omega arith;
  }

  module _ (o : IsOld w) (d : Compared) (r : Removing) (i : IsWorkedOff w u d r) where
    -- a tree that a named node grafted, and none grafts now, is lost
    loses : (g : FullNodeId) (name : TreeId) → IsNamed w u g → graft_name w g ≡ Some name → ¬ (IsGraftedByNamed w u name) → LosesGraft w u name
    loses g name named grafts other = (g, named, grafts, λ after. other (g, named, after))

    gone_queued : (id : FullNodeId) → Gone w u id → Contains r.queue.items id
    gone_queued = gone_found w u o (λ id. Contains r.queue.items id)
        (λ s c l none. ⊎_elim (λ e. absurd (none e)) (λ h. h) (i.left s c l))
        (λ p c h lists none. ⊎_elim (λ e. absurd (none e)) (λ q. q) ((i.expanded p.0 h).children p.1 c lists))
        (λ g c name from grafts other is none. ⊎_elim (λ e. absurd (none e)) (λ q. q) ((over g name from grafts other).root other c is))
      where
        over : (g : FullNodeId) (name : TreeId) → Contains r.queue.items g ⊎ IsNamed w u g → graft_name w g ≡ Some name → ¬ (IsGraftedByNamed w u name) → IsDropDone w u name r
        over g name (inl h) grafts other = (i.expanded g h).tree name grafts
        over g name (inr named) grafts other = i.over name (loses g name named grafts other)

    cut_there : (name : TreeId) → IsUngrafted w u name → Contains r.trees.items (cut_record w name)
    cut_there name (other, g, grafts, from) = (over from).tree other
      where
        over : Gone w u g ⊎ IsNamed w u g → IsDropDone w u name r
        over (inl gone) = (i.expanded g (gone_queued g gone)).tree name grafts
        over (inr named) = i.over name (loses g name named grafts other)

    pub removal : IsSettled w u → (out : Removed) → out.gone ≡ r.gone → out.trees ≡ r.trees → HoldsRemoved w u out
    removal settled out gone trees = record {
      removed = record { settled = settled; named_stays = λ n named is. (i.found.goes n (gone_queued n is)).1 named };
      gone = λ id. (
        λ h. (i.found.goes id ((i.found.gone id).0 (subst (λ s. has s id) gone h))).0,
        λ is. subst (λ s. has s id) (sym gone) ((i.found.gone id).1 (gone_queued id is)),
      );
      trees = λ t. (
        λ h. i.found.trees t (subst (λ ts. Contains ts.items t) trees h),
        λ h. subst (λ ts. Contains ts.items t) (sym trees) (subst (Contains r.trees.items) (sym h.1) (cut_there t.id h.0)),
      );
      trees_once = subst (λ ts. AllPairs (λ (x y : TreeRecord). x.id ≢ y.id) ts.items) (sym trees) i.found.trees_once;
    }

-- ---- what left

module _ (w : World) (u : UpdateData) (d : Compared) (k : HoldsCompared w u d) where
  pub left_goes : (s : Seat) (id : FullNodeId) → at d.left id ≡ Some s → ¬ (HasEntered w u id) → Gone w u id
  left_goes s id is none = surgery.Gone.left s id (k.left id s is) none

  pub left_end : (a b : Removing) → FindsGone w u b → b.trees ≡ a.trees → ((id : FullNodeId) (s : Seat) → at d.left id ≡ Some s → IsPlacedOrFound w u b id) → LosesLeft w u a b
  left_end a b found trees all = record {
    found = found;
    trees = trees;
    left = λ s id l. ⊎_elim (all id s) (λ x. inl (x.0.spot, arrived w u d k id x.0 x.1)) (k.left_each id s l);
  }
