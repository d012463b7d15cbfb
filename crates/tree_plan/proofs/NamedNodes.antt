-- The named nodes, compared one after another.
use Rattle.std.proofs.Common.{◌≡◌, ◌≢◌, ◌⊎◌, ⊎_elim, ◌↔◌, ℕ, zero, suc, ◌+◌, ◌<◌, ◌≤◌, List, [], ◌∷◌, ◌++◌, length, map, get_or, slice_get, AllPairs, Contains, Option, Some, None, IsSome, option_map, option_and_then, length-append, inl, inr, refl, sym, ap, subst, ◌∙◌, arith}
use Rattle.std.specs.Prelude.{IsTrue}
use Rattle.std.specs.Option.{option_to_list}
use Rattle.std.specs.BTreeMap.{is_at}
use Rattle.std.specs.FinMap.{get}
use Rattle.std.specs.Map.{lookup}
use Rattle.std.proofs.Math.Seq.{get_or-append_seam}
use Rattle.std.proofs.lemmas.List.{append-nil, length-map, get_or_append_left}
use Rattle.std.proofs.lemmas.List.Elements.{Contains-append_left, Contains-append_right, Contains-append_cases}
use Rattle.std.proofs.lemmas.Option.{same_Some, slice_get_within, slice_get-get_or, slice_get-map, get_or_from_slice_get}
use Rattle.schema.specs.NodeData.{NodeData}
use Rattle.schema.specs.declared.NodeId.{NodeId}
use Rattle.schema.specs.declared.TreeId.{TreeId}
use Rattle.model.specs.declared.FullNodeId.{FullNodeId}
use Rattle.model.specs.World.{ROOT_NAME, World, Tree, Place, data_of, in_tree, listed_ids, graft_name, root_of}
use Rattle.model.specs.Update.{UpdateData, index_for, merged_world, IsNamed, named_at}
use Rattle.model.specs.Surgery.{IsOld, IsOpened, Seat, IsAt, Left, Entered}
use Rattle.model.proofs.Worlds.Names.{cases_id, cases_name, same_id}
use Rattle.model.proofs.Members.{contains_none}
use Rattle.model.proofs.State.StatePlaces.{value_of, map_some, root_of-tree}
use Rattle.model.proofs.Surgery.Spots.{spot_once, left_tree, entered_tree, lister_named, leaver_named}
use Rattle.model.proofs.Surgery.FaultsStand.{named_root_graft_stands, named_children_stand, named_grafts_stand, entered_twice_stands}
use Rattle.tree_changes.specs.declared.error.UpdateError.{UpdateError}
use Rattle.tree_changes.specs.declared.error.UpdateError.TheVariants as error
use Rattle.tree_changes.specs.Refusals.{IsRefusal}
use Rattle.tree_plan.specs.declared.passes.Opened.{Opened}
use Rattle.tree_plan.specs.declared.passes.Arrival.{Arrival}
use Rattle.tree_plan.specs.declared.passes.Named.{Named}
use Rattle.tree_plan.specs.declared.passes.Comparing.{Comparing}
use Rattle.tree_plan.specs.declared.passes.Compared.{Compared}
use Rattle.tree_plan.specs.Passes.{at, at_name, entered_at, IsShifted, IsShift, IsNamedAs, LosesGraft, GainsGraft, HoldsOpened, HoldsCompared}
use Rattle.tree_plan.specs.Comparisons.{IsNamedBefore, AreEntriesTaken, Spots, Arrivals, spot_entry, spots_of, IsShiftedIn, AreApart, Gathers, OnlyAt, OnlyIn, child_ids, IsGraftFault, ChangesGraft, ComparesNode, BeginsComparing, IsDone, AreCompared, SettlesLists, IsEnteredTwice}
use Rattle.tree_plan.proofs.Gathering.{apart_both}
use Rattle.tree_plan.proofs.Leaving.{in_spots, of_spot}
use Rattle.tree_plan.proofs.Entries.{AreNamedOnce, entry_named}
use Rattle.model.proofs.Update.RulesOrFault.{no_some}
use Rattle.model.specs.FullIds.{name_cmp}
use Rattle.tree_plan.proofs.IdMaps.{contains_at, at_contains, put_here, put_apart, some_is}
use Rattle.tree_plan.proofs.Opens.{tree_is}
use Rattle.tree_plan.proofs.Taking.{IsTurn, entry_id, last_or_before, value_at}

-- ---- elements of lists

in_option : {X : Type 0} (o : Option X) (x : X) → Contains (option_to_list o) x → o ≡ Some x
in_option None x c = absurd (let lt : c.0 < 0 = c.1 in omega arith)
in_option (Some y) x c = let f = at_contains (y ∷ []) x c in go f.0 f.1
  where
    go : (k : ℕ) → slice_get (y ∷ []) k ≡ Some x → Some y ≡ Some x
    go zero at = at
    go (suc k) at = cc

option_has : {X : Type 0} (o : Option X) (x : X) → o ≡ Some x → Contains (option_to_list o) x
option_has o x e = subst (λ p. Contains (option_to_list p) x) (sym e) (0, omega arith, refl)

-- the spot of an arrival
spot_at : (es : Arrivals) (k : ℕ) (id : FullNodeId) (x : Arrival) → slice_get es k ≡ Some (id, x) → slice_get (spots_of es) k ≡ Some (id, x.spot)
spot_at es k id x is = slice_get-map spot_entry es k ∙ ap (option_map spot_entry) is

-- one more element, which isn't there
pushed_once : {X : Type 0} (xs : List X) (o : Option X) → ((x : X) → o ≡ Some x → Contains xs x → ⊥) → AllPairs (λ a b. a ≢ b) xs → AllPairs (λ a b. a ≢ b) (xs ++ option_to_list o)
pushed_once xs None out once = subst (AllPairs (λ a b. a ≢ b)) (sym (append-nil xs)) once
pushed_once {X} xs (Some y) out once = λ i j d lt fits. go i j d lt (let n = length-append xs (y ∷ []) in let f : j < length (xs ++ y ∷ []) = fits in last_or_before j (length xs) (omega (arith, n)))
  where
    front : (i : ℕ) (d : X) → i < length xs → get_or (xs ++ y ∷ []) i d ≡ get_or xs i d
    front i d lt = get_or_append_left xs (y ∷ []) d i lt

    back : (d : X) → get_or (xs ++ y ∷ []) (length xs) d ≡ y
    back d = get_or-append_seam xs y [] d

    go : (i j : ℕ) (d : X) → i < j → (j < length xs) ⊎ (j ≡ length xs) → get_or (xs ++ y ∷ []) i d ≢ get_or (xs ++ y ∷ []) j d
    go i j d lt (inl below) same = once i j d lt below (sym (front i d (omega arith)) ∙ same ∙ front j d below)
    go i j d lt (inr last) same =
        let within : i < length xs = omega arith in
        let is : get_or xs i d ≡ y = sym (front i d within) ∙ same ∙ ap (λ k. get_or (xs ++ y ∷ []) k d) last ∙ back d in
        out y refl (contains_at xs i y (slice_get-get_or xs i d within ∙ ap Some is))

pushed_length : {X : Type 0} (xs : List X) (o : Option X) (k : ℕ) → length xs ≤ k → length (xs ++ option_to_list o) ≤ k + 1
pushed_length xs None k fits = omega (arith, length-append xs [])
pushed_length xs (Some y) k fits = omega (arith, length-append xs (y ∷ []))

map_nil : {X Y : Type 0} (f : X → Y) (xs : List X) → map f xs ≡ [] → xs ≡ []
map_nil f [] e = refl
map_nil f (x ∷ xs) e = cc

decide_some : (o : Option TreeId) (name : TreeId) → (o ≡ Some name) ⊎ (o ≢ Some name)
decide_some None name = inr (λ e. cc)
decide_some (Some v) name = ⊎_elim (λ e. inl (ap Some e)) (λ ne. inr (λ e. ne (same_Some v name e))) (cases_name v name)

module _ (w : World) (u : UpdateData) (o : IsOld w) where
  abbrev m : World
  m = merged_world w u

  abbrev i : ℕ
  i = index_for w u.name

  pub later_named : (k : ℕ) (n : FullNodeId) → IsNamedBefore w u k n → IsNamedBefore w u (k + 1) n
  later_named k n h = (h.0, h.1, (let lt : h.1 < k = h.2 in omega arith), h.3)

  pub none_named : (n : FullNodeId) → ¬ (IsNamedBefore w u 0 n)
  none_named n h = let lt : h.1 < 0 = h.2 in omega arith

  later_done : (k : ℕ) (s : Seat) → IsDone w u k s → IsDone w u (k + 1) s
  later_done k None d = d
  later_done k (Some p) d = later_named k p.0 d

  ids_length : length (map (λ e. e.0) u.nodes) ≡ length u.nodes
  ids_length = length-map u.nodes (λ (e : NodeId × NodeData). e.0)

  -- the named nodes are those that one of all entries names
  pub all_named : (n : FullNodeId) → IsNamedBefore w u (length u.nodes) n ↔ IsNamed w u n
  all_named n = (
    (λ h. (h.0, contains_at (map (λ e. e.0) u.nodes) h.1 n.node h.3)),
    (λ h. let f = at_contains (map (λ e. e.0) u.nodes) n.node h.1 in
        let lt : f.0 < length (map (λ e. e.0) u.nodes) = slice_get_within (map (λ e. e.0) u.nodes) f.0 n.node f.1 in
        (h.0, f.0, subst (λ x. f.0 < x) ids_length lt, f.1)),
  )

  pub named_is : (k : ℕ) (n : FullNodeId) → IsNamedBefore w u k n → IsNamed w u n
  named_is k n h = (h.0, contains_at (map (λ e. e.0) u.nodes) h.1 n.node h.3)

  -- ---- one more entry
  module _ (once : AreNamedOnce u.nodes) (k : ℕ) (e : NodeId × NodeData) (at_k : slice_get u.nodes k ≡ Some e) where
    abbrev id : FullNodeId
    id = in_tree i e.0

    here : named_at u k ≡ Some e.0
    here = entry_id u k e at_k

    pub data_here : data_of m id ≡ Some e.1
    data_here = entry_named w u id k once refl here ∙ ap (option_map (λ (x : NodeId × NodeData). x.1)) at_k

    graft_here : graft_name m id ≡ e.1.tree_id
    graft_here = ap (option_and_then (λ (d : NodeData). d.tree_id)) data_here

    pub lists_here : listed_ids m id ≡ child_ids id e.1
    lists_here = rw data_here refl

    pub named_here : IsNamedBefore w u (k + 1) id
    named_here = (refl, k, omega arith, here)

    -- the node is among the named ones
    pub named_known : (a : Comparing) → AreCompared w u k a → IsSome (at a.named id)
    named_known a h = (h.has_named id).1 (named_is (k + 1) id named_here)

    first_named : ¬ (IsNamedBefore w u k id)
    first_named h = let same : h.1 ≡ k = once h.1 k e.0 h.3 here in let lt : h.1 < k = h.2 in omega arith

    pub last_named : (n : FullNodeId) → IsNamedBefore w u (k + 1) n → IsNamedBefore w u k n ⊎ (id ≡ n)
    last_named n h = ⊎_elim
        (λ lt. inl (h.0, h.1, lt, h.3))
        (λ same. inr (same_id id n (sym h.0) (same_Some e.0 n.node (sym here ∙ subst (λ j. named_at u j ≡ Some n.node) same h.3))))
        (last_or_before h.1 k h.2)

    apart : (n : FullNodeId) → IsNamedBefore w u k n → id ≢ n
    apart n h same = first_named (subst (IsNamedBefore w u k) (sym same) h)

    abbrev WasHere : FullNodeId → Seat → Type 0
    WasHere = OnlyIn id (listed_ids w id) (child_ids id e.1)

    abbrev IsHere : FullNodeId → Seat → Type 0
    IsHere = OnlyIn id (child_ids id e.1) (listed_ids w id)

    here_done : (s : Seat) (j : ℕ) → s ≡ Some (id, j) → IsDone w u (k + 1) s
    here_done s j is = subst (IsDone w u (k + 1)) (sym is) named_here

    pub was_left : (c : FullNodeId) (s : Seat) → WasHere c s → Left w u s c
    was_left c s h = subst (λ t. Left w u t c) (sym h.1.0) (h.1.1.0, subst (λ xs. slice_get xs h.0 ≢ Some c) (sym lists_here) h.1.1.1)

    pub is_entered : (c : FullNodeId) (s : Seat) → IsHere c s → Entered w u s c
    is_entered c s h = subst (λ t. Entered w u t c) (sym h.1.0) (subst (λ xs. slice_get xs h.0 ≡ Some c) (sym lists_here) h.1.1.0, h.1.1.1)

    spot_of : (p : Place) → id ≡ p.0 → Some p ≡ Some (id, p.1)
    spot_of p same = let pair : FullNodeId → Place = λ x. (x, p.1) in ap (λ x. Some (pair x)) (sym same)

    pub left_was : (c : FullNodeId) (p : Place) → id ≡ p.0 → Left w u (Some p) c → WasHere c (Some p)
    left_was c p same l =
        let at_w : slice_get (listed_ids w id) p.1 ≡ Some c = subst (λ x. slice_get (listed_ids w x) p.1 ≡ Some c) (sym same) l.0 in
        let at_m : slice_get (listed_ids m id) p.1 ≢ Some c = subst (λ x. slice_get (listed_ids m x) p.1 ≢ Some c) (sym same) l.1 in
        (p.1, (spot_of p same, (at_w, subst (λ xs. slice_get xs p.1 ≢ Some c) lists_here at_m)))

    pub entered_is : (c : FullNodeId) (p : Place) → id ≡ p.0 → Entered w u (Some p) c → IsHere c (Some p)
    entered_is c p same l =
        let at_m : slice_get (listed_ids m id) p.1 ≡ Some c = subst (λ x. slice_get (listed_ids m x) p.1 ≡ Some c) (sym same) l.0 in
        let at_w : slice_get (listed_ids w id) p.1 ≢ Some c = subst (λ x. slice_get (listed_ids w x) p.1 ≢ Some c) (sym same) l.1 in
        (p.1, (spot_of p same, (subst (λ xs. slice_get xs p.1 ≡ Some c) lists_here at_m, at_w)))

    module _ (a b : Comparing) (h : AreCompared w u k a) (s : ComparesNode w id k e.1 a b) where
      -- the node's entry
      named_as : IsNamedAs w u id s.n
      named_as = record {
        named = named_is (k + 1) id named_here;
        entry = subst (λ j. named_at u j ≡ Some e.0) (sym s.is_entry.entry_is) here;
        new = s.is_entry.new;
        old = s.is_entry.old;
        news = subst (λ x. IsTrue s.n.is_news ↔ (data_of w id ≢ x)) (sym data_here) s.is_entry.news;
      }

      next_is_named : (q : FullNodeId) (n : Named) → IsNamedBefore w u (k + 1) q → at b.named q ≡ Some n → IsNamedAs w u q n
      next_is_named q n before is = ⊎_elim
          (λ earlier. h.is_named q n earlier (sym (put_apart id (Some s.n) (at a.named) (at b.named) s.compares.named q (apart q earlier)) ∙ is))
          (λ same.
          let put : at b.named q ≡ Some s.n = subst (λ x. at b.named x ≡ Some s.n) same (put_here id (Some s.n) (at a.named) (at b.named) s.compares.named) in
          let N : (x : FullNodeId) → Named → Type 0 = λ x y. IsNamedAs w u x y in
          subst (λ y. N q y) (same_Some s.n n (sym put ∙ is)) (subst (λ x. N x s.n) same named_as))
          (last_named q before)

      next_has_named : (q : FullNodeId) → IsSome (at b.named q) ↔ IsNamed w u q
      next_has_named q = ⊎_elim
          (λ same. ((λ _. subst (IsNamed w u) same (named_is (k + 1) id named_here)), λ _. some_is (at b.named q) s.n (subst (λ x. at b.named x ≡ Some s.n) same (put_here id (Some s.n) (at a.named) (at b.named) s.compares.named))))
          (λ ne. subst (λ x. IsSome x ↔ IsNamed w u q) (sym (put_apart id (Some s.n) (at a.named) (at b.named) s.compares.named q ne)) (h.has_named q))
          (cases_id id q)

      left_to : (c : FullNodeId) (t : Seat) → Contains b.left (c, t) → Left w u t c
      left_to c t is = ⊎_elim (h.left c t) (was_left c t) (s.compares.left.only c t is)

      left_from : (c : FullNodeId) (t : Seat) → Left w u t c → IsDone w u (k + 1) t → Contains b.left (c, t) ⊎ IsShiftedIn b.entered c
      left_from c t l done = go t l done
        where
          earlier : (t : Seat) → Contains a.left (c, t) ⊎ IsShiftedIn a.entered c → Contains b.left (c, t) ⊎ IsShiftedIn b.entered c
          earlier t (inl is) = inl (s.compares.left.kept c t is)
          earlier t (inr x) = inr (x.0, s.compares.left.stays c x.0 x.1, x.2)

          now : (p : Place) → WasHere c (Some p) → Contains b.left (c, Some p) ⊎ IsShiftedIn b.entered c
          now p x =
              let lt : x.0 < length (listed_ids w id) = slice_get_within (listed_ids w id) x.0 c x.1.1.0 in
              subst (λ (t : Seat). Contains b.left (c, t) ⊎ IsShiftedIn b.entered c) (sym x.1.0) (s.compares.left.each x.0 c (omega arith) lt x.1.1.0 x.1.1.1)

          go : (t : Seat) → Left w u t c → IsDone w u (k + 1) t → Contains b.left (c, t) ⊎ IsShiftedIn b.entered c
          go None l done = earlier None (h.left_each c None l done)
          go (Some p) l done = ⊎_elim (λ done. earlier (Some p) (h.left_each c (Some p) l done)) (λ same. now p (left_was c p same l)) (last_named p.0 done)

      shifted_to : (c : FullNodeId) (x : Arrival) → Contains b.entered (c, x) → IsTrue x.is_shifted → IsShift w u c x.spot
      shifted_to c x is t = ⊎_elim
          (λ earlier. h.shifted c x earlier t)
          (λ f. (id, f.0, f.1, was_left c (Some (id, f.0)) (f.0, (refl, (f.2, f.3))), f.4))
          (s.compares.left.shifted c x is t)

      entered_to : (c : FullNodeId) (t : Seat) → Contains (spots_of b.entered) (c, t) → Entered w u t c × IsDone w u (k + 1) t
      entered_to c t is = ⊎_elim
          (λ earlier. let f = (h.entered c t).0 earlier in (f.0, later_done k t f.1))
          (λ now. let f = (s.compares.entered.found c t).0 now in (is_entered c t f, here_done t f.0 f.1.0))
          (Contains-append_cases (spots_of a.entered) s.compares.entered.added (c, t) (subst (λ (xs : Spots). Contains xs (c, t)) s.compares.entered.is is))

      entered_from : (c : FullNodeId) (t : Seat) → Entered w u t c → IsDone w u (k + 1) t → Contains (spots_of b.entered) (c, t)
      entered_from c t l done = subst (λ (xs : Spots). Contains xs (c, t)) (sym s.compares.entered.is) (go t l done)
        where
          before : (t : Seat) → Entered w u t c → IsDone w u k t → Contains (spots_of a.entered ++ s.compares.entered.added) (c, t)
          before t l done = Contains-append_left (spots_of a.entered) s.compares.entered.added (c, t) ((h.entered c t).1 (l, done))

          go : (t : Seat) → Entered w u t c → IsDone w u (k + 1) t → Contains (spots_of a.entered ++ s.compares.entered.added) (c, t)
          go None l done = before None l done
          go (Some p) l done = ⊎_elim (λ earlier. before (Some p) l earlier) (λ same. Contains-append_right (spots_of a.entered) s.compares.entered.added (c, Some p) ((s.compares.entered.found c (Some p)).1 (entered_is c p same l))) (last_named p.0 done)

      -- the node's spots are others than those of the nodes before it
      entered_across : (x y : FullNodeId × Seat) → Contains (spots_of a.entered) x → Contains s.compares.entered.added y → x.1 ≢ y.1
      entered_across x y before now same =
          let f = (s.compares.entered.found y.0 y.1).0 now in
          first_named (subst (IsDone w u k) (same ∙ f.1.0) ((h.entered x.0 x.1).0 before).1)

      entered_apart : AreApart (spots_of b.entered)
      entered_apart = subst AreApart (sym s.compares.entered.is) (apart_both (spots_of a.entered) s.compares.entered.added h.entered_apart s.compares.entered.once entered_across)

      grafted_to : (name : TreeId) (n : FullNodeId) → at_name b.grafted name ≡ Some n → IsNamedBefore w u (k + 1) n × (graft_name m n ≡ Some name)
      grafted_to name n is = ⊎_elim
          (λ takes.
          let same : id ≡ n = same_Some id n (sym (s.grafted.taken name takes).1 ∙ is) in
          subst (λ x. IsNamedBefore w u (k + 1) x × (graft_name m x ≡ Some name)) same (named_here, graft_here ∙ takes))
          (λ not. let f = (h.grafted name n).0 (sym (s.grafted.others name not) ∙ is) in (later_named k n f.0, f.1))
          (decide_some e.1.tree_id name)

      grafted_from : (name : TreeId) (n : FullNodeId) → IsNamedBefore w u (k + 1) n → graft_name m n ≡ Some name → at_name b.grafted name ≡ Some n
      grafted_from name n before grafts = ⊎_elim
          (λ earlier.
          let was : at_name a.grafted name ≡ Some n = (h.grafted name n).1 (earlier, grafts) in
          ⊎_elim
          (λ takes. absurd (no_some (at_name a.grafted name) (s.grafted.taken name takes).0 (some_is (at_name a.grafted name) n was)))
          (λ not. s.grafted.others name not ∙ was)
          (decide_some e.1.tree_id name))
          (λ same. (s.grafted.taken name (sym graft_here ∙ subst (λ x. graft_name m x ≡ Some name) (sym same) grafts)).1 ∙ ap Some same)
          (last_named n before)

      -- the first so many nodes have a tree of this name by f, and not by g
      abbrev Only : (FullNodeId → Option TreeId) → (FullNodeId → Option TreeId) → ℕ → TreeId → Type 0
      Only f g j name = (n : FullNodeId) × IsNamedBefore w u j n × (f n ≡ Some name) × (g n ≢ Some name)

      only_later : (f g : FullNodeId → Option TreeId) (name : TreeId) → Only f g k name → Only f g (k + 1) name
      only_later f g name h = (h.0, later_named k h.0 h.1, h.2, h.3)

      -- a list of these names gets that of the node, if it is one
      only_next : (f g : FullNodeId → Option TreeId) (xs ys : List TreeId) → ((name : TreeId) → Contains xs name ↔ Only f g k name)
          → ((f id ≡ g id) × (ys ≡ xs)) ⊎ ((f id ≢ g id) × (ys ≡ xs ++ option_to_list (f id))) → (name : TreeId) → Contains ys name ↔ Only f g (k + 1) name
      only_next f g xs ys before (inl one) name = (
        (λ c. only_later f g name ((before name).0 (subst (λ zs. Contains zs name) one.1 c))),
        (λ x. subst (λ zs. Contains zs name) (sym one.1) (⊎_elim
            (λ earlier. (before name).1 (x.0, earlier, x.2, x.3))
            (λ same. absurd (x.3 (subst (λ y. g y ≡ Some name) same (sym one.0 ∙ subst (λ y. f y ≡ Some name) (sym same) x.2))))
            (last_named x.0 x.1))),
      )
      only_next f g xs ys before (inr two) name = (
        (λ c. ⊎_elim
            (λ earlier. only_later f g name ((before name).0 earlier))
            (λ now. let is : f id ≡ Some name = in_option (f id) name now in (id, named_here, is, λ other. two.0 (is ∙ sym other)))
            (Contains-append_cases xs (option_to_list (f id)) name (subst (λ zs. Contains zs name) two.1 c))),
        (λ x. subst (λ zs. Contains zs name) (sym two.1) (⊎_elim
            (λ earlier. Contains-append_left xs (option_to_list (f id)) name ((before name).1 (x.0, earlier, x.2, x.3)))
            (λ same. Contains-append_right xs (option_to_list (f id)) name (option_has (f id) name (subst (λ y. f y ≡ Some name) (sym same) x.2)))
            (last_named x.0 x.1))),
      )

      lost_next : (name : TreeId) → Contains b.lost.items name ↔ Only (graft_name w) (graft_name m) (k + 1) name
      lost_next = only_next (graft_name w) (graft_name m) a.lost.items b.lost.items h.lost (go s.compares.regrafted)
        where
          go : ChangesGraft (graft_name w id) e.1.tree_id a b → ((graft_name w id ≡ graft_name m id) × (b.lost.items ≡ a.lost.items)) ⊎ ((graft_name w id ≢ graft_name m id) × (b.lost.items ≡ a.lost.items ++ option_to_list (graft_name w id)))
          go (inl f) = inl (f.0 ∙ sym graft_here, f.1)
          go (inr f) = inr (λ same. f.0 (same ∙ graft_here), f.1)

      gained_next : (name : TreeId) → Contains b.gained.items name ↔ Only (graft_name m) (graft_name w) (k + 1) name
      gained_next = only_next (graft_name m) (graft_name w) a.gained.items b.gained.items h.gained (go s.compares.regrafted)
        where
          go : ChangesGraft (graft_name w id) e.1.tree_id a b → ((graft_name m id ≡ graft_name w id) × (b.gained.items ≡ a.gained.items)) ⊎ ((graft_name m id ≢ graft_name w id) × (b.gained.items ≡ a.gained.items ++ option_to_list (graft_name m id)))
          go (inl f) = inl (graft_here ∙ sym f.0, f.2)
          go (inr f) = inr (λ same. f.0 (sym same ∙ graft_here), f.2 ∙ ap (λ x. a.gained.items ++ option_to_list x) (sym graft_here))

      lost_new : (v : TreeId) → graft_name w id ≡ Some v → Contains a.lost.items v → ⊥
      lost_new v was c = let f = (h.lost v).0 c in apart f.0 f.1 (o.grafted_once id f.0 v was f.2)

      gained_new : (v : TreeId) → e.1.tree_id ≡ Some v → Contains a.gained.items v → ⊥
      gained_new v is c = let f = (h.gained v).0 c in no_some (at_name a.grafted v) (s.grafted.taken v is).0 (some_is (at_name a.grafted v) f.0 ((h.grafted v f.0).1 (f.1, f.2)))

      abbrev Once : List TreeId → Type 0
      Once xs = AllPairs (λ a b. a ≢ b) xs

      lists_next : ChangesGraft (graft_name w id) e.1.tree_id a b → Once b.lost.items × Once b.gained.items × (length b.lost.items ≤ k + 1) × (length b.gained.items ≤ k + 1)
      lists_next (inl f) = (
        subst Once (sym f.1) h.lost_once,
        subst Once (sym f.2) h.gained_once,
        subst (λ xs. length xs ≤ k + 1) (sym f.1) (let le : length a.lost.items ≤ k = h.lost_count in omega arith),
        subst (λ xs. length xs ≤ k + 1) (sym f.2) (let le : length a.gained.items ≤ k = h.gained_count in omega arith),
      )
      lists_next (inr f) = (
        subst Once (sym f.1) (pushed_once a.lost.items (graft_name w id) lost_new h.lost_once),
        subst Once (sym f.2) (pushed_once a.gained.items e.1.tree_id gained_new h.gained_once),
        subst (λ xs. length xs ≤ k + 1) (sym f.1) (pushed_length a.lost.items (graft_name w id) k h.lost_count),
        subst (λ xs. length xs ≤ k + 1) (sym f.2) (pushed_length a.gained.items e.1.tree_id k h.gained_count),
      )

      pub compared_next : AreCompared w u (k + 1) b
      compared_next = record {
        ungrafting = λ n before is. ⊎_elim
            (λ earlier. h.ungrafting n earlier is)
            (λ same. s.grafted.ungrafting (sym graft_here ∙ subst (λ x. graft_name m x ≡ Some ROOT_NAME) (sym same) is))
            (last_named n before);
        childless = λ n name before is. ⊎_elim
            (λ earlier. h.childless n name earlier is)
            (λ same.
            let none : e.1.children ≡ [] = s.grafted.childless name (sym graft_here ∙ subst (λ x. graft_name m x ≡ Some name) (sym same) is) in
            subst (λ x. listed_ids m x ≡ []) same (lists_here ∙ ap (map (in_tree i)) none))
            (last_named n before);
        is_named = next_is_named;
        has_named = next_has_named;
        left = left_to;
        left_each = left_from;
        shifted = shifted_to;
        entered = λ c t. (entered_to c t, λ f. entered_from c t f.0 f.1);
        entered_apart = entered_apart;
        grafted = λ name n. (grafted_to name n, λ f. grafted_from name n f.0 f.1);
        lost = lost_next;
        gained = gained_next;
        lost_once = (lists_next s.compares.regrafted).0;
        gained_once = (lists_next s.compares.regrafted).1;
        named_count = s.compares.count_of ((h.has_named id).1 (named_is (k + 1) id named_here)) ∙ h.named_count;
        lost_count = (lists_next s.compares.regrafted).2;
        gained_count = (lists_next s.compares.regrafted).3;
      }

    -- what is wrong with the node is a fault that stands
    pub node_refused : (a : Comparing) → AreCompared w u k a → (f : UpdateError) → IsGraftFault id e.1 (at_name a.grafted) f → IsRefusal w u f
    node_refused a h error.Memory x = x
    node_refused a h (error.RootTreeGrafted n) x = subst (λ y. IsRefusal w u (error.RootTreeGrafted y)) x.0 (named_root_graft_stands w u o id (named_is (k + 1) id named_here) (graft_here ∙ x.1))
    node_refused a h (error.GraftWithChildren n) x =
        subst (λ y. IsRefusal w u (error.GraftWithChildren y)) x.0
        (named_children_stand w u o id x.1 (named_is (k + 1) id named_here) (graft_here ∙ x.2) (λ none. x.3 (map_nil (in_tree i) e.1.children (sym lists_here ∙ none))))
    node_refused a h (error.GraftedTwice name) x =
        let f = (h.grafted name x.1).0 x.2 in
        named_grafts_stand w u o id x.1 name (apart x.1 f.0) (named_is (k + 1) id named_here) (named_is k x.1 f.0) (graft_here ∙ x.0) f.1
    node_refused a h f x = absurd x

  -- ---- before the first entry
  module _ (opened : Opened) (op : HoldsOpened w u opened) (named : List (FullNodeId × Named)) (t : AreEntriesTaken opened.index u (length u.nodes) named) where
    pub named_once : AreNamedOnce u.nodes
    named_once j k n at_j at_k = t.once j k n (within j n at_j) (within k n at_k) at_j at_k
      where
        within : (j : ℕ) (n : NodeId) → named_at u j ≡ Some n → j < length u.nodes
        within j n at_j = subst (λ x. j < x) ids_length (slice_get_within (map (λ e. e.0) u.nodes) j n at_j)

    fused : (j : ℕ) (x : Option Tree) → option_map (in_tree j) (option_map (λ (t : Tree). t.root) x) ≡ option_map (λ (t : Tree). in_tree j t.root) x
    fused j None = refl
    fused j (Some x) = refl

    old_root : option_map (in_tree opened.index) opened.record.root ≡ root_of w i
    old_root =
        ap (λ j. option_map (in_tree j) opened.record.root) op.index
        ∙ ap (option_map (in_tree i)) (op.record_of.root ∙ ap (option_map (λ (t : Tree). t.root)) (sym (tree_is w o u.name)))
        ∙ fused i (get w.trees i)

    new_root : Some (in_tree opened.index opened.root) ≡ root_of m i
    new_root = sym op.root ∙ ap (root_of m) op.index

    module _ (c : Comparing) (b : BeginsComparing opened named c) where
      left_roots : Gathers (OnlyAt None (root_of w i) (root_of m i)) [] c.left
      left_roots = subst (λ x. Gathers (OnlyAt None (root_of w i) x) [] c.left) new_root (subst (λ x. Gathers (OnlyAt None x (Some (in_tree opened.index opened.root))) [] c.left) old_root b.left)

      entered_roots : Gathers (OnlyAt None (root_of m i) (root_of w i)) [] (spots_of c.entered)
      entered_roots = subst (λ x. Gathers (OnlyAt None x (root_of w i)) [] (spots_of c.entered)) new_root (subst (λ x. Gathers (OnlyAt None (Some (in_tree opened.index opened.root)) x) [] (spots_of c.entered)) old_root b.entered)

      -- what is the root of the one and not of the other
      root_only : (v v' : World) (x : FullNodeId) → root_of v i ≡ Some x → root_of v' i ≢ Some x → IsAt v None x × ¬ (IsAt v' None x)
      root_only v v' x is other = let tree : i ≡ x.tree = root_of-tree v i x is in (subst (λ j. root_of v j ≡ Some x) tree is, subst (λ j. root_of v' j ≢ Some x) tree other)

      root_first : (x : FullNodeId) (s : Seat) → Contains c.left (x, s) → Left w u s x × IsDone w u 0 s
      root_first x s is =
          let g = (left_roots.found x s).0 (subst (λ (xs : Spots). Contains xs (x, s)) left_roots.is is) in
          subst (λ y. Left w u y x × IsDone w u 0 y) (sym g.0) (root_only w m x g.1.0 g.1.1, tt)

      root_last : (x : FullNodeId) (s : Seat) → Left w u s x → IsDone w u 0 s → Contains c.left (x, s)
      root_last x (Some p) l done = absurd (none_named p.0 done)
      root_last x None l done =
          let tree : x.tree ≡ i = left_tree w u None x l in
          subst (λ (xs : Spots). Contains xs (x, None)) (sym left_roots.is) ((left_roots.found x None).1 (refl, (subst (λ j. root_of w j ≡ Some x) tree l.0, subst (λ j. root_of m j ≢ Some x) tree l.1)))

      root_first_entered : (x : FullNodeId) (s : Seat) → Contains (spots_of c.entered) (x, s) → Entered w u s x × IsDone w u 0 s
      root_first_entered x s is =
          let g = (entered_roots.found x s).0 (subst (λ (xs : Spots). Contains xs (x, s)) entered_roots.is is) in
          subst (λ y. Entered w u y x × IsDone w u 0 y) (sym g.0) (root_only m w x g.1.0 g.1.1, tt)

      root_last_entered : (x : FullNodeId) (s : Seat) → Entered w u s x → IsDone w u 0 s → Contains (spots_of c.entered) (x, s)
      root_last_entered x (Some p) l done = absurd (none_named p.0 done)
      root_last_entered x None l done =
          let tree : x.tree ≡ i = entered_tree w u None x l in
          subst (λ (xs : Spots). Contains xs (x, None)) (sym entered_roots.is) ((entered_roots.found x None).1 (refl, (subst (λ j. root_of m j ≡ Some x) tree l.0, subst (λ j. root_of w j ≢ Some x) tree l.1)))

      none_grafted : (name : TreeId) (n : FullNodeId) → at_name c.grafted name ≢ Some n
      none_grafted name n is = no_some (at_name c.grafted name) (ap (lookup (is_at (name_cmp name))) b.grafted) (some_is (at_name c.grafted name) n is)

      none_in : (xs : List TreeId) → xs ≡ [] → (name : TreeId) → ¬ (Contains xs name)
      none_in xs none name x = let lt : x.0 < length xs = x.1 in let z : length xs ≡ 0 = ap length none in omega arith

      once_in : (xs : List TreeId) → xs ≡ [] → AllPairs (λ a b. a ≢ b) xs
      once_in xs none = λ j k d lt fits. absurd (let f : k < length xs = fits in let z : length xs ≡ 0 = ap length none in omega arith)

      pub compared_none : AreCompared w u 0 c
      compared_none = record {
        ungrafting = λ n before. absurd (none_named n before);
        childless = λ n name before. absurd (none_named n before);
        is_named = λ id n before. absurd (none_named id before);
        has_named = λ id. (
          (λ there. (all_named id).0 (subst (λ j. (id.tree ≡ j) × (k : ℕ) × (k < length u.nodes) × (named_at u k ≡ Some id.node)) op.index ((t.has id).0 (subst (λ x. IsSome (at x id)) b.named_is there)))),
          (λ n. let f = (all_named id).1 n in subst (λ x. IsSome (at x id)) (sym b.named_is) ((t.has id).1 (f.0 ∙ sym op.index, f.1, f.2, f.3))),
        );
        left = λ x s is. (root_first x s is).0;
        left_each = λ x s l done. inl (root_last x s l done);
        shifted = λ x y is t. absurd (contains_none (x, y) (b.plain x y is t));
        entered = λ x s. (root_first_entered x s, λ f. root_last_entered x s f.0 f.1);
        entered_apart = subst AreApart (sym entered_roots.is) entered_roots.once;
        grafted = λ name n. ((λ is. absurd (none_grafted name n is)), λ f. absurd (none_named n f.0));
        lost = λ name. ((λ x. absurd (none_in c.lost.items b.lost name x)), λ f. absurd (none_named f.0 f.1));
        gained = λ name. ((λ x. absurd (none_in c.gained.items b.gained name x)), λ f. absurd (none_named f.0 f.1));
        lost_once = once_in c.lost.items b.lost;
        gained_once = once_in c.gained.items b.gained;
        named_count = ap (λ (x : List (FullNodeId × Named)). length x) b.named_is ∙ t.count_of;
        lost_count = subst (λ xs. length xs ≤ 0) (sym b.lost) (omega arith);
        gained_count = subst (λ xs. length xs ≤ 0) (sym b.gained) (omega arith);
      }

  -- ---- after the last entry
  module _ (a : Comparing) (h : AreCompared w u (length u.nodes) a) where
    done_left : (s : Seat) (x : FullNodeId) → Left w u s x → IsDone w u (length u.nodes) s
    done_left None x l = tt
    done_left (Some p) x l = (all_named p.0).1 (leaver_named w u p x l.0 l.1)

    done_entered : (s : Seat) (x : FullNodeId) → Entered w u s x → IsDone w u (length u.nodes) s
    done_entered None x l = tt
    done_entered (Some p) x l = (all_named p.0).1 (lister_named w u p x l.0 l.1)

    -- what entered twice is listed twice
    pub twice_refused : (e : UpdateError) → IsEnteredTwice a e → IsRefusal w u e
    twice_refused (error.ListedTwice n) x =
        let t = x.2 in
        let f = value_at a.entered t.0 x.0 t.3 in
        let g = value_at a.entered t.1 x.0 t.4 in
        let d : FullNodeId × Seat = (x.0, f.0.spot) in
        let e : FullNodeId × Seat = (x.0, g.0.spot) in
        let at_f = spot_at a.entered t.0 x.0 f.0 f.1 in
        let at_g = spot_at a.entered t.1 x.0 g.0 g.1 in
        let first : get_or (spots_of a.entered) t.0 d ≡ d = get_or_from_slice_get (spots_of a.entered) t.0 d d at_f in
        let second : get_or (spots_of a.entered) t.1 d ≡ e = get_or_from_slice_get (spots_of a.entered) t.1 e d at_g in
        let ne : f.0.spot ≢ g.0.spot = λ same. h.entered_apart t.0 t.1 d t.2 (slice_get_within (spots_of a.entered) t.1 e at_g) (ap (λ (y : FullNodeId × Seat). y.1) first ∙ same ∙ sym (ap (λ (y : FullNodeId × Seat). y.1) second)) in
        subst (λ y. IsRefusal w u (error.ListedTwice y)) x.1
        (entered_twice_stands w u o f.0.spot g.0.spot x.0 ne ((h.entered x.0 f.0.spot).0 (contains_at (spots_of a.entered) t.0 d at_f)).0 ((h.entered x.0 g.0.spot).0 (contains_at (spots_of a.entered) t.1 e at_g)).0)
    twice_refused e x = absurd x

    module _ (opened : IsOpened w u) (once : AreNamedOnce u.nodes) (c : Compared) (l : SettlesLists a c) where
      left_here : (id : FullNodeId) (s : Seat) → at c.left id ≡ Some s → Left w u s id
      left_here id s is = h.left id s (l.left_found id s is)

      left_all : (id : FullNodeId) (s : Seat) → Left w u s id → (at c.left id ≡ Some s) ⊎ IsShifted c id
      left_all id s was = ⊎_elim
          (λ there.
          let f = value_of (at c.left id) (l.left_each id s there) in
          inl (f.1 ∙ ap Some (spot_once w u o f.0 s id (left_here id f.0 f.1).0 was.0)))
          (λ x. inr (x.0, (l.entered id x.0).1 x.1, x.2))
          (h.left_each id s was (done_left s id was))

      entered_here : (id : FullNodeId) (s : Seat) → (entered_at c id ≡ Some s) ↔ Entered w u s id
      entered_here id s = (
        (λ is.
            let x = map_some (λ (y : Arrival). y.spot) (at c.entered id) s is in
            subst (λ t. Entered w u t id) x.2 ((h.entered id x.0.spot).0 (in_spots a.entered id x.0 ((l.entered id x.0).0 x.1))).0),
        (λ is.
            let x = of_spot a.entered id s ((h.entered id s).1 (is, done_entered s id is)) in
            ap (option_map (λ (y : Arrival). y.spot)) ((l.entered id x.0).1 x.1) ∙ ap Some x.2),
      )

      named_here' : (id : FullNodeId) (n : Named) → at c.named id ≡ Some n → at a.named id ≡ Some n
      named_here' id n = subst (λ xs. at xs id ≡ Some n) l.named

      pub compared_all : HoldsCompared w u c
      compared_all = record {
        compared = record {
          opened = opened;
          named_once = once;
          named_ungrafting = λ n named. h.ungrafting n ((all_named n).1 named);
          named_childless = λ n name named. h.childless n name ((all_named n).1 named);
          named_apart = λ n k name x y f g. same_Some n k (sym ((h.grafted name n).1 ((all_named n).1 x, f)) ∙ (h.grafted name k).1 ((all_named k).1 y, g));
          entered_once = λ s t x f g. same_Some s t (sym ((entered_here x s).1 f) ∙ (entered_here x t).1 g);
        };
        is_named = λ id n is. let there = named_here' id n is in h.is_named id n ((all_named id).1 ((h.has_named id).0 (some_is (at a.named id) n there))) there;
        has_named = λ id named. subst (λ xs. IsSome (at xs id)) (sym l.named) ((h.has_named id).1 named);
        left = left_here;
        left_each = left_all;
        entered = entered_here;
        shifted = λ id x is. h.shifted id x ((l.entered id x).0 is);
        grafted = λ name n. subst (λ x. (at_name x name ≡ Some n) ↔ (IsNamed w u n × (graft_name m n ≡ Some name))) (sym l.grafted)
            ((λ is. let f = (h.grafted name n).0 is in ((all_named n).0 f.0, f.1)), λ f. (h.grafted name n).1 ((all_named n).1 f.0, f.1));
        lost = λ name. subst (λ x. Contains x.items name ↔ LosesGraft w u name) (sym l.lost)
            ((λ x. let f = (h.lost name).0 x in (f.0, (all_named f.0).0 f.1, f.2, f.3)), λ f. (h.lost name).1 (f.0, (all_named f.0).1 f.1, f.2, f.3));
        gained = λ name. subst (λ x. Contains x.items name ↔ ((n : FullNodeId) × GainsGraft w u n name)) (sym l.gained)
            ((λ x. let f = (h.gained name).0 x in (f.0, ((all_named f.0).0 f.1, f.2, f.3))), λ f. (h.gained name).1 (f.0, (all_named f.0).1 f.1.0, f.1.1, f.1.2));
        lost_once = subst (λ x. AllPairs (λ a b. a ≢ b) x.items) (sym l.lost) h.lost_once;
        gained_once = subst (λ x. AllPairs (λ a b. a ≢ b) x.items) (sym l.gained) h.gained_once;
        named_count = subst (λ xs. length xs ≡ length u.nodes) (sym l.named) h.named_count;
        lost_count = subst (λ x. length x.items ≤ length u.nodes) (sym l.lost) h.lost_count;
        gained_count = subst (λ x. length x.items ≤ length u.nodes) (sym l.gained) h.gained_count;
      }

-- ---- a turn of the loop over the entries

module _ {w : World} {u : UpdateData} {k : ℕ} {e : NodeId × NodeData} {id : FullNodeId} (o : IsOld w) (once : AreNamedOnce u.nodes) (turn : IsTurn w u k e id) (a : Comparing) (h : AreCompared w u k a) where
  pub turn_known : IsSome (at a.named id)
  turn_known = subst (λ (x : FullNodeId). IsSome (at a.named x)) (sym turn.names) (named_known w u o once k e turn.at a h)

  pub turn_compared : (v : World) → v ≡ w → (b : Comparing) → ComparesNode v id k e.1 a b → AreCompared w u (k + 1) b
  turn_compared v same b step = compared_next w u o once k e turn.at a b h
      (subst (λ (x : FullNodeId). ComparesNode w x k e.1 a b) turn.names (subst (λ (x : World). ComparesNode x id k e.1 a b) same step))

  pub turn_refused : (f : UpdateError) → IsGraftFault id e.1 (at_name a.grafted) f → IsRefusal w u f
  turn_refused f fault = node_refused w u o once k e turn.at a h f (subst (λ (x : FullNodeId). IsGraftFault x e.1 (at_name a.grafted) f) turn.names fault)
