-- What one walk over the nodes of an update writes.
use Rattle.std.proofs.Common.{◌≡◌, ℕ, ◌+◌, ◌<◌, ◌≤◌, List, [], ◌∷◌, ◌++◌, map, length, Contains, Option, Some, None, option_map, Bool, true, false, cond, inl, inr, refl, sym, ap, ◌∙◌, subst, arith, get_or}
use Rattle.std.specs.Prelude.{is_some, IsSome, option_to_list, ◌||◌, if◌then◌else◌}
use Rattle.std.specs.List.{flat_map, list_any}
use Rattle.std.specs.Map.{keys_of}
use Rattle.std.specs.BTreeMap.{keys, is_at}
use Rattle.std.proofs.lemmas.Grind.{flat_map-append}
use Rattle.std.proofs.lemmas.List.{append-nil, map-append, get_or_default}
use Rattle.values_by_id.specs.Rows.{Ascends}
use Rattle.std.specs.Borrow.{Bor}
use Rattle.std.specs.Map.Iter.{deref}
use Rattle.std.specs.List.Sorted.{IsStrictlySortedBy}
use Rattle.model.specs.declared.FullNodeId.{FullNodeId}
use Rattle.model.specs.FullIds.{full_cmp}
use Rattle.model.proofs.Members.{contains_none, contains_head}
use Rattle.model.specs.declared.events.PlanEvent.{PlanEvent}
use Rattle.model.specs.declared.events.PlanEvent.TheVariants as event
use Rattle.tree_changes.specs.declared.decision.NodeChange.{NodeChange}
use Rattle.tree_plan.specs.declared.passes.Arrival.{Arrival}
use Rattle.tree_plan.specs.declared.passes.Named.{Named}
use Rattle.tree_plan.specs.declared.verdicts.Found.{Found}
use Rattle.tree_plan.specs.declared.verdicts.Verdict.{Verdict}
use Rattle.tree_plan.specs.declared.verdicts.Verdict.TheVariants.{Added, Renewed, Moved, Told, Removed}
use Rattle.tree_plan.specs.declared.passes.Focused.{Focused}
use Rattle.tree_plan.specs.declared.walking.Rows.{Rows}
use Rattle.tree_plan.specs.declared.walking.Walked.{Walked}
use Rattle.tree_plan.specs.declared.walking.Written.{Written}
use Rattle.tree_plan.specs.declared.writing.Group.{Group}
use Rattle.tree_plan.specs.declared.writing.Group.TheVariants as group
use Rattle.tree_plan.specs.Passes.{at}
use Rattle.tree_plan.specs.Verdicts.{Transition, IsFound, Becomes, Verdicts, Adds}
use Rattle.tree_plan.specs.Writing.{change_of, change_entry, group_of, event_in, event_of, told_of, untold_updates, IsMove, AreEvents, AreEventsOf}
use Rattle.tree_plan.specs.Walking.{id_in, ids_in, Tells, TellsOf, Writes, AreJudged, Walks, WritesAll, IsWalkOf}
use Rattle.tree_plan.proofs.Adding.{adds_none, adds_one, adds_both, adds_nothing, has_entry, all_judged}
use Rattle.tree_plan.proofs.IdMaps.{done_step, done_all}

-- a verdict changes its node, unless it only reports it
changes_or_told : (v : Verdict) → ((v ≡ Told) → ⊥) → IsSome (change_of v)
changes_or_told (Added place entry) other = refl
changes_or_told (Renewed place entry) other = refl
changes_or_told (Moved place) other = refl
changes_or_told Told other = absurd (other refl)
changes_or_told Removed other = refl

key_one : (id : FullNodeId) (o : Option NodeChange) → IsSome o → keys_of (option_to_list (option_map (λ c. (id, c)) o)) ≡ id ∷ []
key_one id (Some c) there = refl
key_one id None there = cc

-- one more verdict
pub tells_more : (vs : Verdicts) (id : FullNodeId) (v : Verdict) (nodes nodes' : List (FullNodeId × NodeChange)) (a b c a' b' c' : List FullNodeId) → Tells vs nodes a b c → IsSome (change_of v)
    → nodes' ≡ nodes ++ change_entry (id, v) → a' ≡ a ++ id_in group.Added (group_of v) id → b' ≡ b ++ id_in group.Updated (group_of v) id → c' ≡ c ++ id_in group.Removed (group_of v) id
    → Tells (vs ++ (id, v) ∷ []) nodes' a' b' c'
tells_more vs id v nodes nodes' a b c a' b' c' t there n x y z = record {
  nodes_are = n ∙ ap (λ l. l ++ change_entry (id, v)) t.nodes_are ∙ ap (λ l. flat_map change_entry vs ++ l) (sym (append-nil (change_entry (id, v)))) ∙ sym (flat_map-append change_entry vs ((id, v) ∷ []));
  each_changes = ap keys_of n ∙ map-append (λ e. e.0) nodes (change_entry (id, v)) ∙ ap (λ l. keys_of nodes ++ l) (key_one id (change_of v) there) ∙ ap (λ l. l ++ id ∷ []) t.each_changes ∙ sym (map-append (λ e. e.0) vs ((id, v) ∷ []));
  added_are = x ∙ ap (λ l. l ++ id_in group.Added (group_of v) id) t.added_are ∙ more group.Added;
  updated_are = y ∙ ap (λ l. l ++ id_in group.Updated (group_of v) id) t.updated_are ∙ more group.Updated;
  removed_are = z ∙ ap (λ l. l ++ id_in group.Removed (group_of v) id) t.removed_are ∙ more group.Removed;
}
  where
    more : (g : Group) → ids_in g vs ++ id_in g (group_of v) id ≡ ids_in g (vs ++ (id, v) ∷ [])
    more g = ap (λ l. ids_in g vs ++ l) (sym (append-nil (id_in g (group_of v) id))) ∙ sym (flat_map-append (λ (e : FullNodeId × Verdict). id_in g (group_of e.1) e.0) vs ((id, v) ∷ []))

module _ (s : Transition) (f : Found) (h : IsFound s f) where
  -- a verdict that only reports a node is on the told one
  not_told : f.told ≡ None → (id : FullNodeId) (v : Verdict) → Becomes s id (Some v) → v ≡ Told → ⊥
  not_told untold id v is told =
      let b : Becomes s id (Some Told) = subst (λ x. Becomes s id (Some x)) told is in
      let e : None ≡ Some id = sym untold ∙ h.told ∙ b.2 in cc

  pub writes_one : f.told ≡ None → (id : FullNodeId) (v : Verdict) (w w' : Written) → Becomes s id (Some v)
      → w'.nodes ≡ w.nodes ++ change_entry (id, v) → w'.added.items ≡ w.added.items ++ id_in group.Added (group_of v) id → w'.updated.items ≡ w.updated.items ++ id_in group.Updated (group_of v) id → w'.removed.items ≡ w.removed.items ++ id_in group.Removed (group_of v) id
      → Writes s (id ∷ []) w w'
  writes_one untold id v w w' is n x y z vs t sound = (
    vs ++ (id, v) ∷ [],
    tells_more vs id v w.nodes w'.nodes w.added.items w.updated.items w.removed.items w'.added.items w'.updated.items w'.removed.items t (changes_or_told v (not_told untold id v is)) n x y z,
    adds_one s vs (vs ++ (id, v) ∷ []) id v sound is refl,
  )

  pub writes_none : (id : FullNodeId) (w : Written) → Becomes s id None → Writes s (id ∷ []) w w
  writes_none id w is vs t sound = (vs, t, adds_none s vs id sound is)

  -- ---- rows

  judged_kept : {X : Type 0} (es : List (FullNodeId × X)) (n : ℕ) (vs ws : Verdicts) → ((id : FullNodeId) → Becomes s id (at vs id) → Becomes s id (at ws id)) → AreJudged s vs es n → AreJudged s ws es n
  judged_kept es n vs ws kept done k e lt is = kept e.0 (done k e lt is)

  pub walks_nothing : (rows : Rows) (w : Written) → Walks s f [] rows rows w w
  walks_nothing rows w vs t sound named entered = (vs, record { tells = t; adds = adds_nothing s vs sound; named = named; entered = entered })

  -- one after another
  pub walks_on : (xs ys : List FullNodeId) (a b c : Rows) (w w' w'' : Written) → Walks s f xs a b w w' → Walks s f ys b c w' w'' → Walks s f (xs ++ ys) a c w w''
  walks_on xs ys a b c w w' w'' x y vs t sound named entered =
      let r = x vs t sound named entered in
      let q = y r.0 r.1.tells r.1.adds.sound r.1.named r.1.entered in
      (q.0, record { tells = q.1.tells; adds = adds_both s xs ys vs r.0 q.0 r.1.adds q.1.adds; named = q.1.named; entered = q.1.entered })

  pub walks_one : (ids : List FullNodeId) (rows : Rows) (w w' : Written) → Writes s ids w w' → Walks s f ids rows rows w w'
  walks_one ids rows w w' x vs t sound named entered =
      let r = x vs t sound in
      (r.0, record { tells = r.1; adds = r.2; named = judged_kept f.compared.named rows.named vs r.0 r.2.kept named; entered = judged_kept f.compared.entered rows.entered vs r.0 r.2.kept entered })

  forget : (ids : List FullNodeId) (vs ws : Verdicts) → Adds s ids vs ws → Adds s [] vs ws
  forget ids vs ws a = record { sound = a.sound; judged = λ id c. absurd (contains_none id c); kept = a.kept }

  pub walks_forget : (ids : List FullNodeId) (a b : Rows) (w w' : Written) → Walks s f ids a b w w' → Walks s f [] a b w w'
  walks_forget ids a b w w' x vs t sound named entered =
      let r = x vs t sound named entered in
      (r.0, record { tells = r.1.tells; adds = forget ids vs r.0 r.1.adds; named = r.1.named; entered = r.1.entered })

  -- one row more is done
  next_named : (ids : List FullNodeId) (a : Rows) (k e : ℕ) (w w' : Written) (xs : List (FullNodeId × Named)) → xs ≡ f.compared.named → (x : FullNodeId × Named) → x ≡ get_or xs k x → k < length xs → Contains ids x.0
      → Walks s f ids a (record { named = k; entered = e }) w w' → Walks s f ids a (record { named = k + 1; entered = e }) w w'
  next_named ids a k e w w' xs all x is inside among walk vs t sound named entered =
      let r = walk vs t sound named entered in (
        r.0,
        record {
          tells = r.1.tells;
          adds = r.1.adds;
          named = done_step f.compared.named (λ id y. Becomes s id (at r.0 id)) xs all k x inside r.1.named (subst (λ (y : FullNodeId × Named). Becomes s y.0 (at r.0 y.0)) is (r.1.adds.judged x.0 among));
          entered = r.1.entered;
        },
      )

  next_entered : (ids : List FullNodeId) (a : Rows) (n k : ℕ) (w w' : Written) (xs : List (FullNodeId × Arrival)) → xs ≡ f.compared.entered → (x : FullNodeId × Arrival) → x ≡ get_or xs k x → k < length xs → Contains ids x.0
      → Walks s f ids a (record { named = n; entered = k }) w w' → Walks s f ids a (record { named = n; entered = k + 1 }) w w'
  next_entered ids a n k w w' xs all x is inside among walk vs t sound named entered =
      let r = walk vs t sound named entered in (
        r.0,
        record {
          tells = r.1.tells;
          adds = r.1.adds;
          named = r.1.named;
          entered = done_step f.compared.entered (λ id y. Becomes s id (at r.0 id)) xs all k x inside r.1.entered (subst (λ (y : FullNodeId × Arrival). Becomes s y.0 (at r.0 y.0)) is (r.1.adds.judged x.0 among));
        },
      )

  -- a row of the update's nodes
  pub row_named : (a : Rows) (k e : ℕ) (w0 w1 w2 : Written) (xs : List (FullNodeId × Named)) → xs ≡ f.compared.named → (d : FullNodeId × Named) → k < length xs
      → Walks s f [] a (record { named = k; entered = e }) w0 w1 → Writes s ((get_or xs k d).0 ∷ []) w1 w2 → Walks s f [] a (record { named = k + 1; entered = e }) w0 w2
  row_named a k e w0 w1 w2 xs all d inside walk one =
      let x : FullNodeId × Named = get_or xs k d in
      let is : x ≡ get_or xs k x = get_or_default xs k d x inside in
      walks_on [] [] a (record { named = k; entered = e }) (record { named = k + 1; entered = e }) w0 w1 w2 walk
      (walks_forget (x.0 ∷ []) (record { named = k; entered = e }) (record { named = k + 1; entered = e }) w1 w2
      (next_named (x.0 ∷ []) (record { named = k; entered = e }) k e w1 w2 xs all x is inside (contains_head x.0 x.0 [] refl) (walks_one (x.0 ∷ []) (record { named = k; entered = e }) w1 w2 one)))

  -- a node that entered a spot and is the next of the update's nodes
  pub row_both : (id : FullNodeId) (k e : ℕ) (w0 w1 : Written) (xs : List (FullNodeId × Named)) → xs ≡ f.compared.named → (d : FullNodeId × Named) → k < length xs → (get_or xs k d).0 ≡ id
      → Writes s (id ∷ []) w0 w1 → Walks s f (id ∷ []) (record { named = k; entered = e }) (record { named = k + 1; entered = e }) w0 w1
  row_both id k e w0 w1 xs all d inside same one =
      let x : FullNodeId × Named = get_or xs k d in
      let is : x ≡ get_or xs k x = get_or_default xs k d x inside in
      next_named (id ∷ []) (record { named = k; entered = e }) k e w0 w1 xs all x is inside (contains_head id x.0 [] (sym same)) (walks_one (id ∷ []) (record { named = k; entered = e }) w0 w1 one)

  -- a row of those that entered a spot
  pub row_entered : (a : Rows) (k n n' n'' : ℕ) (w0 w1 w2 w3 : Written) (xs : List (FullNodeId × Arrival)) → xs ≡ f.compared.entered → (d : FullNodeId × Arrival) → k < length xs
      → Walks s f [] a (record { named = n; entered = k }) w0 w1 → Walks s f [] (record { named = n; entered = k }) (record { named = n'; entered = k }) w1 w2 → Walks s f ((get_or xs k d).0 ∷ []) (record { named = n'; entered = k }) (record { named = n''; entered = k }) w2 w3
      → Walks s f [] a (record { named = n''; entered = k + 1 }) w0 w3
  row_entered a k n n' n'' w0 w1 w2 w3 xs all d inside before between here =
      let x : FullNodeId × Arrival = get_or xs k d in
      let is : x ≡ get_or xs k x = get_or_default xs k d x inside in
      walks_on [] [] a (record { named = n; entered = k }) (record { named = n''; entered = k + 1 }) w0 w1 w3 before
      (walks_on [] [] (record { named = n; entered = k }) (record { named = n'; entered = k }) (record { named = n''; entered = k + 1 }) w1 w2 w3 between
      (walks_forget (x.0 ∷ []) (record { named = n'; entered = k }) (record { named = n''; entered = k + 1 }) w2 w3
      (next_entered (x.0 ∷ []) (record { named = n'; entered = k }) n'' k w2 w3 xs all x is inside (contains_head x.0 x.0 [] refl) here)))

  -- no more rows than there are are done
  fewer : {X : Type 0} (es : List (FullNodeId × X)) (vs : Verdicts) (m n : ℕ) → n ≤ m → AreJudged s vs es m → AreJudged s vs es n
  fewer es vs m n le done k e lt is = done k e (omega arith) is

  pub up_to_named : (ids : List FullNodeId) (a : Rows) (m n e : ℕ) (w w' : Written) → n ≤ m → Walks s f ids a (record { named = m; entered = e }) w w' → Walks s f ids a (record { named = n; entered = e }) w w'
  up_to_named ids a m n e w w' le x vs t sound named entered =
      let r = x vs t sound named entered in
      (r.0, record { tells = r.1.tells; adds = r.1.adds; named = fewer f.compared.named r.0 m n le r.1.named; entered = r.1.entered })

  pub up_to_entered : (ids : List FullNodeId) (a : Rows) (k m n : ℕ) (w w' : Written) → n ≤ m → Walks s f ids a (record { named = k; entered = m }) w w' → Walks s f ids a (record { named = k; entered = n }) w w'
  up_to_entered ids a k m n w w' le x vs t sound named entered =
      let r = x vs t sound named entered in
      (r.0, record { tells = r.1.tells; adds = r.1.adds; named = r.1.named; entered = fewer f.compared.entered r.0 m n le r.1.entered })

  -- the next of the nodes that are removed
  pub next_gone : (xs : List (Bor FullNodeId)) (x : Bor FullNodeId) (a b c : Rows) (w0 w1 w2 w3 : Written) → Walks s f (map deref xs) a b w0 w1 → Walks s f [] b c w1 w2 → Walks s f (x.now ∷ []) c c w2 w3 → Walks s f (map deref (xs ++ x ∷ [])) a c w0 w3
  next_gone xs x a b c w0 w1 w2 w3 before between here =
      subst (λ l. Walks s f l a c w0 w3) (sym (map-append deref xs (x ∷ [])))
      (walks_on (map deref xs) (x.now ∷ []) a b c w0 w1 w3 before (walks_on [] (x.now ∷ []) b c c w1 w2 w3 between here))

  none_done : {X : Type 0} (es : List (FullNodeId × X)) (vs : Verdicts) → AreJudged s vs es 0
  none_done es vs k e lt is = absurd (omega (arith, lt))

  -- all of them are done
  judged_all : {X : Type 0} (es : List (FullNodeId × X)) (vs : Verdicts) (n : ℕ) → length es ≤ n → AreJudged s vs es n → (id : FullNodeId) → Contains (keys_of es) id → Becomes s id (at vs id)
  judged_all es vs n le done id c = let e = has_entry es id c in done_all es (λ q x. Becomes s q (at vs q)) n le done id e.0 e.1

  pub writes_all : (ids : List FullNodeId) (b c : Rows) (w w' w'' : Written) → f.told ≡ None → keys f.regrafted.moved_in ≡ [] → TellsOf [] w → ids ≡ f.removed.gone.keys
      → Walks s f ids (record { named = 0; entered = 0 }) b w w' → Walks s f [] b c w' w'' → length f.compared.named ≤ c.named → length f.compared.entered ≤ c.entered → WritesAll s w''
  writes_all ids b c w w' w'' untold unmoved empty are x y n e =
      let r = walks_on ids [] (record { named = 0; entered = 0 }) b c w w' w'' x y [] empty (λ id v there. absurd (contains_none (id, v) there)) (none_done f.compared.named []) (none_done f.compared.entered []) in (
        r.0,
        r.1.tells,
        all_judged s f h r.0 r.1.adds.sound
            (judged_all f.compared.named r.0 c.named n r.1.named)
            (judged_all f.compared.entered r.0 c.entered e r.1.entered)
            (λ id there. absurd (contains_none id (subst (λ l. Contains l id) unmoved there)))
            (λ id there. r.1.adds.judged id (subst (λ l. Contains l id) (sym (append-nil ids ∙ are)) there))
            (λ id told. let clash : None ≡ Some id = sym untold ∙ told in cc),
      )

-- verdicts in the order of their changes
pub ascends_as : (vs : Verdicts) (nodes : List (FullNodeId × NodeChange)) → keys_of nodes ≡ keys_of vs → Ascends nodes → Ascends vs
ascends_as vs nodes same up = subst (IsStrictlySortedBy full_cmp) same up

-- ---- events

known : {X : Type 0} (xs : List (FullNodeId × X)) (id : FullNodeId) → is_some (at xs id) ≡ list_any (is_at (full_cmp id)) (keys_of xs)
known [] id = refl
known {X} (x ∷ xs) id = go (is_at (full_cmp id) x.0) (known xs id)
  where
    go : (b : Bool) → is_some (at xs id) ≡ list_any (is_at (full_cmp id)) (keys_of xs) → is_some (cond b (Some x.1) (at xs id)) ≡ (b || list_any (is_at (full_cmp id)) (keys_of xs))
    go true later = refl
    go false later = later

-- lists with the same ids have entries at the same ones
same_known : {X Y : Type 0} (xs : List (FullNodeId × X)) (ys : List (FullNodeId × Y)) → keys_of xs ≡ keys_of ys → (id : FullNodeId) → is_some (at xs id) ≡ is_some (at ys id)
same_known xs ys same id = known xs id ∙ ap (list_any (is_at (full_cmp id))) same ∙ sym (known ys id)

told_one : (g own : Group) (id : FullNodeId) → map (event_of g) (id_in g own id) ≡ event_in own g id
told_one group.Added group.Added id = refl
told_one group.Updated group.Updated id = refl
told_one group.Removed group.Removed id = refl
told_one group.Added group.Updated id = refl
told_one group.Added group.Removed id = refl
told_one group.Updated group.Added id = refl
told_one group.Updated group.Removed id = refl
told_one group.Removed group.Added id = refl
told_one group.Removed group.Updated id = refl

told_ids : (g : Group) (vs : Verdicts) → map (event_of g) (ids_in g vs) ≡ flat_map (told_of g) vs
told_ids g [] = refl
told_ids g (v ∷ vs) = map-append (event_of g) (id_in g (group_of v.1) v.0) (ids_in g vs) ∙ ap (λ l. l ++ map (event_of g) (ids_in g vs)) (told_one g (group_of v.1) v.0) ∙ ap (λ l. event_in (group_of v.1) g v.0 ++ l) (told_ids g vs)

-- what is told of a moved focus depends on which nodes change
same_untold : {X Y : Type 0} (xs : List (FullNodeId × X)) (ys : List (FullNodeId × Y)) → keys_of xs ≡ keys_of ys → (focus : Option FullNodeId) → untold_updates (at xs) focus ≡ untold_updates (at ys) focus
same_untold xs ys same None = refl
same_untold xs ys same (Some id) = ap (λ (b : Bool). if b then [] else event.Updated id ∷ []) (same_known xs ys same id)

same_move : {X Y : Type 0} (xs : List (FullNodeId × X)) (ys : List (FullNodeId × Y)) → keys_of xs ≡ keys_of ys → (before after : Option FullNodeId) (events : List PlanEvent) → IsMove (at xs) before after events → IsMove (at ys) before after events
same_move xs ys same before after events (inl h) = inl h
same_move xs ys same before after events (inr h) =
    inr (h.0, h.1 ∙ ap (λ l. l ++ untold_updates (at xs) after ++ event.FocusMoved before after ∷ []) (same_untold xs ys same before) ∙ ap (λ l. untold_updates (at ys) before ++ l ++ event.FocusMoved before after ∷ []) (same_untold xs ys same after))

-- the events of a walk are those of its verdicts
pub events_walked : (s : Transition) (vs : Verdicts) (w : Walked) (focused : Focused) (events : List PlanEvent) → IsWalkOf s vs w → AreEventsOf w focused events → AreEvents vs focused events
events_walked s vs w focused events is are = record {
  moved = are.moved;
  is_move = same_move w.nodes vs is.tells.each_changes focused.before focused.after are.moved are.is_move;
  all = are.all ∙ (λ i. told group.Added w.added.items is.tells.added_are i ++ told group.Updated w.updated.items is.tells.updated_are i ++ are.moved ++ told group.Removed w.removed.items is.tells.removed_are i);
}
  where
    told : (g : Group) (ids : List FullNodeId) → ids ≡ ids_in g vs → map (event_of g) ids ≡ flat_map (told_of g) vs
    told g ids same = ap (map (event_of g)) same ∙ told_ids g vs
