-- What is left to write after the first of some changes is written.
use Rattle.std.proofs.Common.{◌≡◌, ◌≢◌, ℕ, zero, suc, ◌+◌, ◌<◌, get_or, length, List, [], ◌∷◌, drop, Bool, true, false, cond, Option, Some, None, refl, sym, ap, subst, ◌∙◌, arith}
use Rattle.std.specs.Prelude.{◌||◌, is_some, IsSome, IfSome, All, slice_get}
use Rattle.std.specs.Option.{option_map}
use Rattle.std.specs.BTreeMap.{is_at}
use Rattle.std.proofs.Math.Seq.{drop-cons}
use Rattle.std.specs.Cmp.{eq_by_cmp_equiv}
use Rattle.std.proofs.lemmas.List.Elements.{All-head}
use Rattle.std.specs.List.{AllByRecursion}
use Rattle.std.specs.List.Sorted.{IsStrictlySortedBy}
use Rattle.std.specs.Map.{keys_of}
use Rattle.std.specs.Ordering.{is_eq}
use Rattle.std.specs.declared.cmp.Ordering.TheVariants.{Less}
use Rattle.schema.specs.NodeData.{NodeData}
use Rattle.schema.specs.declared.NodeId.{NodeId}
use Rattle.model.specs.declared.FullNodeId.{FullNodeId}
use Rattle.model.specs.FullIds.{full_cmp, full_total}
use Rattle.model.specs.World.{Place}
use Rattle.tree_changes.specs.declared.decision.NodeChange.{NodeChange}
use Rattle.tree_changes.specs.declared.decision.NodeChange.TheVariants.{Put, Gone}
use Rattle.tree_changes.specs.Changes.{NodeChanges, change_at, entry_data, entry_of}
use Rattle.tree_store.specs.Cells.{Record}
use Rattle.tree_store.specs.Cells.{SlotsView, slot_at, record_at, record_in}
use Rattle.tree_store.specs.Commits.{record_after, changed_record, AreEntriesApart, HasRoomFor}
use Rattle.tree_store.proofs.KeptSlots.{same_id, symmetric}

-- the entries of these changes are there, and are as they were in the first list
abbrev pub HasEntriesOf : List (NodeId × NodeData) → List (NodeId × NodeData) → NodeChanges → Type 0
HasEntriesOf first now cs = All (λ e. (k : ℕ) → entry_of e.1 ≡ Some k → (k < length now) × (slice_get now k ≡ slice_get first k)) cs

not_after : (k : FullNodeId) (cs : NodeChanges) → AllByRecursion (λ y. full_cmp k y ≡ Less) (keys_of cs) → change_at cs k ≡ None
not_after k [] h = refl
not_after k (e ∷ cs) h = ap (λ o. cond (is_eq o) (Some e.1) (change_at cs k)) h.0 ∙ not_after k cs h.1

-- of changes in order the first is the only one at its id
only_first : (k : FullNodeId) (c : NodeChange) (cs : NodeChanges) → IsStrictlySortedBy full_cmp (keys_of ((k, c) ∷ cs)) → change_at cs k ≡ None
unfolding IsStrictlySortedBy
only_first k c cs h = not_after k cs h.0

pub rest_sorted : (k : FullNodeId) (c : NodeChange) (cs : NodeChanges) → IsStrictlySortedBy full_cmp (keys_of ((k, c) ∷ cs)) → IsStrictlySortedBy full_cmp (keys_of cs)
unfolding IsStrictlySortedBy
rest_sorted k c cs h = h.1

or-true : (a : Bool) → (a || true) ≡ true
or-true true = refl
or-true false = refl

pub at_itself : (q : FullNodeId) → is_at (full_cmp q) q ≡ true
at_itself q = (eq_by_cmp_equiv full_total).refl q

pub if_some : {P : ℕ → Type 0} (o : Option ℕ) → ((k : ℕ) → o ≡ Some k → P k) → IfSome o P
if_some None h = tt
if_some (Some k) h = h k refl

or-false : (a : Bool) → (a || false) ≡ a
or-false true = refl
or-false false = refl

entry_there : (nodes : List (NodeId × NodeData)) (k : ℕ) → k < length nodes → is_some (entry_data nodes k) ≡ true
entry_there [] k low = absurd (omega (arith, low))
entry_there (x ∷ xs) zero low = refl
entry_there (x ∷ xs) (suc k) low = entry_there xs k (omega (arith, low))

given_there : (place : Option Place) (o : Option NodeData) → is_some o ≡ true → is_some (option_map (λ d. let r : Record = record { place = place; node = d } in r) o) ≡ true
given_there place None h = cc
given_there place (Some d) h = refl

-- a slot into which an entry is put has a record
pub tight_put : (nodes : List (NodeId × NodeData)) (k : ℕ) (place : Option Place) (before : Option Record) (b : Bool) (new old : Option (Option Record)) → new ≡ cond b (Some (record_after nodes (Put place (Some k)) before)) old → k < length nodes
    → is_some new ≡ cond b (is_some (record_in new)) (is_some old)
tight_put nodes k place before true new old e low = ap is_some e ∙ sym (ap (λ x. is_some (record_in x)) e ∙ given_there place (entry_data nodes k) (entry_there nodes k low))
tight_put nodes k place before false new old e low = ap is_some e

module _ (nodes : List (NodeId × NodeData)) (es fs : SlotsView) (k : FullNodeId) (c : NodeChange) (cs : NodeChanges)
    (sorted : IsStrictlySortedBy full_cmp (keys_of ((k, c) ∷ cs)))
    (records : (q : FullNodeId) → record_at fs q ≡ cond (is_at (full_cmp k) q) (record_after nodes c (record_at es k)) (record_at es q)) where
  pub none_here : (q : FullNodeId) → is_at (full_cmp k) q ≡ true → change_at cs q ≡ None
  none_here q b = subst (λ i. change_at cs i ≡ None) (same_id k q b) (only_first k c cs sorted)

  written_by : (q : FullNodeId) (b : Bool) → (b ≡ true → k ≡ q) → (b ≡ true → change_at cs q ≡ None) → record_at fs q ≡ cond b (record_after nodes c (record_at es k)) (record_at es q) → changed_record nodes (change_at cs q) (record_at fs q) ≡ changed_record nodes (cond b (Some c) (change_at cs q)) (record_at es q)
  written_by q true same none e = ap (λ o. changed_record nodes o (record_at fs q)) (none refl) ∙ e ∙ ap (λ i. record_after nodes c (record_at es i)) (same refl)
  written_by q false same none e = ap (changed_record nodes (change_at cs q)) e

  -- after the first change the others are left
  pub written_next : (q : FullNodeId) → changed_record nodes (change_at cs q) (record_at fs q) ≡ changed_record nodes (change_at ((k, c) ∷ cs) q) (record_at es q)
  written_next q =
      written_by q (is_at (full_cmp k) q) (same_id k q) (none_here q) (records q)
      ∙ ap (λ b. changed_record nodes (cond b (Some c) (change_at cs q)) (record_at es q)) (sym (symmetric k q))

  roomy_by : (q : FullNodeId) (b : Bool) → (b ≡ true → change_at cs q ≡ None) → record_at fs q ≡ cond b (record_after nodes c (record_at es k)) (record_at es q) → (s t : Bool) → t ≡ cond b (is_some (record_at fs q)) s → s ≡ (is_some (record_at es q) || is_some (cond b (Some c) (change_at cs q))) → t ≡ (is_some (record_at fs q) || is_some (change_at cs q))
  roomy_by q true none e s t f h = f ∙ sym (ap (λ o. is_some (record_at fs q) || is_some o) (none refl) ∙ or-false (is_some (record_at fs q)))
  roomy_by q false none e s t f h = f ∙ h ∙ ap (λ r. is_some r || is_some (change_at cs q)) (sym e)

  -- and there is room for them
  pub roomy_next : (q : FullNodeId) → is_some (slot_at fs q) ≡ cond (is_at (full_cmp k) q) (is_some (record_at fs q)) (is_some (slot_at es q)) → is_some (slot_at es q) ≡ (is_some (record_at es q) || is_some (change_at ((k, c) ∷ cs) q)) → is_some (slot_at fs q) ≡ (is_some (record_at fs q) || is_some (change_at cs q))
  roomy_next q f h =
      roomy_by q (is_at (full_cmp k) q) (none_here q) (records q) (is_some (slot_at es q)) (is_some (slot_at fs q)) f
      (h ∙ ap (λ b. is_some (record_at es q) || is_some (cond b (Some c) (change_at cs q))) (symmetric k q))

-- the rest of a list from an index on
pub step_at : {X : Type 0} (l : List X) (j : ℕ) (d : X) → j < length l → drop j l ≡ get_or l j d ∷ drop (j + 1) l
step_at l j d less = let e : suc j ≡ j + 1 = omega arith in drop-cons l j d less ∙ ap (λ n. get_or l j d ∷ drop n l) e

-- what an entry gives is the same where the entry is
pub same_given : (first now : List (NodeId × NodeData)) (c : NodeChange) (before : Option Record) → ((k : ℕ) → entry_of c ≡ Some k → (k < length now) × (slice_get now k ≡ slice_get first k)) → record_after now c before ≡ record_after first c before
same_given first now (Put place (Some k)) before h = ap (λ o. option_map (λ d. let r : Record = record { place = place; node = d } in r) (option_map (λ e. e.1) o)) (h k refl).1
same_given first now (Put place None) before h = refl
same_given first now Gone before h = refl

module _ (first now later : List (NodeId × NodeData)) (es fs : SlotsView) (e : FullNodeId × NodeChange) (cs : NodeChanges)
    (room : HasRoomFor es (e ∷ cs)) (sorted : IsStrictlySortedBy full_cmp (keys_of (e ∷ cs))) (entries : HasEntriesOf first now (e ∷ cs)) (apart : AreEntriesApart (e ∷ cs)) where
  pub slot_here : IsSome (slot_at es e.0)
  slot_here = room e.0 ∙ ap (λ o. is_some (record_at es e.0) || is_some o) (ap (λ b. cond b (Some e.1) (change_at cs e.0)) (at_itself e.0)) ∙ or-true (is_some (record_at es e.0))

  pub entry_here : IfSome (entry_of e.1) (λ k. k < length now)
  entry_here = if_some (entry_of e.1) (λ k is. (All-head (λ x. (k : ℕ) → entry_of x.1 ≡ Some k → (k < length now) × (slice_get now k ≡ slice_get first k)) e cs entries k is).0)

  module _ (written : (q : FullNodeId) → record_at fs q ≡ cond (is_at (full_cmp e.0) q) (record_after now e.1 (record_at es e.0)) (record_at es q))
      (tight : (q : FullNodeId) → is_some (slot_at fs q) ≡ cond (is_at (full_cmp e.0) q) (is_some (record_at fs q)) (is_some (slot_at es q)))
      (others : (k : ℕ) → entry_of e.1 ≢ Some k → slice_get later k ≡ slice_get now k) (count : length later ≡ length now) where
    given : (q : FullNodeId) → record_at fs q ≡ cond (is_at (full_cmp e.0) q) (record_after first e.1 (record_at es e.0)) (record_at es q)
    given q = written q ∙ ap (λ r. cond (is_at (full_cmp e.0) q) r (record_at es q)) (same_given first now e.1 (record_at es e.0) (All-head (λ x. (k : ℕ) → entry_of x.1 ≡ Some k → (k < length now) × (slice_get now k ≡ slice_get first k)) e cs entries))

    pub next_records : (q : FullNodeId) → changed_record first (change_at cs q) (record_at fs q) ≡ changed_record first (change_at (e ∷ cs) q) (record_at es q)
    next_records = written_next first es fs e.0 e.1 cs sorted given

    pub next_room : HasRoomFor fs cs
    next_room q = roomy_next first es fs e.0 e.1 cs sorted given q (tight q) (room q)

    pub next_sorted : IsStrictlySortedBy full_cmp (keys_of cs)
    next_sorted = rest_sorted e.0 e.1 cs sorted

    pub next_entries : HasEntriesOf first later cs
    next_entries i d less k is =
        let old = entries (suc i) d (omega (arith, less)) k is in
        let free : entry_of e.1 ≢ Some k = λ own. apart 0 (suc i) d (omega arith) (omega (arith, less)) k own is in
        (subst (λ n. k < n) (sym count) old.0, others k free ∙ old.1)

    pub next_apart : AreEntriesApart cs
    next_apart i j d less end = apart (suc i) (suc j) d (omega (arith, less)) (omega (arith, end))
