-- What is still to be placed after the first of some changes of a first state.
use Rattle.std.proofs.Common.{◌≡◌, ◌≢◌, ◌<◌, ℕ, zero, suc, List, [], ◌∷◌, map, Bool, true, false, cond, Option, Some, None, length, refl, sym, ap, ◌∙◌, arith, slice_get, slice_set, inr}
use Rattle.std.specs.Prelude.{is_some, IsSome, All, option_and_then}
use Rattle.std.specs.Option.{option_map}
use Rattle.std.specs.Map.{lookup, keys_of}
use Rattle.std.specs.BTreeMap.{is_at}
use Rattle.std.specs.List.Sorted.{IsStrictlySortedBy}
use Rattle.std.proofs.lemmas.Option.{slice_get-map, slice_get-get_or}
use Rattle.schema.specs.NodeData.{NodeData}
use Rattle.schema.specs.declared.NodeId.{NodeId}
use Rattle.model.specs.declared.FullNodeId.{FullNodeId}
use Rattle.model.specs.FullIds.{full_cmp}
use Rattle.model.specs.World.{Place}
use Rattle.tree_changes.specs.declared.decision.NodeChange.{NodeChange}
use Rattle.tree_changes.specs.declared.decision.NodeChange.TheVariants.{Put, Gone}
use Rattle.tree_changes.specs.Changes.{NodeChanges, change_at, entry_of}
use Rattle.tree_store.specs.Cells.{Record, CellView, SlotsView, kept_in, number_of, slot_at, record_at, record_in, HasOwnCells}
use Rattle.tree_store.specs.CellLists.{slot_of, cell_with, placed_record, record_from}
use Rattle.tree_store.specs.Commits.{record_after, changed_record, AreEntriesApart, HasNoSpare}
use Rattle.tree_store.proofs.Boxed.{set_there}
use Rattle.tree_store.proofs.CellWrites.{no_number, cells_written, slots_written}
use Rattle.tree_store.proofs.WrittenSlots.{at_itself, none_here, written_next, rest_sorted}
use Rattle.tree_store.proofs.KeptSlots.{same_id, symmetric}

-- the cells of these changes' entries are free
abbrev pub AreFreeFor : List CellView → NodeChanges → Type 0
AreFreeFor cells cs = All (λ e. (k : ℕ) → entry_of e.1 ≡ Some k → slot_of cells k ≡ None) cs

-- none of these changes' nodes has a slot
abbrev pub HasNoneOf : SlotsView → NodeChanges → Type 0
HasNoneOf s cs = (id : FullNodeId) → IsSome (change_at cs id) → slot_at s id ≡ None

pub none_yet : (s : SlotsView) (e : FullNodeId × NodeChange) (cs : NodeChanges) → HasNoneOf s (e ∷ cs) → slot_at s e.0 ≡ None
none_yet s e cs absent = absent e.0 (ap (λ b. is_some (cond b (Some e.1) (change_at cs e.0))) (at_itself e.0))

none_by : {X : Type 0} (o : Option X) → is_some o ≡ false → o ≡ None
none_by None e = refl
none_by (Some x) e = cc

pub absent_records : (s : SlotsView) (id : FullNodeId) (r : Option Record) → slot_at s id ≡ None → r ≡ None → (q : FullNodeId) → record_at s q ≡ cond (is_at (full_cmp id) q) r (record_at s q)
absent_records s id r none is q = go (is_at (full_cmp id) q) refl
  where
    go : (b : Bool) → is_at (full_cmp id) q ≡ b → record_at s q ≡ cond b r (record_at s q)
    go true t = ap (record_at s) (sym (same_id id q t)) ∙ ap record_in none ∙ sym is
    go false t = refl

pub absent_tight : (s : SlotsView) (id : FullNodeId) → slot_at s id ≡ None → (q : FullNodeId) → is_some (slot_at s q) ≡ cond (is_at (full_cmp id) q) (is_some (record_at s q)) (is_some (slot_at s q))
absent_tight s id none q = go (is_at (full_cmp id) q) refl
  where
    go : (b : Bool) → is_at (full_cmp id) q ≡ b → is_some (slot_at s q) ≡ cond b (is_some (record_at s q)) (is_some (slot_at s q))
    go true t = let gone : slot_at s q ≡ None = ap (slot_at s) (sym (same_id id q t)) ∙ none in ap is_some gone ∙ sym (ap (λ x. is_some (record_in x)) gone)
    go false t = refl

placed_records : (b : Bool) (new old : Option (Option Record)) (r : Option Record) → new ≡ cond b (Some r) old → record_in new ≡ cond b r (record_in old)
placed_records true new old r e = ap record_in e
placed_records false new old r e = ap record_in e

placed_tight : (b : Bool) (new old : Option (Option Record)) (r : Option Record) → new ≡ cond b (Some r) old → IsSome r → is_some new ≡ cond b (is_some (record_in new)) (is_some old)
placed_tight true new old r e some = ap is_some e ∙ sym (ap (λ x. is_some (record_in x)) e ∙ some)
placed_tight false new old r e some = ap is_some e

-- a free cell is given to an id, with a record
module _ (s : SlotsView) (own : HasOwnCells s) (id : FullNodeId) (n : ℕ) (r : Option Record) (numbers : List (FullNodeId × ℕ)) (none : slot_at s id ≡ None) (low : n < length s.cells) (free : slot_of s.cells n ≡ None)
    (up : (q : FullNodeId) → lookup (is_at (full_cmp q)) numbers ≡ cond (is_at (full_cmp id) q) (Some n) (number_of s q)) where
  blank : CellView
  blank = cell_with id None

  there : (c : CellView) × (slice_get s.cells n ≡ Some c)
  there = (_, slice_get-get_or s.cells n blank low)

  unused : kept_in there.0 ≡ None
  unused = sym (ap (option_and_then (λ (c : CellView). c.slot)) there.1) ∙ free

  abbrev after : SlotsView
  after = record { numbers = numbers; cells = slice_set s.cells n (cell_with id (Some r)) }

  pub own_placed : HasOwnCells (record { numbers = numbers; cells = slice_set s.cells n (cell_with id (Some r)) })
  own_placed = cells_written s own id n there.0 (cell_with id (Some r)) numbers there.1 refl up (inr (no_number s own id none, unused))

  slots : (q : FullNodeId) → slot_at after q ≡ cond (is_at (full_cmp id) q) (Some r) (slot_at s q)
  slots = slots_written s own id n there.0 (cell_with id (Some r)) numbers there.1 refl up (inr (no_number s own id none, unused))

  pub records_placed : (q : FullNodeId) → record_at (record { numbers = numbers; cells = slice_set s.cells n (cell_with id (Some r)) }) q ≡ cond (is_at (full_cmp id) q) r (record_at s q)
  records_placed q = placed_records (is_at (full_cmp id) q) (slot_at after q) (slot_at s q) r (slots q)

  pub tight_placed : IsSome r → (q : FullNodeId) → is_some (slot_at (record { numbers = numbers; cells = slice_set s.cells n (cell_with id (Some r)) }) q) ≡ cond (is_at (full_cmp id) q) (is_some (record_at (record { numbers = numbers; cells = slice_set s.cells n (cell_with id (Some r)) }) q)) (is_some (slot_at s q))
  tight_placed some q = placed_tight (is_at (full_cmp id) q) (slot_at after q) (slot_at s q) r (slots q) some

pub others_placed : (cells : List CellView) (n : ℕ) (c : CellView) (k : ℕ) → k ≢ n → slot_of (slice_set cells n c) k ≡ slot_of cells k
others_placed cells n c k apart = ap (option_and_then (λ (c : CellView). c.slot)) (set_there cells n k c apart)

same_from : (first : List (NodeId × NodeData)) (c : NodeChange) (before : Option Record) → before ≡ None → record_from (map (λ e. e.1) first) c ≡ record_after first c before
same_from first (Put place (Some k)) before h = ap (option_map (placed_record place)) (slice_get-map (λ (e : NodeId × NodeData). e.1) first k)
same_from first (Put place None) before h = sym (ap (record_after first (Put place None)) h)
same_from first Gone before h = refl

tight_by : (b : Bool) (r s t : Option Record) (slot old : Bool) → r ≡ cond b s t → slot ≡ cond b (is_some r) old → old ≡ is_some t → slot ≡ is_some r
tight_by true r s t slot old e f g = f
tight_by false r s t slot old e f g = f ∙ g ∙ ap is_some (sym e)

-- changes that are still to be applied to a first state, whose slots these are
pub record AreLeft (s : SlotsView) (cs : NodeChanges) : Type 0 where
  pub sorted : IsStrictlySortedBy full_cmp (keys_of cs)
  pub free : AreFreeFor s.cells cs
  pub apart : AreEntriesApart cs
  pub tight : HasNoSpare s
  pub absent : HasNoneOf s cs

module _ (first : List (NodeId × NodeData)) (es fs : SlotsView) (e : FullNodeId × NodeChange) (cs : NodeChanges)
    (left : AreLeft es (e ∷ cs))
    (written : (q : FullNodeId) → record_at fs q ≡ cond (is_at (full_cmp e.0) q) (record_from (map (λ e. e.1) first) e.1) (record_at es q))
    (slots : (q : FullNodeId) → is_some (slot_at fs q) ≡ cond (is_at (full_cmp e.0) q) (is_some (record_at fs q)) (is_some (slot_at es q)))
    (others : (k : ℕ) → entry_of e.1 ≢ Some k → slot_of fs.cells k ≡ slot_of es.cells k) where
  given : (q : FullNodeId) → record_at fs q ≡ cond (is_at (full_cmp e.0) q) (record_after first e.1 (record_at es e.0)) (record_at es q)
  given q = written q ∙ ap (λ r. cond (is_at (full_cmp e.0) q) r (record_at es q)) (same_from first e.1 (record_at es e.0) (ap record_in (none_yet es e cs left.absent)))

  pub next_records : (q : FullNodeId) → changed_record first (change_at cs q) (record_at fs q) ≡ changed_record first (change_at (e ∷ cs) q) (record_at es q)
  next_records = written_next first es fs e.0 e.1 cs left.sorted given

  next_tight : HasNoSpare fs
  next_tight q = tight_by (is_at (full_cmp e.0) q) (record_at fs q) (record_from (map (λ e. e.1) first) e.1) (record_at es q) (is_some (slot_at fs q)) (is_some (slot_at es q)) (written q) (slots q) (left.tight q)

  absent_by : (q : FullNodeId) (b : Bool) → is_at (full_cmp e.0) q ≡ b → IsSome (change_at cs q) → is_some (slot_at fs q) ≡ cond b (is_some (record_at fs q)) (is_some (slot_at es q)) → (b ≡ false → slot_at es q ≡ None) → slot_at fs q ≡ None
  absent_by q true t there f old = let none : change_at cs q ≡ None = none_here first es fs e.0 e.1 cs left.sorted given q t in let j : false ≡ true = sym (ap is_some none) ∙ there in cc
  absent_by q false t there f old = none_by (slot_at fs q) (f ∙ ap is_some (old refl))

  next_absent : HasNoneOf fs cs
  next_absent q there =
      absent_by q (is_at (full_cmp e.0) q) refl there (slots q)
      (λ b. left.absent q (ap (λ t. is_some (cond t (Some e.1) (change_at cs q))) (symmetric e.0 q ∙ b) ∙ there))

  next_free : AreFreeFor fs.cells cs
  next_free i d less k is =
      let apart : entry_of e.1 ≢ Some k = λ own. left.apart 0 (suc i) d (omega arith) (omega (arith, less)) k own is in
      others k apart ∙ left.free (suc i) d (omega (arith, less)) k is

  next_apart : AreEntriesApart cs
  next_apart i j d less end = left.apart (suc i) (suc j) d (omega (arith, less)) (omega (arith, end))

  pub next_left : AreLeft fs cs
  next_left = record { sorted = rest_sorted e.0 e.1 cs left.sorted; free = next_free; apart = next_apart; tight = next_tight; absent = next_absent }

-- data that are there make a record
pub placed_there : (ds : List NodeData) (k : ℕ) (place : Option Place) → k < length ds → IsSome (option_map (placed_record place) (slice_get ds k))
placed_there [] k place low = absurd (omega (arith, low))
placed_there (d ∷ ds) zero place low = refl
placed_there (d ∷ ds) (suc k) place low = placed_there ds k place (omega (arith, low))
