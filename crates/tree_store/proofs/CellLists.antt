-- What is seen of cells after one of them is written, or there is one more.
use Rattle.std.proofs.Common.{◌≡◌, ◌≢◌, ◌<◌, ◌≤◌, ℕ, zero, suc, List, [], ◌∷◌, ◌++◌, Option, Some, None, Bool, true, false, length, map, drop, refl, sym, ap, subst, ◌∙◌, slice_get, slice_set, arith, get_or, ◌⊎◌, inl, inr, ⊎_elim}
use Rattle.std.specs.Prelude.{option_and_then, unwrap_or, IsSome, IfSome, IsTrue, not, is_none, is_some, nat_lt, slice_index_or}
use Rattle.std.specs.Option.{option_map}
use Rattle.std.proofs.lemmas.Bool.{ltb-true, ltb-false}
use Rattle.std.proofs.lemmas.Bool.Decides.{eqb_tells}
use Rattle.std.proofs.lemmas.List.{length-set, length-map, same_lists}
use Rattle.std.proofs.lemmas.Option.{slice_get-map, unwrap_or-slice_get, slice_get_within, slice_get_past, slice_get_cases, slice_get_read}
use Rattle.schema.specs.NodeData.{NodeData}
use Rattle.schema.specs.declared.NodeId.{NodeId}
use Rattle.model.specs.World.{Place}
use Rattle.tree_store.specs.declared.cell_list.Slot.{Slot}
use Rattle.tree_store.specs.declared.cell_list.Slot.TheVariants.{Free, Listed, Boxed}
use Rattle.tree_store.specs.declared.cell_list.Cell.{Cell}
use Rattle.tree_store.specs.declared.cell_list.CellList.TheInside.{Inside}
use Rattle.tree_store.specs.declared.records.Kept.{Kept}
use Rattle.tree_store.specs.Cells.{Record, CellView, record_in}
use Rattle.tree_store.specs.CellLists.{CellsView, all_seen, seen, slot_seen, node_seen, is_full, slot_of, cells_of, cell_with, record_kept, placed_record, IsEmptySlot, AreFree}
use Rattle.tree_changes.specs.Changes.{entry_data}
use Rattle.tree_store.specs.Commits.{record_moved_to}
use Rattle.model.proofs.Update.Merges.{slice_get_push}
use Rattle.tree_store.proofs.Boxed.{set_here, set_there}

pub length_seen : (ds : List NodeData) (cs : List Cell) → length (all_seen ds cs) ≡ length cs
length_seen ds [] = refl
length_seen ds (c ∷ cs) = ap suc (length_seen (drop 1 ds) cs)

get_tail : (ds : List NodeData) (n : ℕ) → slice_get (drop 1 ds) n ≡ slice_get ds (suc n)
get_tail [] n = refl
get_tail (d ∷ ds) n = refl

-- a cell by its number
pub seen_at : (ds : List NodeData) (cs : List Cell) (n : ℕ) → slice_get (all_seen ds cs) n ≡ option_map (seen (slice_get ds n)) (slice_get cs n)
seen_at ds [] n = refl
seen_at ds (c ∷ cs) zero = refl
seen_at ds (c ∷ cs) (suc n) = seen_at (drop 1 ds) cs n ∙ ap (λ d. option_map (seen d) (slice_get cs n)) (get_tail ds n)

same_by : {X : Type 0} → (xs ys : List X) → length xs ≡ length ys → ((k : ℕ) → slice_get xs k ≡ slice_get ys k) → xs ≡ ys
same_by xs ys count same = same_lists xs ys count (λ k d low. sym (unwrap_or-slice_get xs k d) ∙ ap (λ o. unwrap_or o d) (same k) ∙ unwrap_or-slice_get ys k d)

-- a cell and the data under its number are written
pub seen_written : (ds es : List NodeData) (cs : List Cell) (n : ℕ) (c : Cell) → n < length cs → ((k : ℕ) → k ≢ n → slice_get es k ≡ slice_get ds k)
    → all_seen es (slice_set cs n c) ≡ slice_set (all_seen ds cs) n (seen (slice_get es n) c)
seen_written ds es cs n c low others = same_by _ _ count each
  where
    x : CellView
    x = seen (slice_get es n) c

    count : length (all_seen es (slice_set cs n c)) ≡ length (slice_set (all_seen ds cs) n x)
    count = length_seen es (slice_set cs n c) ∙ length-set cs n c ∙ sym (length_seen ds cs) ∙ sym (length-set (all_seen ds cs) n x)

    here : slice_get (all_seen es (slice_set cs n c)) n ≡ slice_get (slice_set (all_seen ds cs) n x) n
    here = seen_at es (slice_set cs n c) n ∙ ap (option_map (seen (slice_get es n))) (set_here cs n c low) ∙ sym (set_here (all_seen ds cs) n x (subst (λ m. n < m) (sym (length_seen ds cs)) low))

    there : (k : ℕ) → k ≢ n → slice_get (all_seen es (slice_set cs n c)) k ≡ slice_get (slice_set (all_seen ds cs) n x) k
    there k apart =
        seen_at es (slice_set cs n c) k
        ∙ ap (λ d. option_map (seen d) (slice_get (slice_set cs n c) k)) (others k apart)
        ∙ ap (option_map (seen (slice_get ds k))) (set_there cs n k c apart)
        ∙ sym (seen_at ds cs k)
        ∙ sym (set_there (all_seen ds cs) n k x apart)

    each : (k : ℕ) → slice_get (all_seen es (slice_set cs n c)) k ≡ slice_get (slice_set (all_seen ds cs) n x) k
    each k = ⊎_elim (λ t. subst (λ i. slice_get (all_seen es (slice_set cs n c)) i ≡ slice_get (slice_set (all_seen ds cs) n x) i) (sym t.1) here) (λ f. there k f.1) (eqb_tells k n)

-- there is one cell more
pub seen_more : (ds : List NodeData) (cs : List Cell) (c : Cell) → all_seen ds (cs ++ c ∷ []) ≡ all_seen ds cs ++ seen (slice_get ds (length cs)) c ∷ []
seen_more ds [] c = refl
seen_more ds (b ∷ cs) c = ap (λ l. seen (slice_get ds 0) b ∷ l) (seen_more (drop 1 ds) cs c ∙ ap (λ d. all_seen (drop 1 ds) cs ++ seen d c ∷ []) (get_tail ds (length cs)))

-- the slot of a cell that is read
pub slot_read : (ds : List NodeData) (cs : List Cell) (n : ℕ) (o : Option Cell) → slice_get cs n ≡ o → slot_of (all_seen ds cs) n ≡ option_and_then (λ c. slot_seen (slice_get ds n) c.place c.slot) o
slot_read ds cs n None e = ap (option_and_then (λ (c : CellView). c.slot)) (seen_at ds cs n ∙ ap (option_map (seen (slice_get ds n))) e)
slot_read ds cs n (Some c) e = ap (option_and_then (λ (c : CellView). c.slot)) (seen_at ds cs n ∙ ap (option_map (seen (slice_get ds n))) e)

-- the data under a number of the list
pub listed_at : (listed : List (NodeId × NodeData)) (n : ℕ) (e : NodeId × NodeData) → slice_get listed n ≡ Some e → slice_get (map (λ e. e.1) listed) n ≡ Some e.1
listed_at listed n e at = slice_get-map (λ (e : NodeId × NodeData). e.1) listed n ∙ ap (option_map (λ (e : NodeId × NodeData). e.1)) at

abbrev pub data_of : Inside → List NodeData
data_of a = map (λ e. e.1) a.listed.items

-- the record in a slot
pub record_seen : (d : Option NodeData) (place : Option Place) (s : Slot) → record_in (slot_seen d place s) ≡ option_map (placed_record place) (node_seen d s)
record_seen d place Free = refl
record_seen d place (Listed false) = refl
record_seen d place (Listed true) = refl
record_seen d place (Boxed b) = refl

-- a slot with a record has data
pub some_data : (d : Option NodeData) (place : Option Place) (s : Slot) → IsSome (record_in (slot_seen d place s)) → IsSome (node_seen d s)
some_data d place s some = go (node_seen d s) (subst IsSome (record_seen d place s) some)
  where
    go : (o : Option NodeData) → IsSome (option_map (placed_record place) o) → IsSome o
    go None h = cc
    go (Some x) h = refl

pub some_record : (o : Option (Option Record)) → IsSome (record_in o) → IsSome o
some_record None h = cc
some_record (Some x) h = refl

pub some_by : {X : Type 0} → (o : Option X) (b : Bool) → b ≡ is_none o → IsTrue (not b) → IsSome o
some_by None b e t = let j : not b ≡ false = ap not e in cc
some_by (Some x) b e t = refl

-- a slot whose place is another one
pub moved_seen : (d : Option NodeData) (place new : Option Place) (s : Slot) → IsSome (slot_seen d place s) → slot_seen d new s ≡ Some (record_moved_to new (record_in (slot_seen d place s)))
moved_seen d place new Free some = cc
moved_seen d place new (Listed false) some = refl
moved_seen None place new (Listed true) some = refl
moved_seen (Some d) place new (Listed true) some = refl
moved_seen d place new (Boxed b) some = go b.value
  where
    go : (o : Option NodeData) → ◌≡◌ {A = Option (Option Record)} (Some (option_map (placed_record new) o)) (Some (record_moved_to new (option_map (placed_record place) o)))
    go None = refl
    go (Some d) = refl

pub full_seen : (d : Option NodeData) (place : Option Place) (s : Slot) → ((b : Bool) → s ≡ Listed b → IsSome d) → is_full s ≡ is_some (record_in (slot_seen d place s))
full_seen d place Free there = refl
full_seen d place (Listed false) there = refl
full_seen d place (Listed true) there = go d (there true refl)
  where
    go : (o : Option NodeData) → IsSome o → true ≡ is_some (option_map (placed_record place) o)
    go None h = cc
    go (Some d) h = refl
full_seen d place (Boxed b) there = go b.value
  where
    go : (o : Option NodeData) → is_some o ≡ is_some (option_map (placed_record place) o)
    go None = refl
    go (Some d) = refl

pub get_at : {X : Type 0} → (xs ys : List X) (n : ℕ) (x : X) → xs ≡ ys → true ≡ nat_lt n (length xs) → x ≡ slice_index_or xs n x → slice_get ys n ≡ Some x
get_at xs ys n x is low at = ap (λ l. slice_get l n) (sym is) ∙ slice_get_read xs (length xs) n x refl (ltb-true n (length xs) (sym low)) at

pub none_at : {X : Type 0} → (xs ys : List X) (n : ℕ) → xs ≡ ys → false ≡ nat_lt n (length xs) → slice_get ys n ≡ None
none_at xs ys n is low = ap (λ l. slice_get l n) (sym is) ∙ slice_get_past xs n (ltb-false n (length xs) (sym low))

-- an entry that is there has data
pub entry_there : (nodes : List (NodeId × NodeData)) (k : ℕ) → k < length nodes → (d : NodeData) × (entry_data nodes k ≡ Some d)
entry_there nodes k low = go (slice_get_cases nodes k).1
  where
    go : ((x : NodeId × NodeData) × (k < length nodes) × (slice_get nodes k ≡ Some x) × (get_or nodes k x ≡ x)) ⊎ ((length nodes ≤ k) × (slice_get nodes k ≡ None)) → (d : NodeData) × (entry_data nodes k ≡ Some d)
    go (inl h) = (h.0.1, ap (option_map (λ (e : NodeId × NodeData). e.1)) h.2)
    go (inr h) = absurd (omega (arith, low, h.0))

same_view : (x y : CellView) → Some x ≡ Some y → x ≡ y
same_view x y e = cc

-- a list of cells by what is seen of it
module _ (a : Inside) (v : CellsView) (shows : cells_of a ≡ v) where
  pub count_is : length a.cells.items ≡ length v.cells
  count_is = sym (length_seen (data_of a) a.cells.items) ∙ ap (λ w. length w.cells) shows

  pub nodes_are : length a.listed.items ≡ length v.nodes
  nodes_are = sym (length-map a.listed.items (λ (e : NodeId × NodeData). e.1)) ∙ ap (λ w. length w.nodes) shows

  pub within : (n : ℕ) → n < length v.cells → n < length a.cells.items
  within n low = subst (λ m. n < m) (sym count_is) low

  pub read : (n : ℕ) (c : Cell) → slice_get a.cells.items n ≡ Some c → slice_get v.cells n ≡ Some (seen (slice_get (data_of a) n) c)
  read n c at = ap (λ w. slice_get w.cells n) (sym shows) ∙ seen_at (data_of a) a.cells.items n ∙ ap (option_map (seen (slice_get (data_of a) n))) at

  pub slot_none : (n : ℕ) → slice_get a.cells.items n ≡ None → slot_of v.cells n ≡ None
  slot_none n at = ap (λ w. slot_of w.cells n) (sym shows) ∙ slot_read (data_of a) a.cells.items n None at

  pub slot_is : (n : ℕ) (c : Cell) → slice_get a.cells.items n ≡ Some c → slot_of v.cells n ≡ slot_seen (slice_get (data_of a) n) c.place c.slot
  slot_is n c at = ap (λ w. slot_of w.cells n) (sym shows) ∙ slot_read (data_of a) a.cells.items n (Some c) at

  some_within : (n : ℕ) → IsSome (slot_of v.cells n) → n < length v.cells
  some_within n some = go (slice_get v.cells n) refl some
    where
      go : (o : Option CellView) → slice_get v.cells n ≡ o → IsSome (option_and_then (λ (c : CellView). c.slot) o) → n < length v.cells
      go None e h = cc
      go (Some c) e h = slice_get_within v.cells n c e

  pub slot_within : (n : ℕ) → IsSome (slot_of v.cells n) → n < length a.cells.items
  slot_within n some = within n (some_within n some)

  -- a cell is written, and perhaps the data under its number
  pub shown_written : (es : List NodeData) (n : ℕ) (c : Cell) (x : CellView) → n < length a.cells.items → ((k : ℕ) → k ≢ n → slice_get es k ≡ slice_get (data_of a) k) → seen (slice_get es n) c ≡ x
      → all_seen es (slice_set a.cells.items n c) ≡ slice_set v.cells n x
  shown_written es n c x low others is =
      seen_written (data_of a) es a.cells.items n c low others
      ∙ ap (slice_set (all_seen (data_of a) a.cells.items) n) is
      ∙ ap (λ w. slice_set w.cells n x) shows

  pub shown_more : (c : Cell) (x : CellView) → seen (slice_get (data_of a) (length a.cells.items)) c ≡ x → all_seen (data_of a) (a.cells.items ++ c ∷ []) ≡ v.cells ++ x ∷ []
  shown_more c x is = seen_more (data_of a) a.cells.items c ∙ ap (λ y. all_seen (data_of a) a.cells.items ++ y ∷ []) is ∙ ap (λ w. w.cells ++ x ∷ []) shows

  -- the data of a cell in the list are written
  pub shown_filled : (es : List NodeData) (n : ℕ) (x y : Cell) (d : NodeData) → slice_get a.cells.items n ≡ Some x → es ≡ slice_set (data_of a) n d → n < length a.listed.items → y.id ≡ x.id → y.slot ≡ Listed true
      → (seen_x : CellView) → slice_get v.cells n ≡ Some seen_x → all_seen es (slice_set a.cells.items n y) ≡ slice_set v.cells n (cell_with seen_x.id (Some (Some (placed_record y.place d))))
  shown_filled es n x y d at is low same filled w shown =
      let data_low : n < length (data_of a) = subst (λ m. n < m) (sym (length-map a.listed.items (λ (e : NodeId × NodeData). e.1))) low in
      let here : slice_get es n ≡ Some d = ap (λ l. slice_get l n) is ∙ set_here (data_of a) n d data_low in
      let id_is : y.id ≡ w.id = same ∙ ap (λ (z : CellView). z.id) (same_view (seen (slice_get (data_of a) n) x) w (sym (read n x at) ∙ shown)) in
      shown_written es n y (cell_with w.id (Some (Some (placed_record y.place d)))) (slice_get_within a.cells.items n x at) (λ k apart. ap (λ l. slice_get l k) is ∙ set_there (data_of a) n k d apart)
      (ap (λ o. seen o y) here ∙ ap (λ s. let z : CellView = record { id = y.id; slot = slot_seen (Some d) y.place s } in z) filled ∙ ap (λ i. cell_with i (Some (Some (placed_record y.place d)))) id_is)

  -- a cell gets another slot, and the data in the list stay
  pub shown_changed : (n : ℕ) (x y : Cell) (o : Option (Option Record)) → slice_get a.cells.items n ≡ Some x → y.id ≡ x.id → slot_seen (slice_get (data_of a) n) y.place y.slot ≡ o
      → (seen_x : CellView) → slice_get v.cells n ≡ Some seen_x → all_seen (data_of a) (slice_set a.cells.items n y) ≡ slice_set v.cells n (cell_with seen_x.id o)
  shown_changed n x y o at same is w shown =
      let id_is : y.id ≡ w.id = same ∙ ap (λ (z : CellView). z.id) (same_view (seen (slice_get (data_of a) n) x) w (sym (read n x at) ∙ shown)) in
      shown_written (data_of a) n y (cell_with w.id o) (slice_get_within a.cells.items n x at) (λ k apart. refl)
      (ap (cell_with y.id) is ∙ ap (λ i. cell_with i o) id_is)

  -- the data under the number of a slot of the list are there
  pub data_there : (n : ℕ) → n < length a.listed.items → IsSome (slice_get (data_of a) n)
  data_there n low = go (slice_get_cases (data_of a) n).1
    where
      go : ((d : NodeData) × (n < length (data_of a)) × (slice_get (data_of a) n ≡ Some d) × (get_or (data_of a) n d ≡ d)) ⊎ ((length (data_of a) ≤ n) × (slice_get (data_of a) n ≡ None)) → IsSome (slice_get (data_of a) n)
      go (inl h) = ap is_some h.2
      go (inr h) = absurd (omega (arith, low, h.0, length-map a.listed.items (λ (e : NodeId × NodeData). e.1)))

-- slots of the list are of numbers below this
abbrev pub AreIn : List Cell → ℕ → Type 0
AreIn cells count = (n : ℕ) (c : Cell) (b : Bool) → slice_get cells n ≡ Some c → c.slot ≡ Listed b → n < count

same_some : {X : Type 0} (o : Option X) (a b : X) → o ≡ Some a → o ≡ Some b → a ≡ b
same_some o a b e f = let j : Some a ≡ Some b = sym e ∙ f in cc

pub in_written : (cells : List Cell) (count n : ℕ) (c : Cell) → n < length cells → ((b : Bool) → c.slot ≡ Listed b → n < count) → AreIn cells count → AreIn (slice_set cells n c) count
in_written cells count n c low new old m x b at is =
    ⊎_elim
    (λ t. subst (λ i. i < count) (sym t.1) (new b (ap (λ (y : Cell). y.slot) (same_some _ c x (set_here cells n c low) (subst (λ i. slice_get (slice_set cells n c) i ≡ Some x) t.1 at)) ∙ is)))
    (λ f. old m x b (sym (set_there cells n m c f.1) ∙ at) is)
    (eqb_tells m n)

pub in_more : (cells : List Cell) (count : ℕ) (c : Cell) → ((b : Bool) → c.slot ≡ Listed b → length cells < count) → AreIn cells count → AreIn (cells ++ c ∷ []) count
in_more cells count c new old m x b at is =
    ⊎_elim
    (λ was. old m x b was is)
    (λ end. subst (λ i. i < count) (sym end.0) (new b (ap (λ (y : Cell). y.slot) end.1 ∙ is)))
    (slice_get_push cells c m x at)

-- an empty slot shows no record, and is of the list only where its number is
pub empty_seen : (count n : ℕ) (d : Option NodeData) (place : Option Place) (s : Slot) → IsEmptySlot count n s → slot_seen d place s ≡ Some None
empty_seen count n d place Free e = absurd e
empty_seen count n d place (Listed b) e = ap (λ x. slot_seen d place (Listed x)) e.0
empty_seen count n d place (Boxed b) e = ap (λ (o : Option NodeData). Some (option_map (placed_record place) o)) e

pub empty_in : (count n : ℕ) (s : Slot) → IsEmptySlot count n s → (b : Bool) → s ≡ Listed b → n < count
empty_in count n Free e b is = absurd e
empty_in count n (Listed x) e b is = e.1
empty_in count n (Boxed x) e b is = cc

-- the data of a list in which one is written
pub data_written : (listed : List (NodeId × NodeData)) (n : ℕ) (e : NodeId × NodeData) (k : ℕ) → k ≢ n → slice_get (map (λ e. e.1) (slice_set listed n e)) k ≡ slice_get (map (λ e. e.1) listed) k
data_written listed n e k apart =
    slice_get-map (λ (e : NodeId × NodeData). e.1) (slice_set listed n e) k
    ∙ ap (option_map (λ (e : NodeId × NodeData). e.1)) (set_there listed n k e apart)
    ∙ sym (slice_get-map (λ (e : NodeId × NodeData). e.1) listed k)

pub free_more : (cells : List Cell) (c : Cell) → c.slot ≡ Free → AreFree cells → AreFree (cells ++ c ∷ [])
free_more cells c is all n x at = ⊎_elim (λ old. all n x old) (λ end. ap (λ (y : Cell). y.slot) (sym end.1) ∙ is) (slice_get_push cells c n x at)

pub free_seen : (ds : List NodeData) (cells : List Cell) → AreFree cells → (n : ℕ) → slot_of (all_seen ds cells) n ≡ None
free_seen ds cells free n = go (slice_get cells n) refl
  where
    go : (o : Option Cell) → slice_get cells n ≡ o → slot_of (all_seen ds cells) n ≡ None
    go None e = slot_read ds cells n None e
    go (Some c) e = slot_read ds cells n (Some c) e ∙ ap (slot_seen (slice_get ds n) c.place) (free n c e)

pub not_free : (o : Option (Option Record)) → IsSome o → o ≡ None → ⊥
not_free None h e = cc
not_free (Some x) h e = cc

-- the data and the place of a record where it is kept
pub kept_data : (o : Option Kept) → option_map (λ k. k.node.now) o ≡ option_map (λ (r : Record). r.node) (option_map record_kept o)
kept_data None = refl
kept_data (Some k) = refl

pub kept_place : (P : Option Place → Type 0) (o : Option Kept) (r : Option Record) → option_map record_kept o ≡ r → ((x : Record) → r ≡ Some x → P x.place) → IfSome o (λ k. P k.place.now)
kept_place P None r e f = tt
kept_place P (Some k) r e f = f (record_kept k) (sym e)
