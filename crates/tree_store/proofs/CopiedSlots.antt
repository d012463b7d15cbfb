-- What is copied of slots, id by id.
use Rattle.std.proofs.Common.{◌≡◌, List, [], ◌∷◌, Bool, true, false, true≢false, cond, Option, Some, None, refl, sym, ap, subst, ◌∙◌}
use Rattle.std.specs.Prelude.{ℕ, ◌||◌, IsSome, option_and_then}
use Rattle.std.specs.Option.{option_map}
use Rattle.std.specs.Map.{lookup, keys_of}
use Rattle.std.specs.BTreeMap.{is_at}
use Rattle.model.specs.declared.FullNodeId.{FullNodeId}
use Rattle.model.specs.FullIds.{full_cmp}
use Rattle.tree_store.specs.Cells.{Record}
use Rattle.tree_store.specs.declared.copies.MirrorRecord.{MirrorRecord}
use Rattle.tree_store.specs.Cells.{SlotsView, slot_in, record_at, record_in}
use Rattle.tree_store.specs.Seated.{IsSeated}
use Rattle.tree_store.specs.Copied.{copy_at, copy_of, IsCopyOf}
use Rattle.model.specs.World.{World, data_of}
use Rattle.tree_store.proofs.KeptSlots.{same_id, symmetric}
use Rattle.tree_store.proofs.Maps.{node_in}

-- one of these is the id
abbrev pub among : FullNodeId → List FullNodeId → Bool
among q [] = false
among q (i ∷ is) = is_at (full_cmp q) i || among q is

-- What isn't among the rest of the ids is copied, and what is there is a copy.
pub record IsCopied (whole : SlotsView) (rest : List FullNodeId) (es : List (FullNodeId × MirrorRecord)) : Type 0 where
  pub copied : (q : FullNodeId) → among q rest ≡ false → copy_at es q ≡ option_map copy_of (record_at whole q)
  pub right : (q : FullNodeId) → IsSome (copy_at es q) → copy_at es q ≡ option_map copy_of (record_at whole q)

not_none : {A : Type 0} (o : Option A) → IsSome o → o ≡ None → ⊥
not_none None h e = cc
not_none (Some x) h e = cc

absent_by : {A : Type 0} (b : Bool) (t : Bool) (x o : Option A) → (b || t) ≡ false → (t ≡ false → o ≡ None) → cond b x o ≡ None
absent_by true t x o e f = absurd (true≢false e)
absent_by false t x o e f = f e

absent : (q : FullNodeId) (es : List (FullNodeId × ℕ)) → among q (keys_of es) ≡ false → lookup (is_at (full_cmp q)) es ≡ None
absent q [] e = refl
absent q (x ∷ xs) e = absent_by (is_at (full_cmp q) x.0) (among q (keys_of xs)) (Some x.1) (lookup (is_at (full_cmp q)) xs) e (absent q xs)

-- at first all is left
pub none_copied : (whole : SlotsView) (es : List (FullNodeId × MirrorRecord)) → ((q : FullNodeId) → copy_at es q ≡ None) → IsCopied whole (keys_of whole.numbers) es
none_copied whole es none = record {
  copied = λ q e. none q ∙ ap (λ o. option_map copy_of (record_in (option_and_then (slot_in whole) o))) (sym (absent q whole.numbers e));
  right = λ q there. absurd (not_none (copy_at es q) there (none q));
}

false_first : (a b : Bool) → (a || b) ≡ false → a ≡ false
false_first true b e = e
false_first false b e = refl

or_false : (a b : Bool) → a ≡ false → b ≡ false → (a || b) ≡ false
or_false a b e f = ap (λ t. t || b) e ∙ f

by_right : (o r : Option MirrorRecord) → (IsSome o → o ≡ r) → r ≡ None → o ≡ r
by_right None r f e = sym e
by_right (Some x) r f e = f refl

module _ (whole : SlotsView) (k : FullNodeId) (rest : List FullNodeId) (es : List (FullNodeId × MirrorRecord)) (i : IsCopied whole (k ∷ rest) es) where
  -- where there is no record nothing is copied
  pub skipped : record_at whole k ≡ None → IsCopied whole rest es
  skipped none = record { copied = λ q e. go q (is_at (full_cmp k) q) refl e; right = i.right }
    where
      go : (q : FullNodeId) (t : Bool) → is_at (full_cmp k) q ≡ t → among q rest ≡ false → copy_at es q ≡ option_map copy_of (record_at whole q)
      go q true s e = by_right (copy_at es q) (option_map copy_of (record_at whole q)) (i.right q) (ap (option_map copy_of) (ap (record_at whole) (sym (same_id k q s)) ∙ none))
      go q false s e = i.copied q (or_false (is_at (full_cmp q) k) (among q rest) (symmetric k q ∙ s) e)

  -- one record more is copied
  pub one_copied : (r : Record) (copy : MirrorRecord) (es2 : List (FullNodeId × MirrorRecord)) → record_at whole k ≡ Some r → copy ≡ copy_of r
      → ((q : FullNodeId) → copy_at es2 q ≡ cond (is_at (full_cmp k) q) (Some copy) (copy_at es q)) → IsCopied whole rest es2
  one_copied r copy es2 there is after = record { copied = λ q e. go q (is_at (full_cmp k) q) refl e; right = λ q h. keep q (is_at (full_cmp k) q) refl h }
    where
      here : (q : FullNodeId) → is_at (full_cmp k) q ≡ true → copy_at es2 q ≡ option_map copy_of (record_at whole q)
      here q s = after q ∙ ap (λ t. cond t (Some copy) (copy_at es q)) s ∙ ap Some is ∙ ap (option_map copy_of) (sym there ∙ ap (record_at whole) (same_id k q s))

      else_same : (q : FullNodeId) → is_at (full_cmp k) q ≡ false → copy_at es2 q ≡ copy_at es q
      else_same q s = after q ∙ ap (λ t. cond t (Some copy) (copy_at es q)) s

      go : (q : FullNodeId) (t : Bool) → is_at (full_cmp k) q ≡ t → among q rest ≡ false → copy_at es2 q ≡ option_map copy_of (record_at whole q)
      go q true s e = here q s
      go q false s e = else_same q s ∙ i.copied q (or_false (is_at (full_cmp q) k) (among q rest) (symmetric k q ∙ s) e)

      keep : (q : FullNodeId) (t : Bool) → is_at (full_cmp k) q ≡ t → IsSome (copy_at es2 q) → copy_at es2 q ≡ option_map copy_of (record_at whole q)
      keep q true s h = here q s
      keep q false s h = else_same q s ∙ i.right q (subst IsSome (else_same q s) h)

-- a copy of a record that shows the world's node
module _ (es : SlotsView) (w : World) (seated : IsSeated es (slot_in es) w) (id : FullNodeId) where
  by_record : (r : Option Record) → record_at es id ≡ r → (o : Option MirrorRecord) → o ≡ option_map copy_of r → IsCopyOf w id o
  by_record None is o e = subst (IsCopyOf w id) (sym e) (λ there. not_none (data_of w id) there (sym (seated.nodes id) ∙ ap node_in is))
  by_record (Some r) is o e = subst (IsCopyOf w id) (sym e) (seated.place id r is, sym (seated.nodes id) ∙ ap node_in is)

  pub copy_is : (o : Option MirrorRecord) → o ≡ option_map copy_of (record_at es id) → IsCopyOf w id o
  copy_is o e = by_record (record_at es id) refl o e
