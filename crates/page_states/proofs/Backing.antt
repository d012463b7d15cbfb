-- What links and uses lead to is there.
use Rattle.std.proofs.Common.{◌≡◌, ℕ, Bool, true, false, cond, List, [], ◌∷◌, ◌++◌, map, Option, Some, None, refl, sym, ap, subst, ◌∙◌}
use Rattle.std.specs.Prelude.{All, Contains, IfSome, if◌then◌else◌}
use Rattle.std.specs.BTreeMap.{BTreeMap, IsEmpty, get, is_at}
use Rattle.std.specs.List.{FoldsTo}
use Rattle.std.specs.Map.{lookup}
use Rattle.std.proofs.lemmas.List.Elements.{All-cons, All-contains_itself, All-head, All-nil, All-tail, Contains-append_left, Contains-push}
use Rattle.std.proofs.lemmas.Option.{same_Some}
use Rattle.model.specs.declared.FullNodeId.{FullNodeId}
use Rattle.model.specs.FullIds.{full_cmp}
use Rattle.model.proofs.Forest.PlaceOf.{same_from_test}
use Rattle.page_states.specs.declared.again.Folds.{Folds}
use Rattle.page_states.specs.declared.again.Last.{Last}
use Rattle.page_states.specs.declared.again.Way.{Way}
use Rattle.page_states.specs.declared.again.Way.TheVariants.{Whole, Again, Folded}
use Rattle.page_states.specs.declared.looks.Look.{Look}
use Rattle.page_states.specs.declared.rows.Row.{Row}
use Rattle.page_states.specs.declared.rows.Shown.{Shown}
use Rattle.page_states.specs.Again.{drawn_by, is_below_top, is_group, last_of, no_folds, row_shown, state_of, way_of, Finds, IsAllIn, IsBoxIn, IsLed, IsRowIn, Leads, Puts}
use Rattle.page_states.specs.Backed.{page_of, row_id, state_in, AreBacked, HasGroup, HasRow, IsBacked, IsLastBacked, LinksLeadToRows, Page}
use Rattle.page_states.proofs.Writing.{if_some}

-- a node is led to where it was found
state_led : (top : Option ℕ) (depth : ℕ) (same : Option ℕ) → state_in (way_of top depth same) ≡ same
state_led top depth None = refl
state_led top depth (Some state) = go (is_below_top top depth)
  where
    go : (b : Bool) → state_in (if b then Folded state else Again state) ≡ Some state
    go true = refl
    go false = refl

found_in : (P : ℕ → Type 0) (same : Option ℕ) → Finds P same → IfSome same P
found_in P None none = tt
found_in P (Some state) is = is

led_in : (IsIn : Shown → ℕ → Type 0) (rest : List Shown) (shown : Shown) (top : Option ℕ) (way : Way) → IsLed IsIn rest shown top way → IfSome (state_in way) (IsIn shown)
led_in IsIn rest shown top way led =
    let found : IfSome led.0 (IsIn shown) = if_some led.0 (λ state both. both.0) (found_in (IsAllIn IsIn rest shown) led.0 led.1) in
    subst (λ o. IfSome o (IsIn shown)) (sym (ap state_in led.2 ∙ state_led top shown.place.depth led.0)) found

module _ (pages : List Page) (kept : BTreeMap FullNodeId Last) (backed : AreBacked pages kept) where
  row_backed : (r : Row) (state : ℕ) → IsRowIn kept r.shown state → HasRow pages (row_id r) state
  row_backed r state is = subst (HasRow pages (row_id r)) (sym is.2.state) (backed (row_id r) is.0 is.1).row

  of_last : (o : Option ℕ) (P : ℕ → Type 0) → IfSome o P → (state : ℕ) → Some state ≡ o → P state
  of_last None P h state e = cc
  of_last (Some other) P h state e = let same : other ≡ state = cc in subst P same h

  box_backed : (r : Row) (state : ℕ) → IsBoxIn kept r.shown state → HasGroup pages (row_id r) r.shown.look state
  box_backed r state is =
      let there = of_last is.0.drawn (HasGroup pages (row_id r) is.0.look) (backed (row_id r) is.0 is.1).drawn state is.2.state in (
        there.0,
        there.1,
        there.2,
        there.3,
        there.4,
        record {
          node = there.5.node;
          way = there.5.way;
          group = there.5.group;
          drawn = there.5.drawn ∙ sym is.2.drawn;
          children = there.5.children ∙ sym is.2.children;
        },
      )

  one_backed : (s t : Folds × List Shown) (r : Row) → Leads kept s r t → IsBacked pages r
  one_backed s t r leads = record {
    row = if_some (state_in r.ways.row) (row_backed r) (led_in (IsRowIn kept) t.1 r.shown s.0.row r.ways.row leads.row);
    drawn = if_some (state_in r.ways.drawn) (box_backed r) (led_in (IsBoxIn kept) t.1 r.shown s.0.drawn r.ways.drawn leads.drawn);
  }

  pub all_backed : (s t : Folds × List Shown) (rows : List Row) → FoldsTo (Leads kept) s rows t → All (IsBacked pages) rows
  all_backed s t [] h = All-nil (IsBacked pages)
  all_backed s t (r ∷ rs) h = All-cons (IsBacked pages) r rs (one_backed s h.0 r h.1) (all_backed h.0 t rs h.2)

-- ---- what is kept

module _ (pages : List Page) (number : ℕ) (has : Bool) (rows : List Row) where
  abbrev page : Page
  page = page_of number has rows

  abbrev later : List Page
  later = pages ++ page ∷ []

  earlier_row : (id : FullNodeId) (state : ℕ) → HasRow pages id state → HasRow later id state
  earlier_row id state h = (h.0, (h.1.0, Contains-append_left pages (page ∷ []) h.1.0 h.1.1, h.1.2, h.1.3), h.2, h.3)

  earlier_group : (id : FullNodeId) (look : Look) (state : ℕ) → HasGroup pages id look state → HasGroup later id look state
  earlier_group id look state h = (h.0, Contains-append_left pages (page ∷ []) h.0 h.1, h.2, h.3, h.4, h.5)

  module _ (r : Row) (there : Contains rows r) (backed : IsBacked pages r) where
    row_kept : (way : Way) → r.ways.row ≡ way → IfSome (state_in way) (HasRow pages (row_id r)) → HasRow later (row_id r) (state_of number way)
    row_kept Whole e h = (r, (page, Contains-push pages page, refl, there), refl, e)
    row_kept (Again state) e h = earlier_row (row_id r) state h
    row_kept (Folded state) e h = earlier_row (row_id r) state h

    group_if : (b : Bool) → is_group has r ≡ b → r.ways.drawn ≡ Whole → IfSome (if b then Some number else None) (HasGroup later (row_id r) r.shown.look)
    group_if false g e = tt
    group_if true g e =
        (page, Contains-push pages page, refl, r, there, record { node = refl; way = e; group = g; drawn = refl; children = refl })

    group_kept : (way : Way) → r.ways.drawn ≡ way → IfSome (state_in way) (HasGroup pages (row_id r) r.shown.look) →
        IfSome (drawn_by number (is_group has r) way) (HasGroup later (row_id r) r.shown.look)
    group_kept Whole e h = group_if (is_group has r) refl e
    group_kept (Again state) e h = earlier_group (row_id r) r.shown.look state h
    group_kept (Folded state) e h = earlier_group (row_id r) r.shown.look state h

    last_kept : IsLastBacked later (row_id r) (last_of number has r)
    last_kept = record { row = row_kept r.ways.row refl backed.row; drawn = group_kept r.ways.drawn refl backed.drawn }

  put_kept : (before after : BTreeMap FullNodeId Last) (r : Row) → Puts number has before r after → IsLastBacked later (row_id r) (last_of number has r) →
      AreBacked later before → AreBacked later after
  put_kept before after r put new old id last found = go (is_at (full_cmp (row_id r)) id) refl
    where
      go : (b : Bool) → is_at (full_cmp (row_id r)) id ≡ b → IsLastBacked later id last
      go true e =
          let same : Some (last_of number has r) ≡ Some last =
          sym (ap (λ b. cond b (Some (last_of number has r)) (get full_cmp before id)) e) ∙ sym (put.0 id) ∙ found in
          subst (λ l. IsLastBacked later id l) (same_Some (last_of number has r) last same)
          (subst (λ k. IsLastBacked later k (last_of number has r)) (same_from_test (row_id r) id e) new)
      go false e = old id last (sym (ap (λ b. cond b (Some (last_of number has r)) (get full_cmp before id)) e) ∙ sym (put.0 id) ∙ found)

  all_kept : (before after : BTreeMap FullNodeId Last) (rs : List Row) → FoldsTo (Puts number has) before rs after → All (Contains rows) rs →
      All (IsBacked pages) rs → AreBacked later before → AreBacked later after
  all_kept before after [] h there backed old = subst (AreBacked later) h old
  all_kept before after (r ∷ rs) h there backed old =
      all_kept h.0 after rs h.2 (All-tail (Contains rows) r rs there) (All-tail (IsBacked pages) r rs backed)
      (put_kept before h.0 r h.1 (last_kept r (All-head (Contains rows) r rs there) (All-head (IsBacked pages) r rs backed)) old)

  none_kept : (empty : BTreeMap FullNodeId Last) → IsEmpty empty → AreBacked later empty
  none_kept empty is id last found =
      let none : None ≡ Some last = sym (ap (lookup (is_at (full_cmp id))) is) ∙ found in cc

pub links_lead_to_rows : LinksLeadToRows
links_lead_to_rows pages kept after number has rows backed led keeps =
    let all = all_backed pages kept backed (no_folds, map row_shown rows) (led.0, []) rows led.1 in
    (all, all_kept pages number has rows keeps.0 after rows keeps.2 (All-contains_itself rows) all (none_kept pages number has rows keeps.0 keeps.1))
