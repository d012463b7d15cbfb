-- Rows that say the same lead to the same earlier states, where the same was kept.
use Rattle.std.proofs.Common.{◌≡◌, ℕ, Bool, true, false, List, [], ◌∷◌, map, Option, Some, None, refl, sym, ap, subst, ◌∙◌}
use Rattle.std.specs.Prelude.{All, nat_lt, option_map, if◌then◌else◌}
use Rattle.std.specs.BTreeMap.{BTreeMap, get}
use Rattle.std.specs.List.{AllZip, FoldsTo}
use Rattle.std.proofs.lemmas.List.Elements.{All-cons, All-head, All-nil, All-tail}
use Rattle.std.proofs.lemmas.Option.{same_Some}
use Rattle.model.specs.declared.FullNodeId.{FullNodeId}
use Rattle.model.specs.FullIds.{full_cmp}
use Rattle.views.specs.Nodes.{id_at}
use Rattle.page_states.specs.declared.again.Folds.{Folds}
use Rattle.page_states.specs.declared.again.Last.{Last}
use Rattle.page_states.specs.declared.again.Way.{Way}
use Rattle.page_states.specs.declared.rows.Row.{Row}
use Rattle.page_states.specs.declared.rows.Shown.{Shown}
use Rattle.page_states.specs.Again.{below, deeper, depth_shown, row_shown, top_after, way_of, Finds, IsAllIn, IsBoxIn, IsInAny, IsLed, IsRowIn, Leads}
use Rattle.page_states.specs.WrittenLaws.{last_text, KeepAlike}

-- all that is read of what is shown of a node is the same, with the same mark
pub record IsSameShown (a b : Shown) : Type 0 where
  pub id : id_at a.place.node ≡ id_at b.place.node
  pub depth : a.place.depth ≡ b.place.depth
  pub left_out : a.place.is_left_out ≡ b.place.is_left_out
  pub mark : a.place.mark ≡ b.place.mark
  pub row : a.look.row.items ≡ b.look.row.items
  pub children : a.look.children.items ≡ b.look.children.items
  pub drawn : a.look.drawn.items ≡ b.look.drawn.items

pub turned : (a b : Shown) → IsSameShown a b → IsSameShown b a
turned a b e = record {
  id = sym e.id;
  depth = sym e.depth;
  left_out = sym e.left_out;
  mark = sym e.mark;
  row = sym e.row;
  children = sym e.children;
  drawn = sym e.drawn;
}

-- and of rows, which lead to the same states
pub record IsSameRow (r s : Row) : Type 0 where
  pub shown : IsSameShown r.shown s.shown
  pub row : r.ways.row ≡ s.ways.row
  pub drawn : r.ways.drawn ≡ s.ways.drawn

abbrev pub AreShownSame : Row → Row → Type 0
AreShownSame r s = IsSameShown r.shown s.shown

turned_all : (xs ys : List Shown) → AllZip IsSameShown xs ys → AllZip IsSameShown ys xs
turned_all [] [] h = tt
turned_all [] (y ∷ ys) h = absurd h
turned_all (x ∷ xs) [] h = absurd h
turned_all (x ∷ xs) (y ∷ ys) h = (turned x y h.0, turned_all xs ys h.1)

-- ---- the nodes below

still_deeper : (a b : Bool) → a ≡ b → (x y : Shown) (xs ys : List Shown) → IsSameShown x y → AllZip IsSameShown xs ys → AllZip IsSameShown (if a then x ∷ xs else []) (if b then y ∷ ys else [])
still_deeper true true e x y xs ys h more = (h, more)
still_deeper false false e x y xs ys h more = tt
still_deeper true false e x y xs ys h more = absurd (let no : ⊥ = cc in no)
still_deeper false true e x y xs ys h more = absurd (let no : ⊥ = cc in no)

deeper_same : (d e : ℕ) → d ≡ e → (xs ys : List Shown) → AllZip IsSameShown xs ys → AllZip IsSameShown (deeper depth_shown d xs) (deeper depth_shown e ys)
deeper_same d e same [] [] h = tt
deeper_same d e same [] (y ∷ ys) h = absurd h
deeper_same d e same (x ∷ xs) [] h = absurd h
deeper_same d e same (x ∷ xs) (y ∷ ys) h =
    still_deeper (nat_lt d (depth_shown x)) (nat_lt e (depth_shown y)) (λ i. nat_lt (same i) (h.0.depth i)) x y (deeper depth_shown d xs) (deeper depth_shown e ys) h.0
    (deeper_same d e same xs ys h.1)

-- where each test of the one passes, so does each of the other
abbrev Passes : (Shown → ℕ → Type 0) → (Shown → ℕ → Type 0) → Type 0
Passes IsIn IsAt = (a b : Shown) → IsSameShown a b → (state : ℕ) → IsIn a state → IsAt b state

all_passed : (IsIn IsAt : Shown → ℕ → Type 0) → Passes IsIn IsAt → (xs ys : List Shown) → AllZip IsSameShown xs ys → All (IsInAny IsIn) xs → All (IsInAny IsAt) ys
all_passed IsIn IsAt to [] [] h all = All-nil (IsInAny IsAt)
all_passed IsIn IsAt to [] (y ∷ ys) h all = absurd h
all_passed IsIn IsAt to (x ∷ xs) [] h all = absurd h
all_passed IsIn IsAt to (x ∷ xs) (y ∷ ys) h all =
    let one = All-head (IsInAny IsIn) x xs all in
    All-cons (IsInAny IsAt) y ys (one.0, to x y h.0 one.0 one.1) (all_passed IsIn IsAt to xs ys h.1 (All-tail (IsInAny IsIn) x xs all))

passed : (IsIn IsAt : Shown → ℕ → Type 0) → Passes IsIn IsAt → (a b : Shown) → IsSameShown a b → (rest others : List Shown) → AllZip IsSameShown rest others → (state : ℕ) →
    IsAllIn IsIn rest a state → IsAllIn IsAt others b state
passed IsIn IsAt to a b same rest others h state is = (
  to a b same state is.0,
  all_passed IsIn IsAt to (below a rest) (below b others) (deeper_same (depth_shown a) (depth_shown b) same.depth rest others h) is.1,
)

-- ---- where a node was shown

same_found : (P Q : ℕ → Type 0) → ((n : ℕ) → P n → Q n) → ((n : ℕ) → Q n → P n) → ((n m : ℕ) → Q n → Q m → n ≡ m) → (a b : Option ℕ) → Finds P a → Finds Q b → a ≡ b
same_found P Q to from one None None h g = refl
same_found P Q to from one None (Some m) h g = absurd (h m (from m g))
same_found P Q to from one (Some n) None h g = absurd (g n (to n h))
same_found P Q to from one (Some n) (Some m) h g = λ i. Some (one n m (to n h) g i)

kept_as : (a b : Option Last) → option_map last_text a ≡ option_map last_text b → (x : Last) → a ≡ Some x → (y : Last) × (b ≡ Some y) × (last_text x ≡ last_text y)
kept_as a None same x is = absurd (let none : Some (last_text x) ≡ None = ap (option_map last_text) (sym is) ∙ same in let no : ⊥ = cc in no)
kept_as a (Some y) same x is = (y, refl, same_Some (last_text x) (last_text y) (ap (option_map last_text) (sym is) ∙ same))

module _ (kept known : BTreeMap FullNodeId Last) (same : KeepAlike kept known) where
  last_in : (a b : FullNodeId) → a ≡ b → (x : Last) → get full_cmp kept a ≡ Some x → (y : Last) × (get full_cmp known b ≡ Some y) × (last_text x ≡ last_text y)
  last_in a b e x is = kept_as (get full_cmp kept a) (get full_cmp known b) (same a ∙ ap (λ id. option_map last_text (get full_cmp known id)) e) x is

  row_passes : Passes (IsRowIn kept) (IsRowIn known)
  row_passes a b e state h =
      let k = last_in (id_at a.place.node) (id_at b.place.node) e.id h.0 h.1 in (
        k.0,
        k.1,
        record {
          row = sym e.row ∙ h.2.row ∙ (λ i. (k.2 i).row);
          children = sym e.children ∙ h.2.children ∙ (λ i. (k.2 i).children);
          unmarked = sym e.mark ∙ h.2.unmarked;
          state = h.2.state ∙ (λ i. (k.2 i).row_state);
        },
      )

  box_passes : Passes (IsBoxIn kept) (IsBoxIn known)
  box_passes a b e state h =
      let k = last_in (id_at a.place.node) (id_at b.place.node) e.id h.0 h.1 in (
        k.0,
        k.1,
        record {
          drawn = sym e.drawn ∙ h.2.drawn ∙ (λ i. (k.2 i).drawn);
          children = sym e.children ∙ h.2.children ∙ (λ i. (k.2 i).children);
          unmarked = sym e.mark ∙ h.2.unmarked;
          state = h.2.state ∙ (λ i. (k.2 i).drawn_state);
        },
      )

  one_last : (id : FullNodeId) (x y : Last) → get full_cmp known id ≡ Some x → get full_cmp known id ≡ Some y → x ≡ y
  one_last id x y p q = same_Some x y (sym p ∙ q)

  one_row : (rest : List Shown) (b : Shown) (n m : ℕ) → IsAllIn (IsRowIn known) rest b n → IsAllIn (IsRowIn known) rest b m → n ≡ m
  one_row rest b n m h g = h.0.2.state ∙ (λ i. (one_last (id_at b.place.node) h.0.0 g.0.0 h.0.1 g.0.1 i).row) ∙ sym g.0.2.state

  one_box : (rest : List Shown) (b : Shown) (n m : ℕ) → IsAllIn (IsBoxIn known) rest b n → IsAllIn (IsBoxIn known) rest b m → n ≡ m
  one_box rest b n m h g = same_Some n m (h.0.2.state ∙ (λ i. (one_last (id_at b.place.node) h.0.0 g.0.0 h.0.1 g.0.1 i).drawn) ∙ sym g.0.2.state)

module _ (kept known : BTreeMap FullNodeId Last) (same : KeepAlike kept known) where
  same_way : (IsIn IsAt : Shown → ℕ → Type 0) → Passes IsIn IsAt → Passes IsAt IsIn → ((rest : List Shown) (b : Shown) (n m : ℕ) → IsAllIn IsAt rest b n → IsAllIn IsAt rest b m → n ≡ m) →
      (a b : Shown) → IsSameShown a b → (rest others : List Shown) → AllZip IsSameShown rest others → (top tip : Option ℕ) → top ≡ tip → (way turn : Way) → IsLed IsIn rest a top way → IsLed IsAt others b tip turn → way ≡ turn
  same_way IsIn IsAt to from one a b e rest others zip top tip tops way turn led lead =
      let found : led.0 ≡ lead.0 = same_found (IsAllIn IsIn rest a) (IsAllIn IsAt others b) (passed IsIn IsAt to a b e rest others zip)
      (passed IsAt IsIn from b a (turned a b e) others rest (turned_all rest others zip)) (one others b) led.0 lead.0 led.1 lead.1 in
      led.2 ∙ (λ i. way_of (tops i) (e.depth i) (found i)) ∙ sym lead.2

  -- of rows that are shown alike, those that are left
  shown_zip : (rows lines : List Row) → AllZip AreShownSame rows lines → AllZip IsSameShown (map row_shown rows) (map row_shown lines)
  shown_zip [] [] h = tt
  shown_zip [] (l ∷ ls) h = absurd h
  shown_zip (r ∷ rs) [] h = absurd h
  shown_zip (r ∷ rs) (l ∷ ls) h = (h.0, shown_zip rs ls h.1)

  pub same_ways : (rows lines : List Row) (s t u v : Folds × List Shown) → AllZip AreShownSame rows lines → s.1 ≡ map row_shown rows → u.1 ≡ map row_shown lines →
      s.0.row ≡ u.0.row → s.0.drawn ≡ u.0.drawn → FoldsTo (Leads kept) s rows t → FoldsTo (Leads known) u lines v → AllZip IsSameRow rows lines
  same_ways [] [] s t u v zip all each tops tips h g = tt
  same_ways [] (l ∷ ls) s t u v zip all each tops tips h g = absurd zip
  same_ways (r ∷ rs) [] s t u v zip all each tops tips h g = absurd zip
  same_ways (r ∷ rs) (l ∷ ls) s t u v zip all each tops tips h g =
      let left : h.0.1 ≡ map row_shown rs = let whole : r.shown ∷ h.0.1 ≡ r.shown ∷ map row_shown rs = sym h.1.next ∙ all in cc in
      let others : g.0.1 ≡ map row_shown ls = let whole : l.shown ∷ g.0.1 ≡ l.shown ∷ map row_shown ls = sym g.1.next ∙ each in cc in
      let rest : AllZip IsSameShown h.0.1 g.0.1 =
      subst (λ xs. AllZip IsSameShown xs g.0.1) (sym left) (subst (λ ys. AllZip IsSameShown (map row_shown rs) ys) (sym others) (shown_zip rs ls zip.1)) in
      let back : KeepAlike known kept = λ id. sym (same id) in
      let row : r.ways.row ≡ l.ways.row = same_way (IsRowIn kept) (IsRowIn known) (row_passes kept known same) (row_passes known kept back) (one_row kept known same) r.shown l.shown zip.0
      h.0.1 g.0.1 rest s.0.row u.0.row tops r.ways.row l.ways.row h.1.row g.1.row in
      let drawn : r.ways.drawn ≡ l.ways.drawn = same_way (IsBoxIn kept) (IsBoxIn known) (box_passes kept known same) (box_passes known kept back) (one_box kept known same) r.shown l.shown zip.0
      h.0.1 g.0.1 rest s.0.drawn u.0.drawn tips r.ways.drawn l.ways.drawn h.1.drawn g.1.drawn in (
        record { shown = zip.0; row = row; drawn = drawn },
        same_ways rs ls h.0 t g.0 v zip.1 left others
            (h.1.row_top ∙ (λ i. top_after (tops i) (zip.0.depth i) (row i)) ∙ sym g.1.row_top)
            (h.1.drawn_top ∙ (λ i. top_after (tips i) (zip.0.depth i) (drawn i)) ∙ sym g.1.drawn_top) h.2 g.2,
      )
