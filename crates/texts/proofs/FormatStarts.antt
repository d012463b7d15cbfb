-- Where formats begin, and searches for that, run by run.
use Rattle.std.proofs.Common.{◌≡◌, ℕ, ◌+◌, ◌-◌, ◌<◌, ◌≤◌, Bool, true, false, cond, [], length, get_or, Some, None, refl, sym, ap, ◌∙◌, arith, lit<}
use Rattle.std.specs.Prelude.{◌==◌, ◌||◌, ◌&&◌, nat_lt, not, slice_get, Option, if◌then◌else◌}
use Rattle.std.specs.Option.{option_map_or}
use Rattle.std.proofs.lemmas.Bool.{eqb-true, ltb-true, ltb-false}
use Rattle.std.proofs.lemmas.List.Elements.{All-from_recursion}
use Rattle.schema.specs.SameBy.{same_by-decides}
use Rattle.model.specs.Styles.{Style, style_of, coded_style, same_style}
use Rattle.model.specs.TextRuns.{SentRun}
use Rattle.model.specs.FlatText.{FlatText, ShownRun, Position, start_at, end_at, document_start, document_end, first_run, last_run, run_has, begins_format, biased_to_end}
use Rattle.model.specs.Moves.{start_from, start_before, backward_to_format_start}
use Rattle.model.proofs.Text.Searching.{first_next, first_end, last_next}
use Rattle.views.specs.declared.runs.Run.{Run}
use Rattle.views.specs.declared.node.node_ref.NodeRef.{NodeRef}
use Rattle.views.specs.Nodes.{world_at, id_at}
use Rattle.views.specs.Runs.{run_world, text_root_of, run_id, run_of, sent_of, ids_after, ids_before, IsAfter, IsPreviousRun}
use Rattle.text_boundaries.specs.RunNumbers.{number_in, text_around}
use Rattle.texts.specs.Positions.{node_text}
use Rattle.texts.specs.declared.looks.Look.TheVariants.{Direction}
use Rattle.texts.specs.declared.formats.TheConstants.{FORMAT}
use Rattle.texts.specs.Looks.{AreSame}
use Rattle.texts.specs.Formats.{style_at}
use Rattle.text_boundaries.proofs.FlatRuns.{shown_of, shown_at_number, runs_counted, last_number, first_number, number_next, number_previous, more_runs}

-- ---- one format

false_from : (b : Bool) → (b ≡ true → ⊥) → false ≡ b
false_from true off = absurd (off refl)
false_from false off = refl

-- two nodes have the same of the look with this number
abbrev pub IsAlikeAt : NodeRef → NodeRef → ℕ → Type 0
IsAlikeAt a b k = AreSame (get_or FORMAT k Direction) (world_at b) (id_at a) (id_at b)

module _ (a b : NodeRef) (same : world_at a ≡ world_at b) where
  abbrev own : Style
  own = style_of (world_at b) (id_at a)

  own_is : style_at a ≡ own
  own_is = ap (λ w. style_of w (id_at a)) same

  pub one_format : ((k : ℕ) → k < 11 → IsAlikeAt a b k) → true ≡ same_style (style_at a) (style_at b)
  unfolding same_style
  one_format alike =
      let one : own ≡ style_at b = λ i. record {
        font_family = alike 0 (lit< tt) i;
        language = alike 1 (lit< tt) i;
        font_size = alike 2 (lit< tt) i;
        font_weight = alike 3 (lit< tt) i;
        background_color = alike 4 (lit< tt) i;
        foreground_color = alike 5 (lit< tt) i;
        overline = alike 6 (lit< tt) i;
        strikethrough = alike 7 (lit< tt) i;
        underline = alike 8 (lit< tt) i;
        text_align = alike 9 (lit< tt) i;
        vertical_offset = alike 10 (lit< tt) i;
      } in
      sym ((same_by-decides coded_style (style_at a) (style_at b)).1 (own_is ∙ one))

  all_alike : own ≡ style_at b → (k : ℕ) → k < 11 → IsAlikeAt a b k
  all_alike s k = All-from_recursion (λ what. AreSame what (world_at b) (id_at a) (id_at b)) FORMAT (
    ap (λ (x : Style). x.font_family) s,
    (
      ap (λ (x : Style). x.language) s,
      (
        ap (λ (x : Style). x.font_size) s,
        (
          ap (λ (x : Style). x.font_weight) s,
          (
            ap (λ (x : Style). x.background_color) s,
            (
              ap (λ (x : Style). x.foreground_color) s,
              (
                ap (λ (x : Style). x.overline) s,
                (
                  ap (λ (x : Style). x.strikethrough) s,
                  (
                    ap (λ (x : Style). x.underline) s,
                    (
                      ap (λ (x : Style). x.text_align) s,
                      (
                        ap (λ (x : Style). x.vertical_offset) s,
                        tt,
                      ),
                    ),
                  ),
                ),
              ),
            ),
          ),
        ),
      ),
    ),
  ) k Direction

  pub other_format : (k : ℕ) → k < 11 → (IsAlikeAt a b k → ⊥) → false ≡ same_style (style_at a) (style_at b)
  unfolding same_style
  other_format k lt off =
      false_from (same_style (style_at a) (style_at b)) (λ e. off (all_alike (sym own_is ∙ (same_by-decides coded_style (style_at a) (style_at b)).0 e) k lt))

-- ---- where a format begins

not_first : (k : ℕ) → (k + 1 == 0) ≡ false
not_first k = go (k + 1 == 0) refl
  where
    go : (c : Bool) → (k + 1 == 0) ≡ c → (k + 1 == 0) ≡ false
    go true e = absurd (let none : k + 1 ≡ 0 = eqb-true (k + 1) 0 e in omega (arith, none))
    go false e = e

-- of a run after another one
pub begins_after_run : (r s : Run) → IsAfter r s → not (same_style (style_of (run_world r) (run_id r)) (style_of (run_world s) (run_id s))) ≡ begins_format (text_around s) (number_in s)
begins_after_run r s after =
    let t = text_around s in
    let number : number_in s ≡ number_in r + 1 = number_next r s after in
    let first : slice_get t (number_in r + 1 - 1) ≡ Some (shown_of r) =
    (let back : number_in r + 1 - 1 ≡ number_in r = omega arith in ap (slice_get t) back ∙ ap (λ n. slice_get (node_text n) (number_in r)) after.root ∙ shown_at_number r) in
    let second : slice_get t (number_in r + 1) ≡ Some (shown_of s) = ap (slice_get t) (sym number) ∙ shown_at_number s in
    sym (ap (begins_format t) number
    ∙ ap (λ b. b || not (option_map_or (λ (x : ShownRun). run_has (λ y. same_style x.style y.style) t (number_in r + 1)) (slice_get t (number_in r + 1 - 1)) false)) (not_first (number_in r))
    ∙ ap (λ o. not (option_map_or (λ (x : ShownRun). run_has (λ y. same_style x.style y.style) t (number_in r + 1)) o false)) first
    ∙ ap (λ o. not (option_map_or (λ (y : ShownRun). same_style (shown_of r).style y.style) o false)) second)

view_style : (v : NodeRef) (r : Run) → world_at v ≡ world_at (text_root_of r) → run_of v ≡ sent_of r → style_at v ≡ style_of (run_world r) (run_id r)
view_style v r world is = ap (λ w. style_of w (id_at v)) world ∙ ap (λ (x : SentRun). style_of (run_world r) x.id) is

-- by the views of both
pub begins_after_views : (r s : Run) → IsAfter r s → (u v : NodeRef) → world_at u ≡ world_at (text_root_of r) → run_of u ≡ sent_of r → world_at v ≡ world_at (text_root_of s) → run_of v ≡ sent_of s →
    not (same_style (style_at u) (style_at v)) ≡ begins_format (text_around s) (number_in s)
begins_after_views r s after u v wu iu wv iv =
    ap (λ a. not (same_style a (style_at v))) (view_style u r wu iu) ∙ ap (λ b. not (same_style (style_of (run_world r) (run_id r)) b)) (view_style v s wv iv) ∙ begins_after_run r s after

pub begins_at_first : (r : Run) → ids_before r ≡ [] → true ≡ begins_format (text_around r) (number_in r)
begins_at_first r e = sym (ap (begins_format (text_around r)) (first_number r e))

-- ---- searches

-- after a run, and up to one
abbrev pub search_after : Run → ℕ → Option ℕ
search_after root k = first_run (text_around root) (k + 1) (begins_format (text_around root))

abbrev pub search_upto : Run → ℕ → Option ℕ
search_upto root k = last_run (text_around root) (k + 1) (begins_format (text_around root))

module _ (root : Run) (run : Run) (same : text_root_of run ≡ text_root_of root) where
  same_length : length (text_around run) ≡ length (text_around root)
  same_length = ap (λ n. length (node_text n)) same

  in_text : number_in run < length (text_around root)
  in_text = let n = runs_counted run in omega (arith, n, same_length)

  tested : (b : Bool) → b ≡ begins_format (text_around run) (number_in run) → begins_format (text_around root) (number_in run) ≡ b
  tested b is = sym (is ∙ ap (λ n. begins_format (node_text n) (number_in run)) same)

  abbrev starts : ℕ → Bool
  starts = begins_format (text_around root)

  -- at the next run the search ends or goes on
  module _ (s : Run) (after : IsAfter run s) (b : Bool) (is : b ≡ begins_format (text_around s) (number_in s)) where
    step_forth : search_after root (number_in run) ≡ cond b (Some (number_in s)) (search_after root (number_in s))
    step_forth =
        let number : number_in s ≡ number_in run + 1 = number_next run s after in
        let more : number_in s < length (text_around root) = (let m = more_runs run s after in omega (arith, m, same_length, number)) in
        let test : starts (number_in s) ≡ b = sym (is ∙ ap (λ n. begins_format (node_text n) (number_in s)) (after.root ∙ same)) in
        ap (λ k. first_run (text_around root) k starts) (sym number)
        ∙ first_next (length (text_around root)) (number_in s) starts more
        ∙ ap (λ x. cond x (Some (number_in s)) (first_run (text_around root) (number_in s + 1) starts)) test

    pub starts_at_next : b ≡ true → search_after root (number_in run) ≡ Some (number_in s)
    starts_at_next e = step_forth ∙ ap (λ x. cond x (Some (number_in s)) (search_after root (number_in s))) e

    pub starts_later : b ≡ false → search_after root (number_in run) ≡ search_after root (number_in s)
    starts_later e = step_forth ∙ ap (λ x. cond x (Some (number_in s)) (search_after root (number_in s))) e

  pub starts_nowhere : ids_after run ≡ [] → search_after root (number_in run) ≡ None
  starts_nowhere e = first_end (length (text_around root)) (number_in run + 1) starts (let l = last_number run e in omega (arith, l, same_length))

  -- at a run the search back ends, or goes on before it
  step_back : (b : Bool) → b ≡ begins_format (text_around run) (number_in run) → search_upto root (number_in run) ≡ cond b (Some (number_in run)) (last_run (text_around root) (number_in run) starts)
  step_back b is =
      last_next (length (text_around root)) (number_in run) starts in_text ∙ ap (λ x. cond x (Some (number_in run)) (last_run (text_around root) (number_in run) starts)) (tested b is)

  pub started_here : (b : Bool) → b ≡ begins_format (text_around run) (number_in run) → b ≡ true → search_upto root (number_in run) ≡ Some (number_in run)
  started_here b is e = step_back b is ∙ ap (λ x. cond x (Some (number_in run)) (last_run (text_around root) (number_in run) starts)) e

  pub started_first : ids_before run ≡ [] → search_upto root (number_in run) ≡ Some (number_in run)
  started_first e = step_back true (begins_at_first run e)

  pub started_before : (b : Bool) → b ≡ begins_format (text_around run) (number_in run) → b ≡ false → (s : Run) → IsPreviousRun run s → search_upto root (number_in run) ≡ search_upto root (number_in s)
  started_before b is e s before =
      step_back b is ∙ ap (λ x. cond x (Some (number_in run)) (last_run (text_around root) (number_in run) starts)) e
      ∙ ap (λ k. last_run (text_around root) k starts) (sym (number_previous run s before))

-- ---- how far a search has come

pub at_start_from : (t : FlatText) (number from : ℕ) (test : ℕ → Bool) → first_run t from test ≡ Some number → start_at number ≡ start_from t from test
at_start_from t number from test found = sym (ap (λ o. option_map_or start_at o (document_end t)) found)

-- forwards, no format begins after one run up to the other
pub record IsSoughtFrom (start run : Run) : Type 0 where
  pub same : text_root_of run ≡ text_root_of start
  pub sought : search_after start (number_in start) ≡ search_after start (number_in run)

-- backwards, none begins from one run down to after the other
pub record IsSoughtUpTo (start run : Run) : Type 0 where
  pub same : text_root_of run ≡ text_root_of start
  pub sought : search_upto start (number_in start) ≡ search_upto start (number_in run)

module _ (start run s : Run) (b : Bool) where
  pub sought_next : IsSoughtFrom start run → IsAfter run s → b ≡ begins_format (text_around s) (number_in s) → b ≡ false → IsSoughtFrom start s
  sought_next way after is e = record { same = after.root ∙ way.same; sought = way.sought ∙ starts_later start run way.same s after b is e }

  pub found_next : IsSoughtFrom start run → IsAfter run s → b ≡ begins_format (text_around s) (number_in s) → b ≡ true
      → start_at (number_in s) ≡ start_from (text_around start) (number_in start + 1) (begins_format (text_around start))
  found_next way after is e =
      at_start_from (text_around start) (number_in s) (number_in start + 1) (begins_format (text_around start)) (way.sought ∙ starts_at_next start run way.same s after b is e)

  pub sought_previous : IsSoughtUpTo start run → IsPreviousRun run s → b ≡ begins_format (text_around run) (number_in run) → b ≡ false → IsSoughtUpTo start s
  sought_previous way before is e = record { same = before.root ∙ way.same; sought = way.sought ∙ started_before start run way.same b is e s before }

-- ---- moves

pub at_no_start : (t : FlatText) (from : ℕ) (test : ℕ → Bool) → first_run t from test ≡ None → document_end t ≡ start_from t from test
at_no_start t from test found = sym (ap (λ o. option_map_or start_at o (document_end t)) found)

-- back from the end side of a position
pub from_end_side : (t : FlatText) (p : Position) → 0 < length t → start_before t ((biased_to_end t p).run + 1) (begins_format t) ≡ backward_to_format_start t p
from_end_side t p some = go (p.index == 0) (nat_lt 0 p.run) refl
  where
    go : (a b : Bool) → nat_lt 0 p.run ≡ b →
        start_before t ((if a && b then end_at t (p.run - 1) else p).run + 1) (begins_format t) ≡ start_before t (if a then p.run else p.run + 1) (begins_format t)
    go true true e = let later : 0 < p.run = ltb-true 0 p.run e in let back : p.run - 1 + 1 ≡ p.run = omega (arith, later) in ap (λ k. start_before t k (begins_format t)) back
    go true false e =
        let none : p.run ≤ 0 = ltb-false 0 p.run e in
        let first : p.run ≡ 0 = omega (arith, none) in
        ap (λ k. start_before t (k + 1) (begins_format t)) first
        ∙ ap (λ o. option_map_or start_at o document_start) (last_next (length t) 0 (begins_format t) some)
        ∙ sym (ap (λ k. start_before t k (begins_format t)) first)
    go false b e = refl
