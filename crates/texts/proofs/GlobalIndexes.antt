-- Indexes in the whole text, run by run.
use Rattle.std.proofs.Common.{◌≡◌, ℕ, zero, suc, ◌+◌, ◌-◌, ◌^◌, ◌<◌, ◌≤◌, Bool, true, false, List, [], ◌∷◌, ◌++◌, length, take, map, refl, sym, ap, subst, ◌∙◌, arith, append_assoc}
use Rattle.std.specs.Prelude.{◌==◌, nat_lt, Some, None, option_map, if◌then◌else◌, slice_get, sum_by}
use Rattle.std.specs.Option.{option_or, option_map_or}
use Rattle.std.proofs.Math.Seq.{take-append-add}
use Rattle.std.proofs.lemmas.Bool.{and_parts, eqb-true, le-ltb, lt-ltb, ltb-true}
use Rattle.std.proofs.lemmas.List.{take-append-le}
use Rattle.std.proofs.lemmas.List.Sums.{sum_by-cons, sum_by-append, sum_by-take-le}
use Rattle.std.proofs.lemmas.Option.{get_or_from_slice_get, slice_get_within}
use Rattle.model.specs.declared.FullNodeId.{FullNodeId}
use Rattle.model.specs.World.{World}
use Rattle.schema.specs.RunFits.{is_cut_by}
use Rattle.model.specs.TextRuns.{SentRun, sent_runs, run_value, said_count, sent_characters, are_cut, is_password, supports_text_ranges}
use Rattle.model.specs.FlatText.{FlatText, ShownRun, characters, count, count_in, total, start_of, Position, offset, document_end, start_side, shown_character, needs_masking, shown_run, flat_text}
use Rattle.model.specs.Moves.{length_before, global_index, holder_of, position_of}
use Rattle.model.proofs.Text.TextFacts.{is_text, start_next}
use Rattle.model.proofs.Text.WholeTexts.{at_each}
use Rattle.model.proofs.Text.Searching.{first_is, first_is_none}
use Rattle.model.proofs.Text.Sides.{start_rises, start_side_is}
use Rattle.model.proofs.Text.Indexes.{eq_same, start_at_end, total_is, before_rises}
use Rattle.views.specs.declared.node.node_ref.NodeRef.{NodeRef}
use Rattle.texts.specs.declared.indexes.Units.{Units}
use Rattle.texts.specs.declared.position.TextPosition.{TextPosition}
use Rattle.views.specs.declared.runs.Run.{Run}
use Rattle.views.specs.Nodes.{world_at, id_at}
use Rattle.views.specs.Runs.{text_root_of, run_world, root_id, sent_of, ids_before, ids_after, IsPreviousRun, IsAfter}
use Rattle.text_boundaries.specs.RunNumbers.{number_in, text_around}
use Rattle.texts.specs.Positions.{node_text, position_text, flat_position}
use Rattle.texts.specs.GlobalIndexes.{unit_len, IsCut, length_to, length_of}
use Rattle.text_boundaries.proofs.FlatRuns.{sent_at_number, shown_at_number, count_at_number, runs_counted, first_number, last_number, number_next, number_previous}
use Rattle.texts.proofs.TextEnds.{at_document_end}
use Rattle.texts.proofs.UnitCounts.{run_le_bytes}

-- ---- up to a place in a run

abbrev run_characters : FlatText → ℕ → List (List ℕ)
run_characters t k = option_map_or (λ (s : ShownRun). s.characters) (slice_get t k) []

taken : (t : FlatText) (k i : ℕ) → k < length t → i ≤ count_in t k → take (start_of t k + i) (characters t) ≡ characters (take k t) ++ take i (run_characters t k)
taken [] k i h le = absurd (omega (arith, h))
taken (s ∷ t) zero i h le = let e : 0 + i ≡ i = omega arith in ap (λ n. take n (s.characters ++ characters t)) e ∙ take-append-le i s.characters (characters t) le
taken (s ∷ t) (suc k) i h le =
    let e : start_of (s ∷ t) (suc k) + i ≡ length s.characters + (start_of t k + i) = omega (arith, sum_by-cons count s (take k t)) in
    ap (λ n. take n (s.characters ++ characters t)) e ∙ take-append-add s.characters (characters t) (start_of t k + i)
    ∙ ap (λ xs. s.characters ++ xs) (taken t k i (omega (arith, h)) le) ∙ sym (append_assoc s.characters (characters (take k t)) (take i (run_characters t k)))

module _ (len : List ℕ → ℕ) (t : FlatText) where
  up_to : (k i : ℕ) → k < length t → i ≤ count_in t k → length_before len t (start_of t k + i) ≡ sum_by len (characters (take k t)) + sum_by len (take i (run_characters t k))
  up_to k i h le = ap (sum_by len) (taken t k i h le) ∙ sum_by-append len (characters (take k t)) (take i (run_characters t k))

  before_in_run : (k i : ℕ) → k < length t → i ≤ count_in t k → length_before len t (start_of t k + i) ≡ length_before len t (start_of t k) + sum_by len (take i (run_characters t k))
  before_in_run k i h le =
      let at : start_of t k + 0 ≡ start_of t k = omega arith in
      omega (arith, up_to k i h le, up_to k 0 h (omega arith), ap (length_before len t) at)

  -- ---- the position of an index

  abbrev holds : ℕ → ℕ → Bool
  holds g k = nat_lt g (length_before len t (k + 1))

  pub position_within : (r i g : ℕ) → r < length t → i < count_in t r → length_before len t (start_of t r + i) ≤ g → g < length_before len t (start_of t r + i + 1) →
      position_of len t g ≡ Some (record { run = r; index = i })
  position_within r i g h within low high =
      let q : Position = record { run = r; index = i } in
      let up : start_of t (r + 1) ≤ start_of t (length t) = start_rises t (r + 1) (length t) (omega (arith, h)) in
      let less : offset t q < total t = omega (arith, up, within, start_next t r, start_at_end t) in
      let found : holder_of len t g ≡ Some (offset t q) =
      first_is (total t) 0 (offset t q) (holds g) (omega arith) less (lt-ltb g (length_before len t (offset t q + 1)) high)
      (λ k a b. le-ltb g (length_before len t (k + 1)) (omega (arith, low, before_rises len t (k + 1) (offset t q) (omega (arith, b)) (omega (arith, less, total_is t))))) in
      ap (λ o. option_or (option_map (start_side t) o) (if g == length_before len t (total t) then Some (document_end t) else None)) found
      ∙ ap Some (start_side_is t q (record { run = h; within = λ m. within; index = omega (arith, within) }))

  past_all : (g : ℕ) → length_before len t (total t) ≤ g → position_of len t g ≡ (if g == length_before len t (total t) then Some (document_end t) else None)
  past_all g h =
      let none : holder_of len t g ≡ None =
      first_is_none (total t) 0 (holds g) (omega arith)
      (λ k a b. le-ltb g (length_before len t (k + 1)) (omega (arith, h, before_rises len t (k + 1) (total t) (omega (arith, b)) (omega (arith, total_is t))))) in
      ap (λ o. option_or (option_map (start_side t) o) (if g == length_before len t (total t) then Some (document_end t) else None)) none

  pub position_at_end : (g : ℕ) → g ≡ length_before len t (total t) → position_of len t g ≡ Some (document_end t)
  position_at_end g e =
      past_all g (omega (arith, e)) ∙ ap (λ k. if g == k then Some (document_end t) else None) (sym e) ∙ ap (λ b. if b then Some (document_end t) else None) (eq_same g)

  pub position_past : (g : ℕ) → length_before len t (total t) < g → position_of len t g ≡ None
  position_past g h = past_all g (omega (arith, h)) ∙ go (g == length_before len t (total t)) refl
    where
      go : (b : Bool) → (g == length_before len t (total t)) ≡ b → (if b then Some (document_end t) else None) ≡ None
      go true e = absurd (let same = eqb-true g (length_before len t (total t)) e in omega (arith, same, h))
      go false e = refl

-- ---- the runs of a root

pub is_cut : (r : Run) → supports_text_ranges (run_world r) (root_id r) ≡ true → IsCut (sent_of r)
is_cut r text =
    let runs = sent_runs (run_world r) (root_id r) in
    let at = sent_at_number r in
    ap (λ s. is_cut_by (run_value s) s.node.character_lengths) (sym (get_or_from_slice_get runs (number_in r) (sent_of r) (sent_of r) at))
    ∙ at_each (λ s. is_cut_by (run_value s) s.node.character_lengths) runs (number_in r) (sent_of r) (is_text (run_world r) (root_id r) text).cut (slice_get_within runs (number_in r) (sent_of r) at)

module _ (units : Units) where
  -- what is before a place in a run: what is before the run, and what the run has up to there
  in_run_around : (r : Run) (i : ℕ) → i ≤ said_count (sent_of r) →
      length_before (unit_len units) (text_around r) (start_of (text_around r) (number_in r) + i)
      ≡ length_before (unit_len units) (text_around r) (start_of (text_around r) (number_in r)) + length_to units (needs_masking (run_world r) (root_id r)) (sent_of r) i
  in_run_around r i h =
      let t = text_around r in
      before_in_run (unit_len units) t (number_in r) i (slice_get_within t (number_in r) _ (shown_at_number r)) (omega (arith, h, count_at_number r))
      ∙ ap (λ o. length_before (unit_len units) t (start_of t (number_in r)) + sum_by (unit_len units) (take i (option_map_or (λ (s : ShownRun). s.characters) o []))) (shown_at_number r)

  pub in_run : (n : NodeRef) (r : Run) → text_root_of r ≡ n → (masked : Bool) → masked ≡ needs_masking (world_at n) (id_at n) → (i : ℕ) → i ≤ said_count (sent_of r) →
      length_before (unit_len units) (node_text n) (start_of (node_text n) (number_in r) + i) ≡ length_before (unit_len units) (node_text n) (start_of (node_text n) (number_in r)) + length_to units masked (sent_of r) i
  in_run n r same masked is i h =
      subst (λ m. length_before (unit_len units) (node_text m) (start_of (node_text m) (number_in r) + i)
      ≡ length_before (unit_len units) (node_text m) (start_of (node_text m) (number_in r)) + length_to units (needs_masking (world_at m) (id_at m)) (sent_of r) i) same (in_run_around r i h)
      ∙ ap (λ b. length_before (unit_len units) (node_text n) (start_of (node_text n) (number_in r)) + length_to units b (sent_of r) i) (sym is)

-- ---- indexes fit

module _ (units : Units) (w : World) (root : FullNodeId) (password masked : Bool) where
  runs_le_bytes : (runs : List SentRun) → are_cut runs ≡ true → sum_by (unit_len units) (characters (map (shown_run w root password masked) runs)) ≤ sum_by (λ r. length (run_value r)) runs
  runs_le_bytes [] e = omega arith
  runs_le_bytes (r ∷ runs) e =
      let c = and_parts (is_cut_by (run_value r) r.node.character_lengths) _ e in
      let rest = runs_le_bytes runs c.1 in
      let own = run_le_bytes units r masked c.0 in
      omega (arith, rest, own, sum_by-append (unit_len units) (map (shown_character masked) (sent_characters r)) (characters (map (shown_run w root password masked) runs)), sum_by-cons (λ (s : SentRun). length (run_value s)) r runs)

module _ (units : Units) where
  all_fits : (w : World) (root : FullNodeId) → supports_text_ranges w root ≡ true → sum_by (unit_len units) (characters (flat_text w root)) < 2 ^ 64
  unfolding flat_text
  all_fits w root e =
      let text = is_text w root e in
      let small = ltb-true (sum_by (λ r. length (run_value r)) (sent_runs w root)) (2 ^ 64) text.size in
      let fit = runs_le_bytes units w root (is_password w root) (needs_masking w root) (sent_runs w root) text.cut in
      omega (arith, small, fit)

  pub index_fits : (p : TextPosition) → global_index (unit_len units) (position_text p) (flat_position p) < 2 ^ 64
  index_fits p =
      let fits = all_fits (run_world p.run) (root_id p.run) p.text in
      let le = sum_by-take-le (unit_len units) (characters (position_text p)) (offset (position_text p) (flat_position p)) in
      omega (arith, fits, le)

-- ---- run by run

pub is_cut_in : (n : NodeRef) (r : Run) → text_root_of r ≡ n → supports_text_ranges (world_at n) (id_at n) ≡ true → IsCut (sent_of r)
is_cut_in n r same text = is_cut r (subst (λ m. supports_text_ranges (world_at m) (id_at m) ≡ true) (sym same) text)

-- what is before a run
abbrev pub units_before : Units → NodeRef → Run → ℕ
units_before units n r = length_before (unit_len units) (node_text n) (start_of (node_text n) (number_in r))

module _ (units : Units) (n : NodeRef) (masked : Bool) (is : masked ≡ needs_masking (world_at n) (id_at n)) where
  abbrev before_run : Run → ℕ
  before_run r = units_before units n r

  -- what is before the next run
  pub past_run : (r : Run) → text_root_of r ≡ n → length_before (unit_len units) (node_text n) (start_of (node_text n) (number_in r + 1)) ≡ before_run r + length_of units masked (sent_of r)
  past_run r same =
      let t = node_text n in
      let counted : count_in t (number_in r) ≡ said_count (sent_of r) = ap (λ m. count_in (node_text m) (number_in r)) (sym same) ∙ count_at_number r in
      let at : start_of t (number_in r + 1) ≡ start_of t (number_in r) + said_count (sent_of r) = omega (arith, counted, start_next t (number_in r)) in
      ap (length_before (unit_len units) t) at ∙ in_run units n r same masked is (said_count (sent_of r)) (omega arith)

  pub one_back : (r s : Run) (sum count whole : ℕ) → text_root_of r ≡ n → IsPreviousRun r s → count ≡ length_of units masked (sent_of s) → sum + before_run r ≡ whole → sum + count + before_run s ≡ whole
  one_back r s sum count whole same back counted summed =
      let at : length_before (unit_len units) (node_text n) (start_of (node_text n) (number_in s + 1)) ≡ before_run r = ap (λ k. length_before (unit_len units) (node_text n) (start_of (node_text n) k)) (number_previous r s back) in
      omega (arith, at, past_run s (back.root ∙ same), counted, summed)

  pub one_on : (r s : Run) (left count index : ℕ) → text_root_of r ≡ n → IsAfter r s → count ≡ length_of units masked (sent_of r) → count ≤ left → left + before_run r ≡ index → left - count + before_run s ≡ index
  one_on r s left count index same after counted fits summed =
      let at : before_run s ≡ length_before (unit_len units) (node_text n) (start_of (node_text n) (number_in r + 1)) = ap (λ k. length_before (unit_len units) (node_text n) (start_of (node_text n) k)) (number_next r s after) in
      omega (arith, at, past_run r same, counted, fits, summed)

  pub none_before : (r : Run) → ids_before r ≡ [] → before_run r ≡ 0
  none_before r first = ap (λ k. length_before (unit_len units) (node_text n) (start_of (node_text n) k)) (first_number r first)

  -- past the last run there is nothing
  pub all_before : (r : Run) (left count index : ℕ) → text_root_of r ≡ n → ids_after r ≡ [] → count ≡ length_of units masked (sent_of r) → count ≤ left → left + before_run r ≡ index →
      left - count + length_before (unit_len units) (node_text n) (total (node_text n)) ≡ index
  all_before r left count index same last counted fits summed =
      let end : number_in r + 1 ≡ length (node_text n) = last_number r last ∙ ap (λ m. length (node_text m)) same in
      let at : length_before (unit_len units) (node_text n) (start_of (node_text n) (number_in r + 1)) ≡ length_before (unit_len units) (node_text n) (total (node_text n)) =
      ap (λ k. length_before (unit_len units) (node_text n) (start_of (node_text n) k)) end ∙ ap (length_before (unit_len units) (node_text n)) (start_at_end (node_text n)) in
      omega (arith, at, past_run r same, counted, fits, summed)

  -- a character of a run holds an index
  pub held : (r : Run) (i left index : ℕ) → text_root_of r ≡ n → left + before_run r ≡ index → i < said_count (sent_of r) → length_to units masked (sent_of r) i ≤ left → left < length_to units masked (sent_of r) (i + 1) →
      position_of (unit_len units) (node_text n) index ≡ Some (record { run = number_in r; index = i })
  held r i left index same summed within low high =
      let t = node_text n in
      let counted : count_in t (number_in r) ≡ said_count (sent_of r) = ap (λ m. count_in (node_text m) (number_in r)) (sym same) ∙ count_at_number r in
      let here : number_in r < length t = let k = runs_counted r in let l = ap (λ m. length (node_text m)) same in omega (arith, k, l) in
      let at : start_of t (number_in r) + (i + 1) ≡ start_of t (number_in r) + i + 1 = omega arith in
      position_within (unit_len units) t (number_in r) i index here (omega (arith, counted, within))
      (omega (arith, in_run units n r same masked is i (omega (arith, within)), low, summed))
      (omega (arith, in_run units n r same masked is (i + 1) (omega (arith, within)), high, summed, ap (length_before (unit_len units) t) at))

  -- at the end of the text, and past it
  pub held_by_end : (r : Run) (i left index : ℕ) → text_root_of r ≡ n → ids_after r ≡ [] → i ≡ said_count (sent_of r) → left + length_before (unit_len units) (node_text n) (total (node_text n)) ≡ index → left ≡ 0 →
      position_of (unit_len units) (node_text n) index ≡ Some (record { run = number_in r; index = i })
  held_by_end r i left index same last counted summed none =
      position_at_end (unit_len units) (node_text n) index (omega (arith, summed, none)) ∙ ap Some (sym (at_document_end n r i (record { root = same; order = last }) counted))

  pub held_by_none : (left index : ℕ) → left + length_before (unit_len units) (node_text n) (total (node_text n)) ≡ index → 0 < left → position_of (unit_len units) (node_text n) index ≡ None
  held_by_none left index summed some = position_past (unit_len units) (node_text n) index (omega (arith, summed, some))
