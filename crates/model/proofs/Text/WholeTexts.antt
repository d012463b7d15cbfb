-- A well-formed text has a run, empty ones only last, links both ways, and words that rise.
use Rattle.std.proofs.Common.{◌≡◌, ℕ, suc, zero, ◌+◌, ◌-◌, ◌<◌, ◌≤◌, Bool, true, false, List, [], ◌∷◌, length, map, drop, get_or, Option, Some, None, refl, sym, ap, subst, ◌∙◌, arith, add-one}
use Rattle.std.specs.Prelude.{not, ◌&&◌, ◌||◌, nat_lt, if◌then◌else◌, is_some, is_none, slice_get, slice_index, option_map}
use Rattle.std.specs.Option.{option_map_or}
use Rattle.std.specs.List.{list_all}
use Rattle.std.specs.List.Sorted.{IsStrictlyIncreasing}
use Rattle.std.proofs.lemmas.Bool.{and_parts, ltb-true, ltb-false}
use Rattle.std.proofs.lemmas.List.{length-map}
use Rattle.std.proofs.lemmas.Option.{slice_get-map, slice_get-get_or, slice_get_past}
use Rattle.schema.specs.NodeData.{empty_node}
use Rattle.schema.specs.declared.NodeId.{NodeId}
use Rattle.schema.specs.declared.Role.TheVariants.{TextRun}
use Rattle.model.specs.declared.FullNodeId.{FullNodeId}
use Rattle.model.specs.World.{World, in_tree}
use Rattle.model.specs.RoleClasses.{holds_text}
use Rattle.model.specs.Upward.{says}
use Rattle.schema.specs.RunFits.{neighbours}
use Rattle.model.specs.TextRuns.{SentRun, sent_runs, cut_by, said_count, leads_to, links_agree, has_rising_words, is_password, IsText}
use Rattle.model.specs.FlatText.{FlatText, ShownRun, shown_character, needs_masking, shown_run, flat_text, count, count_in, begins_line, ends_line, words_in}
use Rattle.model.specs.TextLaws.{IsWhole}

-- ---- lists

pub at_each : {X : Type 0} (test : X → Bool) (xs : List X) (r : ℕ) (d : X) → list_all test xs ≡ true → r < length xs → test (get_or xs r d) ≡ true
at_each test [] r d e h = absurd (omega arith)
at_each test (x ∷ xs) zero d e h = (and_parts (test x) _ e).0
at_each test (x ∷ xs) (suc r) d e h = at_each test xs r d (and_parts (test x) _ e).1 (omega arith)

at_neighbours : {X : Type 0} (test : X × X → Bool) (xs : List X) (r : ℕ) (d : X) → list_all test (neighbours xs) ≡ true → suc r < length xs → test (get_or xs r d, get_or xs (suc r) d) ≡ true
at_neighbours test [] r d e h = absurd (omega arith)
at_neighbours test (x ∷ []) r d e h = absurd (omega arith)
at_neighbours test (x ∷ y ∷ ys) zero d e h = (and_parts (test (x, y)) _ e).0
at_neighbours test (x ∷ y ∷ ys) (suc r) d e h = at_neighbours test (y ∷ ys) r d (and_parts (test (x, y)) _ e).1 (omega arith)

-- ---- runs

some_run : SentRun
some_run = record { id = in_tree 0 (record { 0 = 0 }); node = empty_node TextRun }

linked_same : (n p : Option NodeId) (a b : SentRun) → ((is_none n && is_none p) || (leads_to n b && leads_to p a)) ≡ true → not (is_some p) ≡ not (is_some n)
linked_same None None a b e = refl
linked_same None (Some q) a b e = let f : false ≡ true = e in cc
linked_same (Some m) None a b e = let f : (leads_to (Some m) b && false) ≡ true = e in let g = and_parts (leads_to (Some m) b) false f in let h : false ≡ true = g.1 in cc
linked_same (Some m) (Some q) a b e = refl

cut_count : (g : List ℕ → List ℕ) (bs ns : List ℕ) → length (map g (cut_by bs ns)) ≡ length ns
cut_count g bs [] = refl
cut_count g bs (n ∷ ns) = ap suc (cut_count g (drop n bs) ns)

module _ (w : World) (root : FullNodeId) (password masked : Bool) (runs : List SentRun) where
  abbrev shown : FlatText
  shown = map (shown_run w root password masked) runs

  at_run : (r : ℕ) → r < length runs → slice_get shown r ≡ Some (shown_run w root password masked (get_or runs r some_run))
  at_run r h = slice_get-map (shown_run w root password masked) runs r ∙ ap (option_map (shown_run w root password masked)) (slice_get-get_or runs r some_run h)

  past_runs : (r : ℕ) → length runs ≤ r → slice_get shown r ≡ None
  past_runs r h = slice_get-map (shown_run w root password masked) runs r ∙ ap (option_map (shown_run w root password masked)) (slice_get_past runs r h)

  count_at : (r : ℕ) → r < length runs → count_in shown r ≡ said_count (get_or runs r some_run)
  count_at r h = ap (λ o. option_map_or count o 0) (at_run r h) ∙ cut_count (shown_character masked) _ _

  length_shown : length shown ≡ length runs
  length_shown = length-map runs (shown_run w root password masked)

  begins_at : (r : ℕ) → r < length runs → begins_line shown r ≡ is_none (get_or runs r some_run).node.previous_on_line
  begins_at r h = ap (λ o. option_map_or (λ (s : ShownRun). not s.goes_back) o false) (at_run r h)

  ends_at : (r : ℕ) → r < length runs → ends_line shown r ≡ is_none (get_or runs r some_run).node.next_on_line
  ends_at r h = ap (λ o. option_map_or (λ (s : ShownRun). not s.goes_on) o false) (at_run r h)

  words_at : (r : ℕ) → r < length runs → words_in shown r ≡ (if password then [] else (get_or runs r some_run).node.word_starts)
  words_at r h = ap (λ o. option_map_or (λ (s : ShownRun). s.word_starts) o []) (at_run r h)

  no_words_past : (r : ℕ) → length runs ≤ r → words_in shown r ≡ []
  no_words_past r h = ap (λ o. option_map_or (λ (s : ShownRun). s.word_starts) o []) (past_runs r h)

-- ---- words

within_of : (password : Bool) (ws : List ℕ) (c k : ℕ) → list_all (λ i. nat_lt i c) ws ≡ true → k < length (if password then [] else ws) → slice_index (if password then [] else ws) k < c
within_of true ws c k e h = absurd (omega arith)
within_of false ws c k e h = ltb-true _ _ (at_each (λ i. nat_lt i c) ws k 0 e h)

rise_of : (password : Bool) (ws : List ℕ) → list_all (λ (p : ℕ × ℕ). nat_lt p.0 p.1) (neighbours ws) ≡ true → IsStrictlyIncreasing (if password then [] else ws)
rise_of true ws e = λ k h. absurd (omega arith)
rise_of false ws e = λ k h. rw add-one (ltb-true _ _ (at_neighbours (λ (p : ℕ × ℕ). nat_lt p.0 p.1) ws k 0 e (omega (arith, h))))

no_rise : (xs : List ℕ) → xs ≡ [] → IsStrictlyIncreasing xs
no_rise [] e = λ k h. absurd (omega arith)
no_rise (x ∷ xs) e = λ k h. absurd (let n = ap length e in omega (arith, n))

-- ---- the whole

pub whole_text : (w : World) (root : FullNodeId) → IsText w root → IsWhole (flat_text w root)
unfolding flat_text
whole_text w root text =
    let runs = sent_runs w root in
    let pw = is_password w root in
    let m = needs_masking w root in
    let some : 0 < length runs = ltb-true _ _ (and_parts (says (λ d. holds_text d.role) w root) _ text.runs).1 in
    let same : length (shown w root pw m runs) ≡ length runs = length_shown w root pw m runs in
    let links = and_parts (list_all (λ (p : SentRun × SentRun). links_agree p.0 p.1) (neighbours runs)) _ text.links in
    let ends = and_parts (option_map_or (λ (r : SentRun). is_none r.node.previous_on_line) (slice_get runs 0) true) _ links.1 in
    record {
      some = omega (arith, some, same);
      empty_last = λ r h.
          let at : r < length runs = omega (arith, h, same) in
          let more : 0 < said_count (get_or runs r some_run) = ltb-true _ _ (at_neighbours (λ (p : SentRun × SentRun). nat_lt 0 (said_count p.0)) runs r some_run text.empty_last (omega (arith, h, same))) in
          omega (arith, more, count_at w root pw m runs r at);
      first_begins = begins_at w root pw m runs 0 some ∙ sym (ap (λ o. option_map_or (λ (r : SentRun). is_none r.node.previous_on_line) o true) (slice_get-get_or runs 0 some_run some)) ∙ ends.0;
      last_ends = λ r h.
          let at : r < length runs = omega (arith, h, same) in
          let last : length runs - 1 ≡ r = omega (arith, h, same) in
          ends_at w root pw m runs r at
          ∙ sym (ap (λ o. option_map_or (λ (r : SentRun). is_none r.node.next_on_line) o true) (ap (slice_get runs) last ∙ slice_get-get_or runs r some_run at)) ∙ ends.1;
      links = λ r h.
          let one : get_or runs (r + 1) some_run ≡ get_or runs (suc r) some_run = ap (λ k. get_or runs k some_run) (add-one r) in
          begins_at w root pw m runs (r + 1) (omega (arith, h, same))
          ∙ ap (λ (x : SentRun). is_none x.node.previous_on_line) one
          ∙ linked_same (get_or runs r some_run).node.next_on_line (get_or runs (suc r) some_run).node.previous_on_line (get_or runs r some_run) (get_or runs (suc r) some_run)
          (at_neighbours (λ (p : SentRun × SentRun). links_agree p.0 p.1) runs r some_run links.0 (omega (arith, h, same)))
          ∙ sym (ends_at w root pw m runs r (omega (arith, h, same)));
      words_within = λ r k h. words_in_run r k (nat_lt r (length runs)) refl h;
      words_rise = λ r. rising r (nat_lt r (length runs)) refl;
    }
  where
    rules_of : (r : ℕ) → r < length (sent_runs w root) → has_rising_words (get_or (sent_runs w root) r some_run) ≡ true
    rules_of r h = at_each has_rising_words (sent_runs w root) r some_run text.words h

    words_in_run : (r k : ℕ) (b : Bool) → nat_lt r (length (sent_runs w root)) ≡ b → k < length (words_in (shown w root (is_password w root) (needs_masking w root) (sent_runs w root)) r) →
        slice_index (words_in (shown w root (is_password w root) (needs_masking w root) (sent_runs w root)) r) k < count_in (shown w root (is_password w root) (needs_masking w root) (sent_runs w root)) r
    words_in_run r k true e h =
        let at : r < length (sent_runs w root) = ltb-true _ _ e in
        let ws = words_at w root (is_password w root) (needs_masking w root) (sent_runs w root) r at in
        let fits = and_parts (list_all (λ (p : ℕ × ℕ). nat_lt p.0 p.1) (neighbours (get_or (sent_runs w root) r some_run).node.word_starts)) _ (rules_of r at) in
        let within = within_of (is_password w root) (get_or (sent_runs w root) r some_run).node.word_starts (said_count (get_or (sent_runs w root) r some_run)) k fits.1 (subst (λ (xs : List ℕ). k < length xs) ws h) in
        omega (arith, within, ap (λ (xs : List ℕ). slice_index xs k) ws, count_at w root (is_password w root) (needs_masking w root) (sent_runs w root) r at)
    words_in_run r k false e h =
        let out = ltb-false _ _ e in
        absurd (let none = ap length (no_words_past w root (is_password w root) (needs_masking w root) (sent_runs w root) r (omega (arith, out))) in omega (arith, none, h))

    rising : (r : ℕ) (b : Bool) → nat_lt r (length (sent_runs w root)) ≡ b → IsStrictlyIncreasing (words_in (shown w root (is_password w root) (needs_masking w root) (sent_runs w root)) r)
    rising r true e =
        let at : r < length (sent_runs w root) = ltb-true _ _ e in
        let fits = and_parts (list_all (λ (p : ℕ × ℕ). nat_lt p.0 p.1) (neighbours (get_or (sent_runs w root) r some_run).node.word_starts)) _ (rules_of r at) in
        subst IsStrictlyIncreasing (sym (words_at w root (is_password w root) (needs_masking w root) (sent_runs w root) r at)) (rise_of (is_password w root) (get_or (sent_runs w root) r some_run).node.word_starts fits.0)
    rising r false e = let out = ltb-false _ _ e in no_rise _ (no_words_past w root (is_password w root) (needs_masking w root) (sent_runs w root) r (omega (arith, out)))
