-- The first defect of a text's runs: what a walk finds is what is defined, and there is none exactly where all rules are kept.
use Rattle.std.proofs.Common.{◌≡◌, ℕ, ◌+◌, ◌^◌, Bool, true, false, List, [], ◌∷◌, length, map, refl, sym, ap, ◌∙◌, arith}
use Rattle.std.specs.Prelude.{ℤ, min, ◌&&◌, ◌||◌, ◌==◌, nat_lt, Option, Some, None, is_none, option_map, if◌then◌else◌}
use Rattle.std.specs.Option.{option_or, option_map_or}
use Rattle.std.proofs.lemmas.Bool.{and_from, and_parts, eqb-true, le-leb}
use Rattle.schema.specs.declared.NodeId.{NodeId}
use Rattle.schema.specs.RunFits.{is_cut_by, has_count, run_text, fit_together}
use Rattle.model.specs.TextRuns.{SentRun, run_value, said_count, leads_to, links_agree, is_enough, is_measured, has_rising_words}
use Rattle.views.specs.declared.runs.defects.RunDefect.{RunDefect}
use Rattle.views.specs.declared.runs.defects.RunDefect.TheVariants.{PreviousLink, PreviousUnanswered, Tree, CharacterLengths, WordStarts, CharacterPositions, CharacterWidths, TooLong, Empty, NextLink, NextUnanswered}
use Rattle.views.specs.declared.runs.defects.TextDefect.{TextDefect}
use Rattle.views.specs.declared.runs.defects.TextDefect.TheVariants.{Run}
use Rattle.views.specs.TextDefects.{PlacedRun, placed_from, first_of, broken, link_defect, back_defect, onward_defect, own_defect, run_defect, at_run, first_defect}
use Rattle.views.specs.DefectWalks.{defect_between, size_defect, defect_from}

-- ---- options in a row

pub or_none : {X : Type 0} (o : Option X) → option_or o None ≡ o
or_none None = refl
or_none (Some x) = refl

spread : {D T : Type 0} (f : D → T) (k o s e n : Option D) (rest : Option T) →
    option_or (option_map f (first_of (k ∷ o ∷ s ∷ e ∷ n ∷ []))) rest
    ≡ option_or (option_map f k) (option_or (option_map f o) (option_or (option_map f s) (option_or (option_map f e) (option_or (option_map f n) rest))))
spread f (Some x) o s e n rest = refl
spread f None (Some x) s e n rest = refl
spread f None None (Some x) e n rest = refl
spread f None None None (Some x) n rest = refl
spread f None None None None (Some x) rest = refl
spread f None None None None None rest = refl

all_three : {T : Type 0} (x y z rest : Option T) → option_or (first_of (x ∷ y ∷ z ∷ [])) rest ≡ option_or x (option_or y (option_or z rest))
all_three (Some x) y z rest = refl
all_three None (Some y) z rest = refl
all_three None None (Some z) rest = refl
all_three None None None rest = refl

none_or : {X : Type 0} (x y : Option X) → is_none (option_or x y) ≡ (is_none x && is_none y)
none_or None y = refl
none_or (Some x) y = refl

none_map : {X Y : Type 0} (f : X → Y) (o : Option X) → is_none (option_map f o) ≡ is_none o
none_map f None = refl
none_map f (Some x) = refl

none_broken : (kept : Bool) (rule : RunDefect) → is_none (broken kept rule) ≡ kept
none_broken true rule = refl
none_broken false rule = refl

-- ---- a walk finds what is defined

module _ (tree : ℕ) (password : Bool) where
  abbrev defects_in : Option SentRun → ℕ → List SentRun → Option TextDefect
  defects_in before size runs = first_of (map (λ (p : PlacedRun). at_run p.run (run_defect tree password p)) (placed_from before size runs))

  pub walk_is : (before : Option SentRun) (size : ℕ) (a : SentRun) (rest : List SentRun) →
      defects_in before size (a ∷ rest) ≡ option_or (at_run a (back_defect before a)) (defect_from tree password size a rest)
  walk_is before size a [] =
      let back = at_run a (back_defect before a) in
      let own = at_run a (own_defect tree password a) in
      spread (λ d. Run a.id d) (back_defect before a) (own_defect tree password a) (broken (nat_lt (size + length (run_value a)) (2 ^ 64)) TooLong) None (onward_defect a None) None
      ∙ ap (λ t. option_or back (option_or own (option_or (size_defect size a) t))) (or_none (at_run a (onward_defect a None)))
  walk_is before size a (b ∷ rest) =
      let back = at_run a (back_defect before a) in
      let own = at_run a (own_defect tree password a) in
      let empty = broken (nat_lt 0 (said_count a)) Empty in
      let onward = onward_defect a (Some b) in
      let next = size + length (run_value a) in
      spread (λ d. Run a.id d) (back_defect before a) (own_defect tree password a) (broken (nat_lt (size + length (run_value a)) (2 ^ 64)) TooLong) empty onward (defects_in (Some a) next (b ∷ rest))
      ∙ ap (λ t. option_or back (option_or own (option_or (size_defect size a) (option_or (at_run a empty) (option_or (at_run a onward) t))))) (walk_is (Some a) next b rest)
      ∙ ap (λ t. option_or back (option_or own (option_or (size_defect size a) t))) (sym (all_three (at_run a empty) (at_run a onward) (at_run b (back_defect (Some a) b)) (defect_from tree password next b rest)))

-- ---- what has to hold run by run

-- the run is in this tree, is cut, and its words and its metrics are right
abbrev pub is_fit : ℕ → Bool → SentRun → Bool
is_fit tree password r = r.id.tree == tree && (is_cut_by (run_value r) r.node.character_lengths && (has_rising_words r && is_measured password r))

-- with this many bytes before it, it has few enough
abbrev pub is_small : ℕ → SentRun → Bool
is_small size r = nat_lt (size + length (run_value r)) (2 ^ 64)

-- it isn't empty, and it and the next one are linked both ways or not at all
abbrev pub is_followed_by : SentRun → SentRun → Bool
is_followed_by a b = nat_lt 0 (said_count a) && links_agree a b

-- a run and those after it, with this many bytes before it
abbrev pub are_fit_from : ℕ → Bool → ℕ → SentRun → List SentRun → Bool
are_fit_from tree password size a [] = is_fit tree password a && (is_small size a && is_none a.node.next_on_line)
are_fit_from tree password size a (b ∷ runs) = is_fit tree password a && (is_small size a && (is_followed_by a b && are_fit_from tree password (size + length (run_value a)) b runs))

-- ---- there is none exactly where all rules are kept

none_of_five : (a b c d e : Bool) →
    is_none (first_of (broken a Tree ∷ broken b CharacterLengths ∷ broken c WordStarts ∷ first_of (broken d CharacterPositions ∷ broken e CharacterWidths ∷ []) ∷ [])) ≡ (a && (b && (c && (d && e))))
none_of_five true true true true true = refl
none_of_five true true true true false = refl
none_of_five true true true false e = refl
none_of_five true true false d e = refl
none_of_five true false c d e = refl
none_of_five false b c d e = refl

none_own : (tree : ℕ) (password : Bool) (r : SentRun) → is_none (own_defect tree password r) ≡ is_fit tree password r
none_own tree password r =
    none_of_five (r.id.tree == tree) (is_cut_by (run_value r) r.node.character_lengths) (has_rising_words r)
    (option_map_or (λ ps. is_enough password (said_count r) (length ps)) r.node.character_positions true)
    (option_map_or (λ ws. is_enough password (said_count r) (length ws)) r.node.character_widths true)

-- a link with no neighbour, one that isn't answered, and two
none_alone : (elsewhere : NodeId → RunDefect) (unanswered : RunDefect) (link answer : Option NodeId) → is_none (link_defect elsewhere unanswered link None answer) ≡ is_none link
none_alone elsewhere unanswered None answer = refl
none_alone elsewhere unanswered (Some node) answer = refl

never_none : {X Y : Type 0} (f : X → Y) (leads : Bool) (x y : X) (rest : Option Y) → is_none (option_or (option_map f (if leads then Some x else Some y)) rest) ≡ false
never_none f true x y rest = refl
never_none f false x y rest = refl

and_false : (b : Bool) → (b && false) ≡ false
and_false true = refl
and_false false = refl

none_of_both : {X Y : Type 0} (f g : X → Y) (there back : Bool) (x y : X) →
    is_none (option_or (option_map f (if there then None else Some x)) (option_or (option_map g (if back then None else Some y)) None)) ≡ (there && back)
none_of_both f g true true x y = refl
none_of_both f g true false x y = refl
none_of_both f g false back x y = refl

none_linked : (a b : SentRun) (full : Bool) (next previous : Option NodeId) →
    is_none (first_of (
    at_run a (broken full Empty)
    ∷ at_run a (link_defect (λ node. NextLink node) NextUnanswered next (Some b) previous)
    ∷ at_run b (link_defect (λ node. PreviousLink node) PreviousUnanswered previous (Some a) next) ∷ []))
    ≡ (full && ((is_none next && is_none previous) || (leads_to next b && leads_to previous a)))
none_linked a b false next previous = refl
none_linked a b true None None = refl
none_linked a b true None (Some p) = never_none (λ d. Run b.id d) (leads_to (Some p) a) PreviousUnanswered (PreviousLink p) None
none_linked a b true (Some n) None = never_none (λ d. Run a.id d) (leads_to (Some n) b) NextUnanswered (NextLink n) None ∙ sym (and_false (leads_to (Some n) b))
none_linked a b true (Some n) (Some p) =
    none_of_both (λ d. Run a.id d) (λ d. Run b.id d) (leads_to (Some n) b) (leads_to (Some p) a) (NextLink n) (PreviousLink p)

none_between : (a b : SentRun) → is_none (defect_between a b) ≡ is_followed_by a b
none_between a b = none_linked a b (nat_lt 0 (said_count a)) a.node.next_on_line b.node.previous_on_line

none_at : (r : SentRun) (rule : Option RunDefect) (b : Bool) → is_none rule ≡ b → is_none (at_run r rule) ≡ b
none_at r rule b e = none_map (λ d. Run r.id d) rule ∙ e

module _ (tree : ℕ) (password : Bool) where
  none_from : (size : ℕ) (a : SentRun) (rest : List SentRun) → is_none (defect_from tree password size a rest) ≡ are_fit_from tree password size a rest
  none_from size a [] =
      let own = none_at a (own_defect tree password a) (is_fit tree password a) (none_own tree password a) in
      let small = none_at a (broken (is_small size a) TooLong) (is_small size a) (none_broken (is_small size a) TooLong) in
      let last = none_at a (onward_defect a None) (is_none a.node.next_on_line) (none_alone (λ node. NextLink node) NextUnanswered a.node.next_on_line None) in
      none_or (at_run a (own_defect tree password a)) (option_or (size_defect size a) (at_run a (onward_defect a None)))
      ∙ ap (λ t. is_none (at_run a (own_defect tree password a)) && t) (none_or (size_defect size a) (at_run a (onward_defect a None)))
      ∙ (λ i. own i && (small i && last i))
  none_from size a (b ∷ rest) =
      let more = defect_from tree password (size + length (run_value a)) b rest in
      let own = none_at a (own_defect tree password a) (is_fit tree password a) (none_own tree password a) in
      let small = none_at a (broken (is_small size a) TooLong) (is_small size a) (none_broken (is_small size a) TooLong) in
      let beside = none_between a b in
      let after = none_from (size + length (run_value a)) b rest in
      none_or (at_run a (own_defect tree password a)) (option_or (size_defect size a) (option_or (defect_between a b) more))
      ∙ ap (λ t. is_none (at_run a (own_defect tree password a)) && t) (none_or (size_defect size a) (option_or (defect_between a b) more))
      ∙ ap (λ t. is_none (at_run a (own_defect tree password a)) && (is_none (size_defect size a) && t)) (none_or (defect_between a b) more)
      ∙ (λ i. own i && (small i && (beside i && after i)))

  pub none_of_all : (a : SentRun) (rest : List SentRun) → is_none (first_defect tree password (a ∷ rest)) ≡ (is_none a.node.previous_on_line && are_fit_from tree password 0 a rest)
  none_of_all a rest =
      let back = none_at a (back_defect None a) (is_none a.node.previous_on_line) (none_alone (λ node. PreviousLink node) PreviousUnanswered a.node.previous_on_line None) in
      let more = none_from 0 a rest in
      ap is_none (walk_is tree password None 0 a rest)
      ∙ none_or (at_run a (back_defect None a)) (defect_from tree password 0 a rest)
      ∙ (λ i. back i && more i)

-- ---- rules of a run

-- a list of as many numbers as there are characters is long enough
enough_if_full : (password : Bool) (count given : ℕ) → (given == count) ≡ true → is_enough password count given ≡ true
enough_if_full true count given e = let same = eqb-true given count e in and_from _ _ (le-leb given count (omega (arith, same))) (le-leb (min count 1) given (omega (arith, same)))
enough_if_full false count given e = let same = eqb-true given count e in and_from _ _ (le-leb given count (omega (arith, same))) (le-leb count given (omega (arith, same)))

measured_if_full : (password : Bool) (count : ℕ) (list : Option (List ℤ)) → has_count list count ≡ true →
    option_map_or (λ xs. is_enough password count (length xs)) list true ≡ true
measured_if_full password count None e = refl
measured_if_full password count (Some xs) e = enough_if_full password count (length xs) e

-- where a value and its lists fit together, the run breaks no rule of its own
pub none_if_fit : (tree : ℕ) (password : Bool) (r : SentRun) → (r.id.tree == tree) ≡ true → fit_together (run_text r.node) ≡ true →
    None ≡ own_defect tree password r
none_if_fit tree password r here fit =
    let cut = and_parts (is_cut_by (run_value r) r.node.character_lengths) _ fit in
    let words = and_parts (has_rising_words r) _ cut.1 in
    let counts = and_parts (has_count r.node.character_positions (said_count r)) (has_count r.node.character_widths (said_count r)) words.1 in
    let placed = measured_if_full password (said_count r) r.node.character_positions counts.0 in
    let wide = measured_if_full password (said_count r) r.node.character_widths counts.1 in
    sym (λ i. first_of (broken (here i) Tree ∷ broken (cut.0 i) CharacterLengths ∷ broken (words.0 i) WordStarts
    ∷ first_of (broken (placed i) CharacterPositions ∷ broken (wide i) CharacterWidths ∷ []) ∷ []))

-- the third rule is the first that isn't kept, or all three are kept
module _ (metrics : Option RunDefect) where
  abbrev four : Bool → Bool → Bool → Option RunDefect
  four a b c = first_of (broken a Tree ∷ broken b CharacterLengths ∷ broken c WordStarts ∷ metrics ∷ [])

  pub words_broken : (a b c : Bool) → a ≡ true → b ≡ true → c ≡ false → Some WordStarts ≡ four a b c
  words_broken a b c e f g = sym (λ i. four (e i) (f i) (g i))

  pub metrics_left : (a b c : Bool) → a ≡ true → b ≡ true → c ≡ true → metrics ≡ four a b c
  metrics_left a b c e f g = sym ((λ i. four (e i) (f i) (g i)) ∙ or_none metrics)
