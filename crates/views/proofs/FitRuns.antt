-- Well-formed text, run by run.
use Rattle.std.proofs.Common.{◌≡◌, ℕ, suc, ◌+◌, ◌-◌, ◌^◌, ◌<◌, Bool, true, false, List, [], ◌∷◌, length, ◌++◌, map, refl, sym, ap, subst, ◌∙◌, arith}
use Rattle.std.specs.Prelude.{◌&&◌, ◌==◌, nat_lt, unwrap_or, is_none, slice_get, sum_by}
use Rattle.std.specs.Option.{option_map_or}
use Rattle.std.specs.List.{list_all}
use Rattle.std.proofs.lemmas.Bool.{and_parts, and_from, ltb-true, lt-ltb}
use Rattle.std.proofs.lemmas.List.Sums.{sum_by-cons}
use Rattle.schema.specs.NodeData.{NodeData, empty_node}
use Rattle.schema.specs.declared.Role.TheVariants.{TextRun}
use Rattle.model.specs.declared.FullNodeId.{FullNodeId}
use Rattle.model.specs.World.{World}
use Rattle.model.specs.RoleClasses.{is_password_input, holds_text}
use Rattle.model.specs.Upward.{says}
use Rattle.schema.specs.RunFits.{neighbours, is_cut_by}
use Rattle.model.specs.TextRuns.{SentRun, run_ids, sent_run, sent_runs, run_value, said_count, links_agree, has_rising_words, is_measured, is_password, lie_in_tree, are_cut, have_rising_words, are_empty_last, are_linked_in_order, have_size, are_measured, make_text, supports_text_ranges}
use Rattle.views.specs.declared.runs.Run.{Run}
use Rattle.views.specs.declared.node.node_ref.NodeRef.{NodeRef}
use Rattle.views.specs.Nodes.{world_at, id_at, data_at}
use Rattle.views.proofs.DefectRules.{is_fit, is_small, is_followed_by, are_fit_from}
use Rattle.views.specs.Runs.{run_world, root_id, run_id, sent_of, ids_after, ids_before, sents_after, IsFirstOf, IsAfter}

-- ---- tests

all_four : (a b c d : Bool) → a ≡ true → b ≡ true → c ≡ true → d ≡ true → (a && (b && (c && d))) ≡ true
all_four a b c d e f g h = and_from a (b && (c && d)) e (and_from b (c && d) f (and_from c d g h))

same_tests : (a b : Bool) → (a ≡ true → b ≡ true) → (b ≡ true → a ≡ true) → a ≡ b
same_tests true b f g = sym (f refl)
same_tests false true f g = g refl
same_tests false false f g = refl

-- ---- runs as views show them

-- what was sent of a run is what it shows
pub sent_known : (r : Run) → sent_run (run_world r) (run_id r) ≡ sent_of r
sent_known r = ap (λ o. let s : SentRun = record { id = run_id r; node = unwrap_or o (empty_node TextRun) } in s) r.known.spot.member.known

pub sents_next : (r s : Run) → IsAfter r s → sents_after r ≡ sent_of s ∷ sents_after s
sents_next r s after =
    ap (map (sent_run (run_world r))) after.after ∙ ap (λ n. map (sent_run (world_at n)) (run_id s ∷ ids_after s)) (sym after.root) ∙ ap (λ x. x ∷ sents_after s) (sent_known s)

-- ---- the same of all runs at once

abbrev bytes : SentRun → ℕ
bytes r = length (run_value r)

abbrev are_linked : List SentRun → Bool
are_linked runs = list_all (λ (p : SentRun × SentRun). links_agree p.0 p.1) (neighbours runs)

abbrev last_ends : List SentRun → Bool
last_ends runs = option_map_or (λ (r : SentRun). is_none r.node.next_on_line) (slice_get runs (length runs - 1)) true

-- what is asked of runs with so many bytes before them
record AllFit (tree : ℕ) (password : Bool) (size : ℕ) (runs : List SentRun) : Type 0 where
  trees : lie_in_tree tree runs ≡ true
  cut : are_cut runs ≡ true
  words : have_rising_words runs ≡ true
  metrics : are_measured password runs ≡ true
  filled : are_empty_last runs ≡ true
  links : are_linked runs ≡ true
  last : last_ends runs ≡ true
  small : size + sum_by bytes runs < 2 ^ 64

last_of_more : (a b : SentRun) (runs : List SentRun) → last_ends (a ∷ b ∷ runs) ≡ last_ends (b ∷ runs)
last_of_more a b runs =
    let at : length (a ∷ b ∷ runs) - 1 ≡ suc (length (b ∷ runs) - 1) = omega arith in
    ap (λ k. option_map_or (λ (r : SentRun). is_none r.node.next_on_line) (slice_get (a ∷ b ∷ runs) k) true) at

module _ (tree : ℕ) (password : Bool) where
  one_fit : (size : ℕ) (a : SentRun) (rest : List SentRun) → AllFit tree password size (a ∷ rest) → (is_fit tree password a ≡ true) × (is_small size a ≡ true)
  one_fit size a rest all = (
    all_four (a.id.tree == tree) (is_cut_by (run_value a) a.node.character_lengths) (has_rising_words a) (is_measured password a)
        (and_parts (a.id.tree == tree) _ all.trees).0 (and_parts (is_cut_by (run_value a) a.node.character_lengths) _ all.cut).0 (and_parts (has_rising_words a) _ all.words).0 (and_parts (is_measured password a) _ all.metrics).0,
    lt-ltb (size + bytes a) (2 ^ 64) (let s = all.small in omega (arith, s, sum_by-cons bytes a rest)),
  )

  fit_from : (size : ℕ) (a : SentRun) (rest : List SentRun) → AllFit tree password size (a ∷ rest) → are_fit_from tree password size a rest ≡ true
  fit_from size a [] all =
      let one = one_fit size a [] all in
      and_from (is_fit tree password a) (is_small size a && is_none a.node.next_on_line) one.0 (and_from (is_small size a) (is_none a.node.next_on_line) one.1 all.last)
  fit_from size a (b ∷ rest) all =
      let one = one_fit size a (b ∷ rest) all in
      let more : AllFit tree password (size + bytes a) (b ∷ rest) = record {
        trees = (and_parts (a.id.tree == tree) _ all.trees).1;
        cut = (and_parts (is_cut_by (run_value a) a.node.character_lengths) _ all.cut).1;
        words = (and_parts (has_rising_words a) _ all.words).1;
        metrics = (and_parts (is_measured password a) _ all.metrics).1;
        filled = (and_parts (nat_lt 0 (said_count a)) _ all.filled).1;
        links = (and_parts (links_agree a b) _ all.links).1;
        last = sym (last_of_more a b rest) ∙ all.last;
        small = let s = all.small in omega (arith, s, sum_by-cons bytes a (b ∷ rest));
      } in
      let beside : is_followed_by a b ≡ true = and_from (nat_lt 0 (said_count a)) (links_agree a b) (and_parts (nat_lt 0 (said_count a)) _ all.filled).0 (and_parts (links_agree a b) _ all.links).0 in
      all_four (is_fit tree password a) (is_small size a) (is_followed_by a b) (are_fit_from tree password (size + bytes a) b rest) one.0 one.1 beside (fit_from (size + bytes a) b rest more)

  all_from : (size : ℕ) (a : SentRun) (rest : List SentRun) → are_fit_from tree password size a rest ≡ true → AllFit tree password size (a ∷ rest)
  all_from size a [] e =
      let fit = and_parts (is_fit tree password a) _ e in
      let small = and_parts (is_small size a) _ fit.1 in
      let t = and_parts (a.id.tree == tree) _ fit.0 in
      let c = and_parts (is_cut_by (run_value a) a.node.character_lengths) _ t.1 in
      let w = and_parts (has_rising_words a) _ c.1 in
      record {
        trees = and_from _ _ t.0 refl;
        cut = and_from _ _ c.0 refl;
        words = and_from _ _ w.0 refl;
        metrics = and_from _ _ w.1 refl;
        filled = refl;
        links = refl;
        last = small.1;
        small = let s = ltb-true _ _ small.0 in omega (arith, s, sum_by-cons bytes a []);
      }
  all_from size a (b ∷ rest) e =
      let fit = and_parts (is_fit tree password a) _ e in
      let small = and_parts (is_small size a) _ fit.1 in
      let next = and_parts (is_followed_by a b) _ small.1 in
      let beside = and_parts (nat_lt 0 (said_count a)) _ next.0 in
      let t = and_parts (a.id.tree == tree) _ fit.0 in
      let c = and_parts (is_cut_by (run_value a) a.node.character_lengths) _ t.1 in
      let w = and_parts (has_rising_words a) _ c.1 in
      let more = all_from (size + bytes a) b rest next.1 in
      record {
        trees = and_from _ _ t.0 more.trees;
        cut = and_from _ _ c.0 more.cut;
        words = and_from _ _ w.0 more.words;
        metrics = and_from _ _ w.1 more.metrics;
        filled = and_from _ _ beside.0 more.filled;
        links = and_from _ _ beside.1 more.links;
        last = last_of_more a b rest ∙ more.last;
        small = let s = more.small in omega (arith, s, sum_by-cons bytes a (b ∷ rest));
      }

-- of some runs: the role, the first run's link back, and the rest run by run
pub text_of_runs : (w : World) (root : FullNodeId) (a : SentRun) (rest : List SentRun) →
    make_text w root (a ∷ rest) ≡ (says (λ d. holds_text d.role) w root && (is_none a.node.previous_on_line && are_fit_from root.tree (is_password w root) 0 a rest))
text_of_runs w root a rest = same_tests _ _ there back
  where
    there : make_text w root (a ∷ rest) ≡ true → (says (λ d. holds_text d.role) w root && (is_none a.node.previous_on_line && are_fit_from root.tree (is_password w root) 0 a rest)) ≡ true
    there e =
        let runs : List SentRun = a ∷ rest in
        let r = and_parts (says (λ d. holds_text d.role) w root && nat_lt 0 (length runs)) _ e in
        let t = and_parts (lie_in_tree root.tree runs) _ r.1 in
        let c = and_parts (are_cut runs) _ t.1 in
        let d = and_parts (have_rising_words runs) _ c.1 in
        let f = and_parts (are_empty_last runs) _ d.1 in
        let l = and_parts (are_linked runs && (is_none a.node.previous_on_line && last_ends runs)) _ f.1 in
        let ends = and_parts (are_linked runs) _ l.0 in
        let outer = and_parts (is_none a.node.previous_on_line) _ ends.1 in
        let s = and_parts (have_size runs) _ l.1 in
        and_from _ _ (and_parts _ _ r.0).0 (and_from _ _ outer.0 (fit_from root.tree (is_password w root) 0 a rest (record {
          trees = t.0;
          cut = c.0;
          words = d.0;
          metrics = s.1;
          filled = f.0;
          links = ends.0;
          last = outer.1;
          small = let lt = ltb-true _ _ s.0 in omega (arith, lt);
        })))

    back : (says (λ d. holds_text d.role) w root && (is_none a.node.previous_on_line && are_fit_from root.tree (is_password w root) 0 a rest)) ≡ true → make_text w root (a ∷ rest) ≡ true
    back e =
        let role = and_parts (says (λ d. holds_text d.role) w root) _ e in
        let first = and_parts (is_none a.node.previous_on_line) _ role.1 in
        let all = all_from root.tree (is_password w root) 0 a rest first.1 in
        and_from _ _ (and_from _ _ role.0 (lt-ltb 0 (length (a ∷ rest)) (omega arith)))
        (and_from _ _ all.trees (and_from _ _ all.cut (and_from _ _ all.words (and_from _ _ all.filled (and_from _ _ (and_from _ _ all.links (and_from _ _ first.0 all.last))
        (and_from _ _ (lt-ltb _ _ (let s = all.small in omega (arith, s))) all.metrics))))))

-- of none, and where the role holds no text
both_fail : (a b : Bool) → ((a && false) && b) ≡ false
both_fail true b = refl
both_fail false b = refl

pub no_runs_no_text : (w : World) (root : FullNodeId) → run_ids w root ≡ [] → supports_text_ranges w root ≡ false
unfolding supports_text_ranges
no_runs_no_text w root none = ap (λ ids. make_text w root (map (sent_run w) ids)) none ∙ both_fail (says (λ d. holds_text d.role) w root) _

pub unheld_no_text : (n : NodeRef) → holds_text (data_at n).role ≡ false → supports_text_ranges (world_at n) (id_at n) ≡ false
unfolding supports_text_ranges
unheld_no_text n e =
    let w = world_at n in
    let runs = sent_runs w (id_at n) in
    let says_not : says (λ d. holds_text d.role) w (id_at n) ≡ false = ap (λ o. option_map_or (λ (d : NodeData). holds_text d.role) o false) n.known ∙ e in
    ap (λ b. (b && nat_lt 0 (length runs)) && (lie_in_tree (id_at n).tree runs && (are_cut runs && (have_rising_words runs && (are_empty_last runs && (are_linked_in_order runs && (have_size runs && are_measured (is_password w (id_at n)) runs))))))) says_not

-- the first run, and those after it, are all
pub first_sents : (r : Run) → ids_before r ≡ [] → sent_runs (run_world r) (root_id r) ≡ sent_of r ∷ sents_after r
first_sents r first =
    let all : run_ids (run_world r) (root_id r) ≡ run_id r ∷ ids_after r = sym r.known.among ∙ ap (λ ids. ids ++ run_id r ∷ ids_after r) first in
    ap (map (sent_run (run_world r))) all ∙ ap (λ x. x ∷ sents_after r) (sent_known r)

abbrev pub fits_from_first : NodeRef → Run → Bool
fits_from_first n r =
    holds_text (data_at n).role && (is_none (sent_of r).node.previous_on_line && are_fit_from (id_at n).tree (is_password_input (data_at n).role) 0 (sent_of r) (sents_after r))

text_from_root : (r : Run) → ids_before r ≡ [] → supports_text_ranges (run_world r) (root_id r) ≡ fits_from_first r.root r
unfolding supports_text_ranges
text_from_root r first =
    ap (make_text (run_world r) (root_id r)) (first_sents r first) ∙ text_of_runs (run_world r) (root_id r) (sent_of r) (sents_after r)
    ∙ ap (λ o. option_map_or (λ (d : NodeData). holds_text d.role) o false
    && (is_none (sent_of r).node.previous_on_line && are_fit_from (root_id r).tree (option_map_or (λ (d : NodeData). is_password_input d.role) o false) 0 (sent_of r) (sents_after r))) r.root.known

pub text_from_first : (n : NodeRef) (r : Run) → IsFirstOf n r → supports_text_ranges (world_at n) (id_at n) ≡ fits_from_first n r
text_from_first n r first = subst (λ m. supports_text_ranges (world_at m) (id_at m) ≡ fits_from_first m r) first.root (text_from_root r first.order)
