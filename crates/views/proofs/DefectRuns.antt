-- The first defect of a text's runs, as a walk over them finds it, and of a node.
use Rattle.std.proofs.Common.{◌≡◌, ℕ, ◌+◌, ◌<◌, ◌^◌, Bool, true, false, List, [], ◌∷◌, length, map, refl, sym, ap, subst, ◌∙◌, arith}
use Rattle.std.specs.Prelude.{◌&&◌, ◌==◌, Option, Some, None, is_some, is_none, not, if◌then◌else◌}
use Rattle.std.specs.Option.{option_or, option_map_or}
use Rattle.std.proofs.lemmas.Bool.{ltb-true, ne_eqb}
use Rattle.schema.specs.NodeData.{NodeData}
use Rattle.schema.specs.declared.NodeId.{NodeId}
use Rattle.model.specs.declared.FullNodeId.{FullNodeId}
use Rattle.model.specs.RoleClasses.{is_password_input, holds_text}
use Rattle.model.specs.Upward.{says}
use Rattle.model.specs.TextRuns.{SentRun, run_ids, sent_run, sent_runs, run_value, is_password, supports_text_ranges}
use Rattle.views.specs.declared.runs.Run.{Run}
use Rattle.views.specs.declared.runs.defects.RunDefect.{RunDefect}
use Rattle.views.specs.declared.runs.defects.RunDefect.TheVariants.{PreviousLink, PreviousUnanswered, TooLong}
use Rattle.views.specs.declared.runs.defects.TextDefect.{TextDefect}
use Rattle.views.specs.declared.runs.defects.TextDefect.TheVariants as text_defects
use Rattle.views.specs.declared.node.node_ref.NodeRef.{NodeRef}
use Rattle.views.specs.Nodes.{world_at, id_at, data_at}
use Rattle.views.specs.Runs.{run_world, run_id, sent_of, ids_after, sents_after, IsFirstOf, IsAfter}
use Rattle.views.specs.TextDefects.{broken, link_defect, back_defect, onward_defect, own_defect, at_run, first_defect, defect_of_runs, text_defect}
use Rattle.views.specs.DefectWalks.{defect_between, size_defect, defect_from}
use Rattle.views.proofs.DefectRules.{is_small, are_fit_from, walk_is, none_of_all}
use Rattle.views.proofs.FitRuns.{first_sents, sents_next, text_from_first}

-- ---- steps of the walk

module _ (tree : ℕ) (password : Bool) (size : ℕ) where
  pub own_found : (a : SentRun) (rest : List SentRun) (rule : RunDefect) → own_defect tree password a ≡ Some rule → defect_from tree password size a rest ≡ Some (text_defects.Run a.id rule)
  own_found a [] rule e = ap (λ o. option_or (at_run a o) (option_or (size_defect size a) (at_run a (onward_defect a None)))) e
  own_found a (b ∷ rest) rule e = ap (λ o. option_or (at_run a o) (option_or (size_defect size a) (option_or (defect_between a b) (defect_from tree password (size + length (run_value a)) b rest)))) e

  module _ (a : SentRun) (fit : own_defect tree password a ≡ None) where
    pub too_long : (rest : List SentRun) → is_small size a ≡ false → defect_from tree password size a rest ≡ Some (text_defects.Run a.id TooLong)
    too_long [] big = λ i. option_or (at_run a (fit i)) (option_or (at_run a (broken (big i) TooLong)) (at_run a (onward_defect a None)))
    too_long (b ∷ rest) big = λ i. option_or (at_run a (fit i)) (option_or (at_run a (broken (big i) TooLong)) (option_or (defect_between a b) (defect_from tree password (size + length (run_value a)) b rest)))

    at_last : is_small size a ≡ true → defect_from tree password size a [] ≡ at_run a (onward_defect a None)
    at_last small = λ i. option_or (at_run a (fit i)) (option_or (at_run a (broken (small i) TooLong)) (at_run a (onward_defect a None)))

    at_next : (b : SentRun) (rest : List SentRun) → is_small size a ≡ true →
        defect_from tree password size a (b ∷ rest) ≡ option_or (defect_between a b) (defect_from tree password (size + length (run_value a)) b rest)
    at_next b rest small = λ i. option_or (at_run a (fit i)) (option_or (at_run a (broken (small i) TooLong)) (option_or (defect_between a b) (defect_from tree password (size + length (run_value a)) b rest)))

  pub last_found : (r : Run) → ids_after r ≡ [] → own_defect tree password (sent_of r) ≡ None → is_small size (sent_of r) ≡ true →
      defect_from tree password size (sent_of r) (sents_after r) ≡ at_run (sent_of r) (onward_defect (sent_of r) None)
  last_found r last fit small =
      ap (λ ids. defect_from tree password size (sent_of r) (map (sent_run (run_world r)) ids)) last ∙ at_last (sent_of r) fit small

  next_is : (r s : Run) → IsAfter r s → own_defect tree password (sent_of r) ≡ None → is_small size (sent_of r) ≡ true →
      defect_from tree password size (sent_of r) (sents_after r) ≡ option_or (defect_between (sent_of r) (sent_of s)) (defect_from tree password (size + length (run_value (sent_of r))) (sent_of s) (sents_after s))
  next_is r s after fit small =
      ap (defect_from tree password size (sent_of r)) (sents_next r s after) ∙ at_next (sent_of r) fit (sent_of s) (sents_after s) small

  pub between_found : (r s : Run) (defect : TextDefect) → IsAfter r s → own_defect tree password (sent_of r) ≡ None → is_small size (sent_of r) ≡ true → defect_between (sent_of r) (sent_of s) ≡ Some defect →
      defect_from tree password size (sent_of r) (sents_after r) ≡ Some defect
  between_found r s defect after fit small e =
      next_is r s after fit small ∙ ap (λ o. option_or o (defect_from tree password (size + length (run_value (sent_of r))) (sent_of s) (sents_after s))) e

  pub walk_on : (r s : Run) → IsAfter r s → own_defect tree password (sent_of r) ≡ None → is_small size (sent_of r) ≡ true → defect_between (sent_of r) (sent_of s) ≡ None →
      defect_from tree password size (sent_of r) (sents_after r) ≡ defect_from tree password (size + length (run_value (sent_of r))) (sent_of s) (sents_after s)
  walk_on r s after fit small e =
      next_is r s after fit small ∙ ap (λ o. option_or o (defect_from tree password (size + length (run_value (sent_of r))) (sent_of s) (sents_after s))) e

pub not_small : (size : ℕ) (r : SentRun) → (size + length (run_value r) < 2 ^ 64 → ⊥) → is_small size r ≡ false
not_small size r big = go (is_small size r) refl
  where
    go : (b : Bool) → is_small size r ≡ b → is_small size r ≡ false
    go true e = absurd (big (ltb-true _ _ e))
    go false e = e

-- ---- all runs of a node

-- what is asked by `is_none`
pub tested : {X : Type 0} (o : Option X) (b : Bool) → is_some o ≡ not b → b ≡ is_none o
tested None true e = refl
tested None false e = cc
tested (Some x) true e = cc
tested (Some x) false e = refl

pub sents_of_first : (n : NodeRef) (r : Run) → IsFirstOf n r → sent_runs (world_at n) (id_at n) ≡ sent_of r ∷ sents_after r
sents_of_first n r first = subst (λ m. sent_runs (world_at m) (id_at m) ≡ sent_of r ∷ sents_after r) first.root (first_sents r first.order)

secret_known : (n : NodeRef) → is_password (world_at n) (id_at n) ≡ is_password_input (data_at n).role
secret_known n = ap (λ o. option_map_or (λ (d : NodeData). is_password_input d.role) o false) n.known

held_known : (n : NodeRef) → says (λ d. holds_text d.role) (world_at n) (id_at n) ≡ holds_text (data_at n).role
held_known n = ap (λ o. option_map_or (λ (d : NodeData). holds_text d.role) o false) n.known

abbrev first_of_node : NodeRef → Option TextDefect
first_of_node n = first_defect (id_at n).tree (is_password (world_at n) (id_at n)) (sent_runs (world_at n) (id_at n))

first_is : (n : NodeRef) (r : Run) → IsFirstOf n r → first_of_node n ≡ option_or (at_run (sent_of r) (back_defect None (sent_of r))) (defect_from (id_at n).tree (is_password_input (data_at n).role) 0 (sent_of r) (sents_after r))
first_is n r first =
    (λ i. first_defect (id_at n).tree (secret_known n i) (sents_of_first n r first i))
    ∙ walk_is (id_at n).tree (is_password_input (data_at n).role) None 0 (sent_of r) (sents_after r)

pub linked_back : (n : NodeRef) (r : Run) (link : NodeId) → IsFirstOf n r → (sent_of r).node.previous_on_line ≡ Some link → first_of_node n ≡ Some (text_defects.Run (run_id r) (PreviousLink link))
linked_back n r link first linked =
    first_is n r first
    ∙ ap (λ o. option_or (at_run (sent_of r) (link_defect (λ node. PreviousLink node) PreviousUnanswered o None None)) (defect_from (id_at n).tree (is_password_input (data_at n).role) 0 (sent_of r) (sents_after r))) linked

pub not_linked_back : (n : NodeRef) (r : Run) → IsFirstOf n r → (sent_of r).node.previous_on_line ≡ None →
    first_of_node n ≡ defect_from (id_at n).tree (is_password_input (data_at n).role) 0 (sent_of r) (sents_after r)
not_linked_back n r first unlinked =
    first_is n r first
    ∙ ap (λ o. option_or (at_run (sent_of r) (link_defect (λ node. PreviousLink node) PreviousUnanswered o None None)) (defect_from (id_at n).tree (is_password_input (data_at n).role) 0 (sent_of r) (sents_after r))) unlinked

-- a node whose role holds text has one exactly if no run breaks a rule
pub none_if_text : (n : NodeRef) (r : Run) → IsFirstOf n r → holds_text (data_at n).role ≡ true → is_none (first_of_node n) ≡ supports_text_ranges (world_at n) (id_at n)
none_if_text n r first held =
    (λ i. is_none (first_defect (id_at n).tree (secret_known n i) (sents_of_first n r first i)))
    ∙ none_of_all (id_at n).tree (is_password_input (data_at n).role) (sent_of r) (sents_after r)
    ∙ sym (ap (λ b. b && (is_none (sent_of r).node.previous_on_line && are_fit_from (id_at n).tree (is_password_input (data_at n).role) 0 (sent_of r) (sents_after r))) held)
    ∙ sym (text_from_first n r first)

-- the definition by cases: no runs, a role that holds no text, and else the first defect of the runs
module _ (n : NodeRef) where
  pub without_runs : run_ids (world_at n) (id_at n) ≡ [] → text_defect (world_at n) (id_at n) ≡ None
  unfolding text_defect
  without_runs none = ap (λ ids. defect_of_runs (world_at n) (id_at n) (map (sent_run (world_at n)) ids)) none

  by_role : (runs : List SentRun) (r : SentRun) (rest : List SentRun) → runs ≡ r ∷ rest →
      defect_of_runs (world_at n) (id_at n) runs ≡ (if says (λ d. holds_text d.role) (world_at n) (id_at n) then first_defect (id_at n).tree (is_password (world_at n) (id_at n)) runs else Some text_defects.Role)
  by_role [] r rest e = cc
  by_role (x ∷ xs) r rest e = refl

  with_runs : (r : Run) → IsFirstOf n r → text_defect (world_at n) (id_at n) ≡ (if holds_text (data_at n).role then first_of_node n else Some text_defects.Role)
  unfolding text_defect
  with_runs r first =
      by_role (sent_runs (world_at n) (id_at n)) (sent_of r) (sents_after r) (sents_of_first n r first)
      ∙ ap (λ b. if b then first_of_node n else Some text_defects.Role) (held_known n)

  pub unheld_defect : (r : Run) → IsFirstOf n r → holds_text (data_at n).role ≡ false → text_defect (world_at n) (id_at n) ≡ Some text_defects.Role
  unheld_defect r first e = with_runs r first ∙ ap (λ b. if b then first_of_node n else Some text_defects.Role) e

  pub held_defect : (r : Run) → IsFirstOf n r → holds_text (data_at n).role ≡ true → text_defect (world_at n) (id_at n) ≡ first_of_node n
  held_defect r first e = with_runs r first ∙ ap (λ b. if b then first_of_node n else Some text_defects.Role) e

  -- whether there are no runs
  pub some_runs : (r : Run) → IsFirstOf n r → (length (run_ids (world_at n) (id_at n)) == 0) ≡ false
  some_runs r first = by_length (run_ids (world_at n) (id_at n)) (sents_of_first n r first)
    where
      by_length : (ids : List FullNodeId) → map (sent_run (world_at n)) ids ≡ sent_of r ∷ sents_after r → (length ids == 0) ≡ false
      by_length [] e = cc
      by_length (x ∷ xs) e = ne_eqb (length (x ∷ xs)) 0 (λ h. omega (arith, h))
