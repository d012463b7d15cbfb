-- Whether a password input is above a node or below it, and whether a node that labels it hides its part.
use Rattle.std.proofs.Common.{◌≡◌, ℕ, suc, arith, Bool, true, false, not, ◌&&◌, ◌||◌, List, [], ◌∷◌, map, Option, Some, None, Bor, refl, sym, ap, ◌∙◌}
use Rattle.std.specs.Prelude.{MatchOption, cond, is_some, is_none, length, nat_lt, option_copied, option_map, if◌then◌else◌}
use Rattle.std.specs.Option.{option_and_then}
use Rattle.std.specs.List.{list_any}
use Rattle.schema.specs.NodeData.{NodeData}
use Rattle.model.specs.declared.FullNodeId.{FullNodeId}
use Rattle.model.specs.declared.filters.FilterResult.TheVariants.{Include, ExcludeNode}
use Rattle.model.specs.World.{World}
use Rattle.model.specs.Covers.{is_included, filtered_parent}
use Rattle.model.specs.Labels.{own_label, labelled_by}
use Rattle.model.specs.Lists.{ancestors}
use Rattle.model.specs.RoleClasses.{holds_text, is_password_input, is_label}
use Rattle.model.specs.TextRuns.{has_runs, is_password, run_ids, sent_runs}
use Rattle.model.specs.Upward.{says}
use Rattle.model.specs.Values.{own_value}
use Rattle.views.specs.declared.node.node_ref.NodeRef.{NodeRef}
use Rattle.views.specs.declared.runs.Run.{Run}
use Rattle.views.specs.Descendants.{descendants}
use Rattle.views.specs.Nodes.{world_at, id_at, data_at}
use Rattle.views.specs.PlainWalks.{node_in}
use Rattle.views.specs.RunTexts.{sents_from}
use Rattle.views.specs.Runs.{IsFirstOf, sents_after}
use Rattle.views.proofs.Climbing.{any_found, some_mapped, says_shown}
use Rattle.views.proofs.RunTexts.{from_first}
use Rattle.hidden_texts.specs.Hidden.{password_filter, is_in_password, has_password_below, holds_password, is_valued_by_runs, hides_value, hides_part, hides_label}
use Rattle.hidden_texts.specs.Walked.{is_password_node, hides_part_of}
use Rattle.hidden_texts.proofs.Anys.{any_in}

by_role : (b : Bool) → is_included (if b then Include else ExcludeNode) ≡ b
by_role true = refl
by_role false = refl

any_password : (w : World) (ids : List FullNodeId) → list_any (λ a. is_included (password_filter w a)) ids ≡ list_any (is_password w) ids
any_password w [] = refl
any_password w (id ∷ ids) =
    ap (λ b. b || list_any (λ a. is_included (password_filter w a)) ids) (by_role (is_password w id)) ∙ ap (λ b. is_password w id || b) (any_password w ids)

pub password_above : (w : World) (id : FullNodeId) (found : Option NodeRef) → option_map id_at found ≡ filtered_parent (password_filter w) w id → is_some found ≡ is_in_password w id
password_above w id found e = some_mapped found ∙ ap is_some e ∙ any_found (λ a. is_included (password_filter w a)) (ancestors w id) ∙ any_password w (ancestors w id)

-- of a view it says what its role is
pub filter_seen : (n : NodeRef) (b r : Bool) → r ≡ is_password_input (data_at n).role → r ≡ b → (if b then Include else ExcludeNode) ≡ password_filter (world_at n) (id_at n)
filter_seen n b r is e = ap (λ b. if b then Include else ExcludeNode) (sym e ∙ is ∙ sym (says_shown (λ d. is_password_input d.role) (world_at n) n refl))

-- a text that is borrowed is there if it is there
pub as_borrowed : {A : Type 0} (o : Option (Bor A)) (d : Option A) → option_copied o ≡ d → is_none o ≡ is_none d
as_borrowed None d e = ap is_none e
as_borrowed (Some x) d e = ap is_none e

-- what `is_none` says
pub none_said : {A : Type 0} (b : Bool) (o : Option A) → is_some o ≡ not b → b ≡ is_none o
none_said true None e = refl
none_said false None e = cc
none_said true (Some x) e = cc
none_said false (Some x) e = refl

pub missing : {A : Type 0} (o : Option A) → is_some o ≡ false → is_none o ≡ true
missing None e = refl
missing (Some x) e = cc

pub given : {A : Type 0} (o : Option A) → is_some o ≡ true → is_none o ≡ false
given None e = cc
given (Some x) e = refl

positive : (k : ℕ) → nat_lt 0 (suc k) ≡ true
positive k = grind arith

module _ (n : NodeRef) where
  abbrev w : World
  w = world_at n

  abbrev id : FullNodeId
  id = id_at n

  pub password_seen : is_password w id ≡ is_password_input (data_at n).role
  password_seen = says_shown (λ d. is_password_input d.role) w n refl

  pub label_seen : says (λ d. is_label d.role) w id ≡ is_label (data_at n).role
  label_seen = says_shown (λ d. is_label d.role) w n refl

  pub own_value_seen : own_value w id ≡ (data_at n).value
  own_value_seen = ap (λ o. option_and_then (λ (d : NodeData). d.value) o) n.known

  pub own_label_seen : own_label w id ≡ (data_at n).label
  own_label_seen = ap (λ o. option_and_then (λ (d : NodeData). d.label) o) n.known

  -- what is below it
  pub below_seen : list_any is_password_node (map (node_in w) (descendants w id)) ≡ has_password_below w id
  below_seen = any_in is_password w (descendants w id)

  pub holds_seen : (has_runs w id (sent_runs w id) && list_any is_password_node (map (node_in w) (descendants w id))) ≡ holds_password w id
  holds_seen = ap (λ b. has_runs w id (sent_runs w id) && b) below_seen

  -- it has a run if there is a first one
  pub runs_seen : (found : Option Run) → MatchOption found (run_ids w id ≡ []) (IsFirstOf n) → (holds_text (data_at n).role && is_some found) ≡ has_runs w id (sent_runs w id)
  runs_seen found first =
      ap (λ b. b && is_some found) (sym (says_shown (λ d. holds_text d.role) w n refl))
      ∙ ap (λ b. says (λ d. holds_text d.role) w id && b) (some_run found ∙ ap (λ rs. nat_lt 0 (length rs)) (from_first n found first).0)
    where
      some_run : (o : Option Run) → is_some o ≡ nat_lt 0 (length (sents_from o))
      some_run None = refl
      some_run (Some r) = sym (positive (length (sents_after r)))

  pub runless : holds_text (data_at n).role ≡ false → false ≡ has_runs w id (sent_runs w id)
  runless e = sym (ap (λ b. b && nat_lt 0 (length (sent_runs w id))) (says_shown (λ d. holds_text d.role) w n refl ∙ e))

  pub valued_seen : (is_password_input (data_at n).role || is_none (data_at n).value) ≡ is_valued_by_runs w id
  valued_seen = ap (λ b. b || is_none (data_at n).value) (sym password_seen) ∙ ap (λ o. is_password w id || is_none o) (sym own_value_seen)

  pub part_of_label : is_label (data_at n).role ≡ true → hides_value w id ≡ hides_part w id
  part_of_label e = sym (ap (λ b. cond b (hides_value w id) (is_in_password w id)) (label_seen ∙ e))

  pub part_of_other : is_label (data_at n).role ≡ false → is_in_password w id ≡ hides_part w id
  part_of_other e = sym (ap (λ b. cond b (hides_value w id) (is_in_password w id)) (label_seen ∙ e))

  -- in a password its label is hidden
  pub label_within : is_in_password w id ≡ true → true ≡ hides_label w id
  label_within e = sym (ap (λ b. b || (is_none (own_label w id) && list_any (hides_part w) (labelled_by w id))) e)

  by_labels : is_in_password w id ≡ false → (is_none (data_at n).label && list_any hides_part_of (map (node_in w) (labelled_by w id))) ≡ hides_label w id
  by_labels e =
      ap (λ o. is_none o && list_any hides_part_of (map (node_in w) (labelled_by w id))) (sym own_label_seen)
      ∙ ap (λ b. is_none (own_label w id) && b) (any_in hides_part w (labelled_by w id))
      ∙ sym (ap (λ b. b || (is_none (own_label w id) && list_any (hides_part w) (labelled_by w id))) e)

  -- outside, its own label is shown
  pub label_of_its_own : is_in_password w id ≡ false → is_none (data_at n).label ≡ false → false ≡ hides_label w id
  label_of_its_own out own = sym (ap (λ b. b && list_any hides_part_of (map (node_in w) (labelled_by w id))) own) ∙ by_labels out

  -- and otherwise those that label it decide
  pub label_of_others : is_in_password w id ≡ false → is_none (data_at n).label ≡ true → list_any hides_part_of (map (node_in w) (labelled_by w id)) ≡ hides_label w id
  label_of_others out own = sym (ap (λ b. b && list_any hides_part_of (map (node_in w) (labelled_by w id))) own) ∙ by_labels out
