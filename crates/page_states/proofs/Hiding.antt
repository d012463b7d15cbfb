-- What is hidden of a node, by what is known of it.
use Rattle.std.proofs.Common.{◌≡◌, Bool, true, false, ◌&&◌, ◌||◌, cond, List, [], ◌∷◌, map, refl, sym, ap, ◌∙◌}
use Rattle.std.specs.Prelude.{is_none}
use Rattle.std.specs.List.{list_any}
use Rattle.model.specs.declared.FullNodeId.{FullNodeId}
use Rattle.model.specs.World.{World}
use Rattle.model.specs.Labels.{own_label, labelled_by}
use Rattle.model.specs.Lists.{ancestors}
use Rattle.model.specs.RoleClasses.{is_label}
use Rattle.model.specs.TextRuns.{has_runs, is_password, sent_runs}
use Rattle.model.specs.Upward.{says}
use Rattle.views.specs.Descendants.{descendants}
use Rattle.views.specs.PlainWalks.{node_in}
use Rattle.hidden_texts.specs.Hidden.{is_in_password, has_password_below, holds_password, is_valued_by_runs, hides_value, hides_part, hides_label}
use Rattle.hidden_texts.specs.Walked.{hides_part_of}
use Rattle.hidden_texts.proofs.Anys.{any_in}
use Rattle.page_states.specs.Said.{hidden_at}
use Rattle.page_states.specs.declared.secrets.Hidden.{Hidden}

and_false : (b : Bool) → (b && false) ≡ false
and_false true = refl
and_false false = refl

abbrev both : Bool → Bool → Hidden
both label value = record { label = label; value = value }

module _ (w : World) (id : FullNodeId) where
  -- in a password both are
  pub all_hidden : is_in_password w id ≡ true → both true true ≡ hidden_at w id
  all_hidden within =
      let label = ap (λ b. b || (is_none (own_label w id) && list_any (hides_part w) (labelled_by w id))) within in
      let value = ap (λ b. b || (is_valued_by_runs w id && holds_password w id)) within in
      sym (λ i. both (label i) (value i))

  -- outside, the label isn't where no node labels it
  pub unlabelled : is_in_password w id ≡ false → (left : List (World × FullNodeId)) → left ≡ map (node_in w) (labelled_by w id) → left ≡ [] → false ≡ hides_label w id
  unlabelled out left is none =
      let no_labels : list_any (hides_part w) (labelled_by w id) ≡ false = sym (any_in hides_part w (labelled_by w id)) ∙ ap (list_any hides_part_of) (sym is ∙ none) in
      sym
      (ap (λ b. b || (is_none (own_label w id) && list_any (hides_part w) (labelled_by w id))) out
      ∙ ap (λ b. is_none (own_label w id) && b) no_labels ∙ and_false (is_none (own_label w id)))

  -- and the value isn't where there are no runs
  pub runless : is_in_password w id ≡ false → false ≡ has_runs w id (sent_runs w id) → false ≡ hides_value w id
  runless out no_runs =
      sym
      (ap (λ b. b || (is_valued_by_runs w id && holds_password w id)) out
      ∙ ap (λ b. is_valued_by_runs w id && (b && has_password_below w id)) (sym no_runs) ∙ and_false (is_valued_by_runs w id))

-- ---- where a world has no password

either_false : (b : Bool) → cond b false false ≡ false
either_false true = refl
either_false false = refl

module _ (w : World) (none : (id : FullNodeId) → is_password w id ≡ false) where
  no_password : (ids : List FullNodeId) → list_any (is_password w) ids ≡ false
  no_password [] = refl
  no_password (id ∷ ids) = ap (λ b. b || list_any (is_password w) ids) (none id) ∙ no_password ids

  no_value : (id : FullNodeId) → hides_value w id ≡ false
  no_value id =
      ap (λ b. b || (is_valued_by_runs w id && holds_password w id)) (no_password (ancestors w id))
      ∙ ap (λ b. is_valued_by_runs w id && (has_runs w id (sent_runs w id) && b)) (no_password (descendants w id))
      ∙ ap (λ b. is_valued_by_runs w id && b) (and_false (has_runs w id (sent_runs w id))) ∙ and_false (is_valued_by_runs w id)

  no_part : (id : FullNodeId) → hides_part w id ≡ false
  no_part id =
      (λ i. cond (says (λ d. is_label d.role) w id) (no_value id i) (no_password (ancestors w id) i)) ∙ either_false (says (λ d. is_label d.role) w id)

  no_parts : (ids : List FullNodeId) → list_any (hides_part w) ids ≡ false
  no_parts [] = refl
  no_parts (id ∷ ids) = ap (λ b. b || list_any (hides_part w) ids) (no_part id) ∙ no_parts ids

  no_label : (id : FullNodeId) → hides_label w id ≡ false
  no_label id =
      ap (λ b. b || (is_none (own_label w id) && list_any (hides_part w) (labelled_by w id))) (no_password (ancestors w id))
      ∙ ap (λ b. is_none (own_label w id) && b) (no_parts (labelled_by w id)) ∙ and_false (is_none (own_label w id))

  pub nothing_hidden : (id : FullNodeId) → both false false ≡ hidden_at w id
  nothing_hidden id = sym (λ i. both (no_label id i) (no_value id i))
