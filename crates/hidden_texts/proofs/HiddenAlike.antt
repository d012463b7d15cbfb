-- The same texts, values and labels are hidden, whatever is typed into a password.
use Rattle.std.proofs.Common.{◌≡◌, ◌≢◌, Bool, true, false, ◌&&◌, ◌||◌, cond, refl, sym, ap, ◌∙◌}
use Rattle.std.specs.Prelude.{is_none}
use Rattle.std.specs.Option.{option_and_then}
use Rattle.std.specs.List.{list_any}
use Rattle.schema.specs.NodeData.{NodeData}
use Rattle.model.specs.declared.FullNodeId.{FullNodeId}
use Rattle.model.specs.World.{World, data_of}
use Rattle.model.specs.Forest.{IsFormed}
use Rattle.model.specs.Labels.{own_label, labelled_by}
use Rattle.model.specs.Outline.{outline}
use Rattle.model.specs.RoleClasses.{is_label}
use Rattle.model.specs.TextRuns.{is_password}
use Rattle.model.specs.Upward.{says}
use Rattle.model.specs.Values.{own_value}
use Rattle.model.proofs.Text.Outlines.{funext, agree}
use Rattle.hidden_texts.specs.Alike.{DifferInPassword}
use Rattle.hidden_texts.specs.Hidden.{is_in_password, holds_password, hides_text, is_valued_by_runs, hides_value, hides_part, hides_label}
use Rattle.hidden_texts.specs.Laws.{HidesAlike, TypingHidesTheSame}
use Rattle.hidden_texts.proofs.Apart.{run_is_in}
use Rattle.hidden_texts.proofs.Outlined.{passwords_same, label_nodes_same, in_same, holds_same, own_labels_same, labels_same}

module _ (p : FullNodeId) (w v : World) (formed : IsFormed w) (alike : DifferInPassword p w v) where
  pub one : {A : Type 0} (of : World → A) → ((u : World) → of (outline u) ≡ of u) → of w ≡ of v
  one of h = agree of w v (λ u. sym (h u)) alike.outlines

  pub passwords_one : is_password w ≡ is_password v
  passwords_one = one is_password passwords_same

  pub label_nodes_one : says (λ d. is_label d.role) w ≡ says (λ d. is_label d.role) v
  label_nodes_one = one (says (λ d. is_label d.role)) label_nodes_same

  pub in_one : is_in_password w ≡ is_in_password v
  in_one = one is_in_password in_same

  pub holds_one : holds_password w ≡ holds_password v
  holds_one = one holds_password holds_same

  pub own_labels_one : own_label w ≡ own_label v
  own_labels_one = one own_label own_labels_same

  pub labels_one : labelled_by w ≡ labelled_by v
  labels_one = one labelled_by labels_same

  -- a node that is no password, and in none, has the same data in both
  pub data_one : (id : FullNodeId) → id ≢ p → is_in_password w id ≡ false → data_of w id ≡ data_of v id
  data_one id other out = alike.others id other (λ m. let clash : true ≡ false = sym (run_is_in w formed p id alike.password m) ∙ out in cc)

  pub is_other : (id : FullNodeId) → is_password w id ≡ false → id ≢ p
  is_other id plain same = let clash : true ≡ false = sym alike.password ∙ ap (is_password w) (sym same) ∙ plain in cc

  pub own_value_one : (id : FullNodeId) → id ≢ p → is_in_password w id ≡ false → own_value w id ≡ own_value v id
  own_value_one id other out = ap (option_and_then (λ (d : NodeData). d.value)) (data_one id other out)

  valued_one : (id : FullNodeId) → is_in_password w id ≡ false → (b : Bool) → is_password w id ≡ b → is_valued_by_runs w id ≡ is_valued_by_runs v id
  valued_one id out true secret =
      let there : is_password v id ≡ true = (λ i. sym passwords_one i id) ∙ secret in
      ap (λ b. b || is_none (own_value w id)) secret ∙ sym (ap (λ b. b || is_none (own_value v id)) there)
  valued_one id out false plain = λ i. passwords_one i id || is_none (own_value_one id (is_other id plain) out i)

  value_at : (id : FullNodeId) (b : Bool) → is_in_password w id ≡ b → hides_value w id ≡ hides_value v id
  value_at id true within =
      let there : is_in_password v id ≡ true = (λ i. sym in_one i id) ∙ within in
      ap (λ b. b || (is_valued_by_runs w id && holds_password w id)) within ∙ sym (ap (λ b. b || (is_valued_by_runs v id && holds_password v id)) there)
  value_at id false out = λ i. in_one i id || (valued_one id out (is_password w id) refl i && holds_one i id)

  pub values_one : hides_value w ≡ hides_value v
  values_one = funext (hides_value w) (hides_value v) (λ id. value_at id (is_in_password w id) refl)

  pub parts_one : hides_part w ≡ hides_part v
  parts_one i id = cond (label_nodes_one i id) (values_one i id) (in_one i id)

  pub hidden_labels_one : hides_label w ≡ hides_label v
  hidden_labels_one i id = in_one i id || (is_none (own_labels_one i id) && list_any (parts_one i) (labels_one i id))

  pub texts_one : hides_text w ≡ hides_text v
  texts_one i id = in_one i id || holds_one i id

  hides_alike : (id : FullNodeId) → HidesAlike w v id
  hides_alike id = record { text = λ i. texts_one i id; value = λ i. values_one i id; label = λ i. hidden_labels_one i id }

pub typing_hides_the_same : TypingHidesTheSame
typing_hides_the_same p w v formed alike id = hides_alike p w v formed alike id
