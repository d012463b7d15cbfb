-- By which calls values and labels are written, case by case.
use Rattle.std.proofs.Common.{◌≡◌, ℕ, Bool, true, false, cond, List, [], ◌∷◌, ◌++◌, map, refl, sym, ap, ◌∙◌, subst}
use Rattle.std.specs.Prelude.{Option, Some, None, is_some, option_map, unwrap_or, filter_map, if◌then◌else◌, Result, OnOk, OnErr}
use Rattle.std.specs.Option.{option_map_or}
use Rattle.std.specs.List.{cons_option}
use Rattle.std.proofs.lemmas.Result.{on_ok_weaker, on_err_weaker}
use Rattle.schema.specs.TextCalls.{TextCall}
use Rattle.model.specs.declared.FullNodeId.{FullNodeId}
use Rattle.model.specs.World.{World}
use Rattle.model.specs.FlatText.{needs_masking}
use Rattle.model.specs.Labels.{own_label, label_part, labelled_by}
use Rattle.model.specs.RoleClasses.{is_label}
use Rattle.model.specs.TextRuns.{is_password, supports_text_ranges}
use Rattle.model.specs.Values.{has_value_in_runs}
use Rattle.views.specs.declared.node.node_ref.NodeRef.{NodeRef}
use Rattle.views.specs.Nodes.{world_at, id_at, data_at}
use Rattle.views.specs.PlainWalks.{node_in, node_of}
use Rattle.views.specs.ValueCalls.{text_calls, alone_calls, document_calls, own_value_calls, value_calls, part_calls, given_calls, spaced_calls, joined_calls, label_calls, calls_of, rest_of_calls}
use Rattle.views.specs.Writes.{IsCalled, IsCalledTillFault}
use Rattle.views.proofs.Climbing.{says_shown}
use Rattle.views.proofs.LabelTexts.{own_label_is, put_first, left_out}
use Rattle.views.proofs.ValueTexts.{own_value_is}

-- ---- another name for calls, and one call more

module _ {W : Type 0} (steps : W → TextCall → Bool → W → Type 0) {calls other : List TextCall} where
  pub calls_are : (old new : W) → calls ≡ other → IsCalled steps calls old new → IsCalled steps other old new
  calls_are old new e h = subst (λ c. IsCalled steps c old new) e h

  pub broken_off_is : {old new : W} → calls ≡ other → IsCalledTillFault steps calls old new → IsCalledTillFault steps other old new
  broken_off_is {old = old} {new = new} e h = subst (λ c. IsCalledTillFault steps c old new) e h

module _ {W A E : Type 0} (steps : W → TextCall → Bool → W → Type 0) (old mid new : W) (r : Result A E) (call : TextCall) (calls : List TextCall) (first : steps old call true mid) where
  pub one_before : OnOk r (IsCalled steps calls mid new) → OnOk r (IsCalled steps (call ∷ calls) old new)
  one_before h = on_ok_weaker r (λ (k : IsCalled steps calls mid new). (mid, first, k)) h

  with_one : IsCalledTillFault steps calls mid new → IsCalledTillFault steps (call ∷ calls) old new
  with_one k = record {
    front = call ∷ k.front;
    call = k.call;
    missing = k.missing;
    whole = ap (λ xs. call ∷ xs) k.whole;
    before = k.before;
    taken = (mid, first, k.taken);
    failed = k.failed;
  }

  pub one_before_fault : OnErr r (IsCalledTillFault steps calls mid new) → OnErr r (IsCalledTillFault steps (call ∷ calls) old new)
  one_before_fault h = on_err_weaker r with_one h

-- ---- an own value

module _ (w : World) (id : FullNodeId) (v : List ℕ) where
  abbrev by_tests : Bool → Bool → Bool → List TextCall
  by_tests p s m = if p then (if s then (if m then document_calls w id else text_calls v) else alone_calls v) else text_calls v

  pub no_password : is_password w id ≡ false → text_calls v ≡ own_value_calls w id v
  no_password p = ap (λ b. by_tests b (supports_text_ranges w id) (needs_masking w id)) (sym p)

  pub no_runs : is_password w id ≡ true → supports_text_ranges w id ≡ false → alone_calls v ≡ own_value_calls w id v
  no_runs p s = ap (λ b. by_tests true b (needs_masking w id)) (sym s) ∙ ap (λ b. by_tests b (supports_text_ranges w id) (needs_masking w id)) (sym p)

  with_runs : is_password w id ≡ true → supports_text_ranges w id ≡ true → by_tests true true (needs_masking w id) ≡ own_value_calls w id v
  with_runs p s = ap (λ b. by_tests true b (needs_masking w id)) (sym s) ∙ ap (λ b. by_tests b (supports_text_ranges w id) (needs_masking w id)) (sym p)

  pub masked_runs : is_password w id ≡ true → supports_text_ranges w id ≡ true → needs_masking w id ≡ true → document_calls w id ≡ own_value_calls w id v
  masked_runs p s m = ap (λ b. by_tests true true b) (sym m) ∙ with_runs p s

  pub plain_runs : is_password w id ≡ true → supports_text_ranges w id ≡ true → needs_masking w id ≡ false → text_calls v ≡ own_value_calls w id v
  plain_runs p s m = ap (λ b. by_tests true true b) (sym m) ∙ with_runs p s

-- ---- the value, and what a node gives

module _ (n : NodeRef) where
  abbrev w : World
  w = world_at n

  abbrev id : FullNodeId
  id = id_at n

  abbrev valued : Option (List ℕ) → Bool → List TextCall
  valued own runs = option_map_or (own_value_calls w id) own (if runs then document_calls w id else [])

  by_own : (o : Option (List ℕ)) → o ≡ (data_at n).value → valued o (has_value_in_runs w id) ≡ value_calls w id
  unfolding value_calls
  by_own o e = ap (λ o. valued o (has_value_in_runs w id)) (e ∙ sym (own_value_is n))

  pub calls_of_own : (v : List ℕ) → Some v ≡ (data_at n).value → own_value_calls w id v ≡ value_calls w id
  calls_of_own v e = by_own (Some v) e

  pub calls_of_document : None ≡ (data_at n).value → has_value_in_runs w id ≡ true → document_calls w id ≡ value_calls w id
  calls_of_document e r = ap (valued None) (sym r) ∙ by_own None e

  pub no_calls : None ≡ (data_at n).value → has_value_in_runs w id ≡ false → [] ≡ value_calls w id
  no_calls e r = ap (valued None) (sym r) ∙ by_own None e

  abbrev parted : Bool → Option (List ℕ) → List TextCall
  parted is_one label = cond is_one (value_calls w id) (text_calls (unwrap_or label []))

  by_role : parted (is_label (data_at n).role) (data_at n).label ≡ part_calls w id
  by_role =
      ap (λ o. parted (is_label (data_at n).role) o) (sym (own_label_is n))
      ∙ ap (λ b. parted b (own_label w id)) (sym (says_shown (λ d. is_label d.role) w n refl))

  pub part_of_value : is_label (data_at n).role ≡ true → value_calls w id ≡ part_calls w id
  part_of_value e = ap (λ b. parted b (data_at n).label) (sym e) ∙ by_role

  pub part_of_label : is_label (data_at n).role ≡ false → text_calls (unwrap_or (data_at n).label []) ≡ part_calls w id
  part_of_label e = ap (λ b. parted b (data_at n).label) (sym e) ∙ by_role

-- ---- part after part

pub next_calls : (is_later : Bool) (p : List TextCall) (ps : List (List TextCall)) → rest_of_calls is_later (p ∷ ps) ≡ spaced_calls is_later p ++ rest_of_calls true ps
next_calls true p ps = refl
next_calls false p ps = refl

pub no_more_calls : (is_later : Bool) → rest_of_calls is_later [] ≡ []
no_more_calls true = refl
no_more_calls false = refl

mapped_is_some : {A B : Type 0} (b : B) (o : Option A) → is_some (option_map (λ _. b) o) ≡ is_some o
mapped_is_some b None = refl
mapped_is_some b (Some x) = refl

mapped_to : {A B : Type 0} (b : B) (o : Option A) → unwrap_or (option_map (λ _. b) o) b ≡ b
mapped_to b None = refl
mapped_to b (Some x) = refl

module _ (nodes rest : List (World × FullNodeId)) (n : NodeRef) (is : nodes ≡ node_of n ∷ rest) where
  by_part : calls_of nodes ≡ cons_option (given_calls (world_at n) (id_at n)) (calls_of rest)
  by_part = ap calls_of is

  pub given_its_calls : is_some (label_part (world_at n) (id_at n)) ≡ true → calls_of nodes ≡ part_calls (world_at n) (id_at n) ∷ calls_of rest
  given_its_calls some =
      by_part ∙ put_first (given_calls (world_at n) (id_at n)) (part_calls (world_at n) (id_at n)) (calls_of rest) (mapped_is_some (part_calls (world_at n) (id_at n)) (label_part (world_at n) (id_at n)) ∙ some)
      ∙ ap (λ c. c ∷ calls_of rest) (mapped_to (part_calls (world_at n) (id_at n)) (label_part (world_at n) (id_at n)))

  pub given_no_calls : is_some (label_part (world_at n) (id_at n)) ≡ false → calls_of nodes ≡ calls_of rest
  given_no_calls none = by_part ∙ left_out (given_calls (world_at n) (id_at n)) (calls_of rest) (mapped_is_some (part_calls (world_at n) (id_at n)) (label_part (world_at n) (id_at n)) ∙ none)

-- ---- the label of a node

calls_in : (w : World) (ids : List FullNodeId) → calls_of (map (node_in w) ids) ≡ filter_map (given_calls w) ids
calls_in w [] = refl
calls_in w (id ∷ ids) = ap (cons_option (given_calls w id)) (calls_in w ids)

module _ (n : NodeRef) where
  abbrev all_calls : List (List TextCall)
  all_calls = calls_of (map (node_in (world_at n)) (labelled_by (world_at n) (id_at n)))

  by_own_label : option_map_or text_calls (data_at n).label (joined_calls all_calls) ≡ label_calls (world_at n) (id_at n)
  unfolding label_calls
  by_own_label =
      ap (λ o. option_map_or text_calls o (joined_calls all_calls)) (sym (own_label_is n))
      ∙ ap (λ parts. option_map_or text_calls (own_label (world_at n) (id_at n)) (joined_calls parts)) (calls_in (world_at n) (labelled_by (world_at n) (id_at n)))

  pub own_label_calls : (t : List ℕ) → Some t ≡ (data_at n).label → text_calls t ≡ label_calls (world_at n) (id_at n)
  own_label_calls t e = ap (λ o. option_map_or text_calls o (joined_calls all_calls)) e ∙ by_own_label

  pub joined_label_calls : None ≡ (data_at n).label → joined_calls all_calls ≡ label_calls (world_at n) (id_at n)
  joined_label_calls e = ap (λ o. option_map_or text_calls o (joined_calls all_calls)) e ∙ by_own_label
