-- The same values and labels are shown, whatever is typed into a password.
use Rattle.std.proofs.Common.{◌≡◌, ◌≢◌, ℕ, Bool, true, false, not, ◌&&◌, ◌||◌, cond, List, [], ◌∷◌, ◌++◌, map, length, Option, Some, None, refl, sym, ap, subst, ◌∙◌, arith}
use Rattle.std.specs.Prelude.{Contains, bytes_eq, chars, filter_map, is_none, nat_lt, option_map, unwrap_or, if◌then◌else◌}
use Rattle.std.specs.Option.{option_or, option_map_or}
use Rattle.std.specs.List.{list_any, flat_map}
use Rattle.std.proofs.lemmas.Bool.{or_parts}
use Rattle.schema.specs.NodeData.{NodeData, empty_node}
use Rattle.schema.specs.declared.Role.{Role}
use Rattle.schema.specs.declared.Role.TheVariants.{TextRun}
use Rattle.model.specs.declared.FullNodeId.{FullNodeId}
use Rattle.model.specs.World.{World, data_of}
use Rattle.model.specs.FlatText.{are_alike, needs_masking}
use Rattle.model.specs.Forest.{IsFormed, is_same}
use Rattle.model.specs.Labels.{own_label, label_part, labelled_by, joined_text, label_of}
use Rattle.model.specs.RoleClasses.{holds_text, is_label, is_multiline, is_password_input}
use Rattle.model.specs.Shape.{face}
use Rattle.model.specs.TextRuns.{SentRun, is_password, run_ids, has_runs, sent_run, sent_runs, sent_characters, lie_in_tree, are_cut, have_rising_words, are_empty_last, are_linked_in_order, have_size, are_measured, supports_text_ranges}
use Rattle.model.specs.Upward.{says}
use Rattle.model.specs.Values.{bullets, own_value, document_text, has_value_in_runs, shown_alone, value_of}
use Rattle.model.proofs.Forest.PlaceOf.{same_from_test, test_self}
use Rattle.model.proofs.Members.{contains_first, contains_later}
use Rattle.model.proofs.Text.Outlines.{runs_same, says_same}
use Rattle.model.proofs.Text.Secrets.{masked_is_password}
use Rattle.views.specs.RunTexts.{shown_of_all, shown_text}
use Rattle.views.proofs.DocumentTexts.{document_is_shown}
use Rattle.hidden_texts.specs.Alike.{DifferInPassword, scalar_count}
use Rattle.hidden_texts.specs.Hidden.{is_in_password, has_password_below, holds_password, is_valued_by_runs, hides_value, hides_part, hides_label}
use Rattle.hidden_texts.specs.Laws.{PasswordShowsTheSame, TypingShowsTheSame, EqualShapesDifferInPassword}
use Rattle.hidden_texts.specs.Shown.{password_value, shown_value, shown_label}
use Rattle.hidden_texts.proofs.Apart.{runs_apart}
use Rattle.hidden_texts.proofs.HiddenAlike.{one, passwords_one, label_nodes_one, own_labels_one, labels_one, is_other, own_value_one, values_one, hidden_labels_one}
use Rattle.hidden_texts.proofs.Outlined.{some_runs, text_holders_same, with_runs}

-- ---- roles

labels_are_plain : (w : World) (id : FullNodeId) → says (λ d. is_label d.role) w id ≡ true → is_password w id ≡ false
labels_are_plain w id e = go (data_of w id) e
  where
    by_role : (r : Role) → is_label r ≡ true → is_password_input r ≡ false
    by_role r e = grind (arith, e)

    go : (o : Option NodeData) → option_map_or (λ (d : NodeData). is_label d.role) o false ≡ true → option_map_or (λ (d : NodeData). is_password_input d.role) o false ≡ false
    go None e = refl
    go (Some d) e = by_role d.role e

-- ---- booleans

pub and_false : (a b : Bool) → (a && b) ≡ false → a ≡ true → b ≡ false
and_false true b e h = e
and_false false b e h = cc

-- ---- lists

same_images : {X Y : Type 0} (f g : X → Y) (xs : List X) → ((x : X) → Contains xs x → f x ≡ g x) → map f xs ≡ map g xs
same_images f g [] h = refl
same_images f g (x ∷ xs) h = λ i. h x (contains_first x xs) i ∷ same_images f g xs (λ y m. h y (contains_later x y xs m)) i

abbrev with_part : {Y : Type 0} → Option Y → List Y → List Y
with_part None ys = ys
with_part (Some y) ys = y ∷ ys

same_parts : {X Y : Type 0} (hides : X → Bool) (f g : X → Option Y) (xs : List X) → list_any hides xs ≡ false → ((x : X) → hides x ≡ false → f x ≡ g x) → filter_map f xs ≡ filter_map g xs
same_parts hides f g [] none h = refl
same_parts hides f g (x ∷ xs) none h =
    let here = h x ((or_parts (hides x) (list_any hides xs) none).0) in
    let later = same_parts hides f g xs (or_parts (hides x) (list_any hides xs) none).1 h in
    λ i. with_part (here i) (later i)

-- as many bullets for as many characters in each run
same_bullets : (rs ss : List SentRun) → map face rs ≡ map face ss → shown_of_all true rs ≡ shown_of_all true ss
same_bullets [] [] e = refl
same_bullets [] (s ∷ ss) e = absurd (let clash : [] ≡ face s ∷ map face ss = e in cc)
same_bullets (r ∷ rs) [] e = absurd (let clash : face r ∷ map face rs ≡ [] = e in cc)
same_bullets (r ∷ rs) (s ∷ ss) e =
    let same : face r ∷ map face rs ≡ face s ∷ map face ss = e in
    let first : face r ≡ face s = cc in
    let others : map face rs ≡ map face ss = cc in
    λ i. bullets ((first i).0) ++ same_bullets rs ss others i

-- ---- what is shown, by cases

shown_same : (hidden secret : Bool) (x y a b : Option (List ℕ)) → (hidden ≡ false → secret ≡ true → x ≡ y) → (hidden ≡ false → secret ≡ false → a ≡ b) →
    (if hidden then None else (if secret then x else a)) ≡ (if hidden then None else (if secret then y else b))
shown_same true secret x y a b f g = refl
shown_same false true x y a b f g = f refl refl
shown_same false false x y a b f g = g refl refl

label_same : (hidden : Bool) (a b : Option (List ℕ)) → (hidden ≡ false → a ≡ b) → (if hidden then None else a) ≡ (if hidden then None else b)
label_same true a b h = refl
label_same false a b h = h refl

part_same : (b : Bool) (x y a c : Option (List ℕ)) → (b ≡ true → x ≡ y) → a ≡ c → cond b x a ≡ cond b y c
part_same true x y a c f e = f refl
part_same false x y a c f e = e

bullets_by_count : (o : Option (List ℕ)) → option_map (λ x. bullets (length (chars x))) o ≡ option_map bullets (option_map scalar_count o)
bullets_by_count None = refl
bullets_by_count (Some x) = refl

-- the value of a node that is no password: its own, or the text of its runs
plain_is : (o : Option (List ℕ)) (pw s k m : Bool) (alone : List ℕ → List ℕ) (doc text : List ℕ) → pw ≡ false → (s ≡ true → doc ≡ text) →
    option_or (option_map (λ x. if pw then (if s then (if k then doc else x) else alone x) else x) o) (if s && not m then Some doc else None) ≡ option_or o (if s && not m then Some text else None)
plain_is o true s k m alone doc text e h = absurd (let clash : true ≡ false = e in cc)
plain_is (Some x) false s k m alone doc text e h = refl
plain_is None false false k m alone doc text e h = refl
plain_is None false true k true alone doc text e h = refl
plain_is None false true k false alone doc text e h = ap Some (h refl)

abbrev run_text : World → FullNodeId → Option (List ℕ)
run_text w id = if has_value_in_runs w id then Some (shown_text false w id) else None

plain_value : (w : World) (id : FullNodeId) → is_password w id ≡ false → value_of w id ≡ option_or (own_value w id) (run_text w id)
unfolding value_of needs_masking
plain_value w id plain =
    plain_is (own_value w id) (is_password w id) (supports_text_ranges w id) (needs_masking w id) (says (λ d. is_multiline d.role) w id) shown_alone (document_text w id) (shown_text false w id) plain
    (λ s. document_is_shown w id s ∙ ap (λ k. shown_text k w id) (unmasked plain))
  where
    unmasked : is_password w id ≡ false → needs_masking w id ≡ false
    unmasked e = ap (λ b. b && not (are_alike bytes_eq (flat_map sent_characters (sent_runs w id)))) e

abbrev other_rules : World → FullNodeId → Bool
other_rules w id =
    lie_in_tree id.tree (sent_runs w id) && (are_cut (sent_runs w id) && (have_rising_words (sent_runs w id) && (are_empty_last (sent_runs w id) && (are_linked_in_order (sent_runs w id) && (have_size (sent_runs w id) && are_measured (is_password w id) (sent_runs w id))))))

-- without runs there is no text
pub without_runs : (w : World) (id : FullNodeId) → has_runs w id (sent_runs w id) ≡ false → supports_text_ranges w id ≡ false
unfolding supports_text_ranges
without_runs w id e = ap (λ b. b && other_rules w id) e

module _ (p : FullNodeId) (w v : World) (formed : IsFormed w) (alike : DifferInPassword p w v) where
  pub runs_one : run_ids w ≡ run_ids v
  runs_one = one p w v formed alike run_ids runs_same

  multi_one : says (λ d. is_multiline d.role) w ≡ says (λ d. is_multiline d.role) v
  multi_one = one p w v formed alike (says (λ d. is_multiline d.role)) (λ u. says_same u (λ d. is_multiline d.role) (λ d. refl))

  with_runs_one : some_runs w ≡ some_runs v
  with_runs_one = one p w v formed alike some_runs with_runs

  pub holders_one : says (λ d. holds_text d.role) w ≡ says (λ d. holds_text d.role) v
  holders_one = one p w v formed alike (says (λ d. holds_text d.role)) text_holders_same

  -- ---- a node apart from the password: its runs are the same

  module _ (id : FullNodeId) (other : id ≢ p) (out : is_in_password w id ≡ false) where
    own_one : own_value w id ≡ own_value v id
    own_one = own_value_one p w v formed alike id other out

    module _ (none : has_password_below w id ≡ false) where
      run_one : (r : FullNodeId) → Contains (run_ids w id) r → sent_run w r ≡ sent_run v r
      run_one r m =
          let apart = runs_apart w formed p id r alike.password other out none m in
          λ i. record { id = r; node = unwrap_or (alike.others r apart.0 apart.1 i) (empty_node TextRun) }

      pub sents_one : sent_runs w id ≡ sent_runs v id
      sents_one = same_images (sent_run w) (sent_run v) (run_ids w id) run_one ∙ (λ i. map (sent_run v) (runs_one i id))

      pub supports_one : supports_text_ranges w id ≡ supports_text_ranges v id
      unfolding supports_text_ranges
      supports_one i =
          (holders_one i id && nat_lt 0 (length (sents_one i)))
          && (lie_in_tree id.tree (sents_one i) && (are_cut (sents_one i) && (have_rising_words (sents_one i) && (are_empty_last (sents_one i) && (are_linked_in_order (sents_one i) && (have_size (sents_one i) && are_measured (passwords_one p w v formed alike i id) (sents_one i)))))))

      texts_of_runs : run_text w id ≡ run_text v id
      texts_of_runs i = if supports_one i && not (multi_one i id) then Some (shown_of_all false (sents_one i)) else None

      password_apart : password_value w id ≡ password_value v id
      password_apart i = if supports_one i then Some (shown_of_all true (sents_one i)) else option_map (λ x. bullets (length (chars x))) (own_one i)

    -- one without runs
    module _ (holds : has_runs w id (sent_runs w id) ≡ false) where
      pub textless : supports_text_ranges v id ≡ false
      textless = without_runs v id ((λ i. sym with_runs_one i id) ∙ holds)

      no_run_text : (u : World) → supports_text_ranges u id ≡ false → run_text u id ≡ None
      no_run_text u e = ap (λ s. if s && not (says (λ d. is_multiline d.role) u id) then Some (shown_text false u id) else None) e

      no_texts : run_text w id ≡ run_text v id
      no_texts = no_run_text w (without_runs w id holds) ∙ sym (no_run_text v textless)

      no_runs : (u : World) → supports_text_ranges u id ≡ false → password_value u id ≡ option_map (λ x. bullets (length (chars x))) (own_value u id)
      no_runs u e = ap (λ s. if s then Some (shown_text true u id) else option_map (λ x. bullets (length (chars x))) (own_value u id)) e

      password_textless : password_value w id ≡ password_value v id
      password_textless = no_runs w (without_runs w id holds) ∙ ap (option_map (λ x. bullets (length (chars x)))) own_one ∙ sym (no_runs v textless)

    by_runs : (b : Bool) → has_runs w id (sent_runs w id) ≡ b → holds_password w id ≡ false → (run_text w id ≡ run_text v id) × (password_value w id ≡ password_value v id)
    by_runs true holds free = let none = and_false _ _ free holds in (texts_of_runs none, password_apart none)
    by_runs false holds free = (no_texts holds, password_textless holds)

  -- ---- the password

  at_password : (b : Bool) → supports_text_ranges w p ≡ b → password_value w p ≡ password_value v p
  at_password true text =
      ap (λ s. if s then Some (shown_text true w p) else option_map (λ x. bullets (length (chars x))) (own_value w p)) text
      ∙ ap Some (same_bullets (sent_runs w p) (sent_runs v p) alike.faces)
      ∙ sym (ap (λ s. if s then Some (shown_text true v p) else option_map (λ x. bullets (length (chars x))) (own_value v p)) (sym alike.texts ∙ text))
  at_password false text =
      ap (λ s. if s then Some (shown_text true w p) else option_map (λ x. bullets (length (chars x))) (own_value w p)) text
      ∙ bullets_by_count (own_value w p) ∙ ap (option_map bullets) (alike.alone text) ∙ sym (bullets_by_count (own_value v p))
      ∙ sym (ap (λ s. if s then Some (shown_text true v p) else option_map (λ x. bullets (length (chars x))) (own_value v p)) (sym alike.texts ∙ text))

  -- ---- values

  module _ (id : FullNodeId) (open' : hides_value w id ≡ false) where
    out : is_in_password w id ≡ false
    out = (or_parts (is_in_password w id) (is_valued_by_runs w id && holds_password w id) open').0

    free : is_valued_by_runs w id ≡ true → holds_password w id ≡ false
    free = and_false (is_valued_by_runs w id) (holds_password w id) (or_parts (is_in_password w id) (is_valued_by_runs w id && holds_password w id) open').1

    secret_one : is_password w id ≡ true → (b : Bool) → is_same id p ≡ b → password_value w id ≡ password_value v id
    secret_one secret true same = subst (λ x. password_value w x ≡ password_value v x) (sym (same_from_test id p same)) (at_password (supports_text_ranges w p) refl)
    secret_one secret false differs =
        let other : id ≢ p = λ e. (let clash : true ≡ false = sym (test_self id) ∙ ap (is_same id) e ∙ differs in cc) in
        (by_runs id other out (has_runs w id (sent_runs w id)) refl (free (ap (λ b. b || is_none (own_value w id)) secret))).1

    module _ (plain : is_password w id ≡ false) where
      other : id ≢ p
      other = is_other p w v formed alike id plain

      there : is_password v id ≡ false
      there = (λ i. sym (passwords_one p w v formed alike) i id) ∙ plain

      by_own : (o : Option (List ℕ)) → own_value w id ≡ o → option_or (own_value w id) (run_text w id) ≡ option_or (own_value v id) (run_text v id)
      by_own (Some x) e = ap (λ o. option_or o (run_text w id)) e ∙ sym (ap (λ o. option_or o (run_text v id)) (sym (own_one id other out) ∙ e))
      by_own None e =
          let valued : is_valued_by_runs w id ≡ true = ap (λ b. b || is_none (own_value w id)) plain ∙ ap is_none e in
          λ i. option_or (own_one id other out i) ((by_runs id other out (has_runs w id (sent_runs w id)) refl (free valued)).0 i)

      pub plain_one : value_of w id ≡ value_of v id
      plain_one = plain_value w id plain ∙ by_own (own_value w id) refl ∙ sym (plain_value v id there)

  pub value_shown : (id : FullNodeId) → shown_value w id ≡ shown_value v id
  value_shown id =
      shown_same (hides_value w id) (is_password w id) (password_value w id) (password_value v id) (value_of w id) (value_of v id) (λ open' secret. secret_one id open' secret (is_same id p) refl) (plain_one id)
      ∙ (λ i. if values_one p w v formed alike i id then None else (if passwords_one p w v formed alike i id then password_value v id else value_of v id))

  -- ---- labels

  part_one : (m : FullNodeId) → hides_part w m ≡ false → label_part w m ≡ label_part v m
  part_one m open' =
      part_same (says (λ d. is_label d.role) w m) (value_of w m) (value_of v m) (own_label w m) (own_label v m) by_value (λ i. own_labels_one p w v formed alike i m)
      ∙ (λ i. cond (label_nodes_one p w v formed alike i m) (value_of v m) (own_label v m))
    where
      by_value : says (λ d. is_label d.role) w m ≡ true → value_of w m ≡ value_of v m
      by_value label = plain_one m (sym (ap (λ b. cond b (hides_value w m) (is_in_password w m)) label) ∙ open') (labels_are_plain w m label)

  abbrev others_label : World → FullNodeId → Option (List ℕ)
  others_label u id = joined_text (filter_map (label_part u) (labelled_by u id))

  label_one : (id : FullNodeId) → hides_label w id ≡ false → (o : Option (List ℕ)) → own_label w id ≡ o → label_of w id ≡ label_of v id
  unfolding label_of
  label_one id open' (Some l) e =
      ap (λ o. option_or o (others_label w id)) e ∙ sym (ap (λ o. option_or o (others_label v id)) ((λ i. sym (own_labels_one p w v formed alike) i id) ∙ e))
  label_one id open' None e =
      let any : list_any (hides_part w) (labelled_by w id) ≡ false = and_false (is_none (own_label w id)) (list_any (hides_part w) (labelled_by w id)) (or_parts (is_in_password w id) (is_none (own_label w id) && list_any (hides_part w) (labelled_by w id)) open').1 (ap is_none e) in
      let parts : filter_map (label_part w) (labelled_by w id) ≡ filter_map (label_part v) (labelled_by w id) = same_parts (hides_part w) (label_part w) (label_part v) (labelled_by w id) any part_one in
      (λ i. option_or (own_labels_one p w v formed alike i id) (joined_text (parts i)))
      ∙ (λ i. option_or (own_label v id) (joined_text (filter_map (label_part v) (labels_one p w v formed alike i id))))

  pub label_shown : (id : FullNodeId) → shown_label w id ≡ shown_label v id
  label_shown id =
      label_same (hides_label w id) (label_of w id) (label_of v id) (λ open'. label_one id open' (own_label w id) refl)
      ∙ (λ i. if hidden_labels_one p w v formed alike i id then None else label_of v id)

pub password_shows_the_same : PasswordShowsTheSame
password_shows_the_same p w v formed alike = value_shown p w v formed alike p

pub typing_shows_the_same : TypingShowsTheSame
typing_shows_the_same p w v formed alike id = record { value = value_shown p w v formed alike id; label = label_shown p w v formed alike id }

-- ---- worlds of equal shape

pub equal_shapes_differ_in_password : EqualShapesDifferInPassword
equal_shapes_differ_in_password p w v e = record {
  password = masked_is_password w p e.first.masked;
  outlines = e.outlines;
  others = e.others;
  texts = e.first.supported ∙ sym e.second.supported;
  faces = e.faces;
  alone = λ none. absurd (let clash : true ≡ false = sym e.first.supported ∙ none in cc);
}
