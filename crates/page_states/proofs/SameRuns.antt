-- A node that has the runs of a node above it has its value too, and hides it where that does.
use Rattle.std.proofs.Common.{◌≡◌, ℕ, suc, Bool, true, false, cond, not, ◌&&◌, ◌||◌, List, [], ◌∷◌, ◌++◌, length, map, drop, Option, Some, None, inl, refl, sym, ap, subst, ◌∙◌, append-nil}
use Rattle.std.specs.Prelude.{nat_lt, is_none, flat_map, IfSome, if◌then◌else◌}
use Rattle.std.specs.Option.{option_map, option_map_or, option_and_then, option_or}
use Rattle.std.specs.List.{list_any}
use Rattle.schema.specs.NodeData.{NodeData}
use Rattle.model.specs.declared.FullNodeId.{FullNodeId}
use Rattle.model.specs.declared.filters.FilterResult.{FilterResult}
use Rattle.model.specs.declared.filters.FilterResult.TheVariants.{Include, ExcludeNode}
use Rattle.model.specs.World.{World, children, data_of}
use Rattle.model.specs.Forest.{Forest, empty, tree, below, is_same, IsFormed}
use Rattle.model.specs.Lists.{preorder, IsWithin}
use Rattle.model.specs.Frontier.{shown_part, frontier, filtered_children}
use Rattle.model.specs.FlatText.{needs_masking}
use Rattle.model.specs.RoleClasses.{holds_text, is_multiline, is_password_input}
use Rattle.model.specs.TextRuns.{SentRun, is_run, is_password, run_filter, run_ids, sent_run, sent_runs, lie_in_tree, are_cut, have_rising_words, are_empty_last, are_linked_in_order, have_size, are_measured, supports_text_ranges}
use Rattle.model.specs.Upward.{says}
use Rattle.model.specs.Values.{document_text, has_value_in_runs, own_value, shown_value, value_of}
use Rattle.model.proofs.Forest.Climbs.{within_child}
use Rattle.model.proofs.Forest.PlaceOf.{same_from_test, test_self}
use Rattle.model.proofs.Lists.Frontiers.{frontier_is, preorder_is}
use Rattle.model.proofs.Lists.Preorder.{HangsAt, hangs_below}
use Rattle.model.proofs.Walks.Beside.{below_is_other}
use Rattle.views.specs.Descendants.{descendants}
use Rattle.views.specs.RunTexts.{shown_of_all}
use Rattle.views.proofs.Climbing.{parent_of, parent_above}
use Rattle.views.proofs.DocumentTexts.{document_is_shown}
use Rattle.hidden_texts.specs.Hidden.{has_password_below, hides_value, is_in_password}
use Rattle.page_states.specs.Sources.{reads_runs, IsSource, IsCarried, IsPassed, HasValueOf}
use Rattle.page_states.specs.declared.sources.Source.{Source}

-- ---- the runs of a node with one child

-- runs alone are shown, whatever the root
abbrev run_here : World → FullNodeId → FilterResult
run_here w id = cond (is_run w id) Include ExcludeNode

other_way : (a b : FullNodeId) → is_same a b ≡ false → is_same b a ≡ false
other_way a b e = go (is_same b a) refl
  where
    go : (t : Bool) → is_same b a ≡ t → is_same b a ≡ false
    go true t = absurd (let both : false ≡ true = sym e ∙ ap (is_same a) (same_from_test b a t) ∙ test_self a in cc)
    go false t = t

module _ (w : World) (formed : IsFormed w) where
  -- the root isn't met below itself
  rootless : (root p : FullNodeId) (k : ℕ) (t : Forest) → HangsAt w p k t → IsWithin w root p → frontier (run_filter w root) t ≡ frontier (run_here w) t
  unfolding HangsAt
  rootless root p k empty h within = refl
  rootless root p k (tree c inner rest) h within =
      let other : is_same c root ≡ false = other_way root c (below_is_other w formed root (p, k) c h.0 within) in
      let answer : run_filter w root c ≡ run_here w c = ap (λ b. cond (b || is_run w c) Include ExcludeNode) other in
      let deeper = rootless root c 0 inner h.1 (within_child w formed root (p, k) c h.0 within) in
      let later = rootless root p (suc k) rest h.2 within in
      (λ i. shown_part (answer i) c (deeper i) ++ later i)

  runs_are : (root : FullNodeId) → run_ids w root ≡ filtered_children (run_here w) w root
  runs_are root = rootless root root 0 (below w root) (hangs_below w root) (inl refl)

  module _ (p c : FullNodeId) (only : children w p ≡ c ∷ []) where
    -- an only child that is no run has its parent's runs
    runs_below : is_run w c ≡ false → run_ids w c ≡ run_ids w p
    runs_below passed =
        let f = run_here w in
        let one : filtered_children f w p ≡ shown_part (f c) c (filtered_children f w c) =
        frontier_is f w formed p ∙ ap (flat_map (λ x. shown_part (f x) x (filtered_children f w x))) only ∙ append-nil (shown_part (f c) c (filtered_children f w c)) in
        let through : shown_part (f c) c (filtered_children f w c) ≡ filtered_children f w c =
        ap (λ b. shown_part (cond b Include ExcludeNode) c (filtered_children f w c)) passed in
        runs_are c ∙ sym (runs_are p ∙ one ∙ through)

    -- and one that is no password has its parent's passwords below it
    passwords_below : is_password w c ≡ false → has_password_below w c ≡ has_password_below w p
    passwords_below plain =
        let all : descendants w p ≡ c ∷ descendants w c =
        ap (drop 1) (preorder_is w formed p ∙ ap (λ cs. p ∷ flat_map (preorder w) cs) only) ∙ append-nil (preorder w c) in
        sym (ap (list_any (is_password w)) all ∙ ap (λ b. b || list_any (is_password w) (descendants w c)) plain)

  -- a node goes on from its parent
  pub source_below : (p c s : FullNodeId) → children w p ≡ c ∷ [] → Some p ≡ parent_of w c → is_run w c ≡ false → is_password w c ≡ false → c.tree ≡ s.tree → IsSource w p s → IsSource w c s
  source_below p c s only parent passed plain kin source = record {
    reads = source.reads;
    tree = kin;
    runs = runs_below p c only passed ∙ source.runs;
    plain = plain;
    within = ap (list_any (is_password w)) (parent_above w formed c p parent) ∙ ap (λ b. b || is_in_password w p) source.plain ∙ source.within;
    below = passwords_below p c only plain ∙ source.below;
  }

-- ---- what it says of a node that it reads its runs

abbrev Parts : Option NodeData → Type 0
Parts o =
    (option_map_or (λ (d : NodeData). holds_text d.role) o false ≡ true) × (option_and_then (λ (d : NodeData). d.value) o ≡ None)
    × (option_map_or (λ (d : NodeData). is_password_input d.role) o false ≡ false) × (option_map_or (λ (d : NodeData). is_multiline d.role) o false ≡ false)

each_part : (h : Bool) (v : Option (List ℕ)) (p m : Bool) → ((h && is_none v) && not (p || m)) ≡ true → (h ≡ true) × (v ≡ None) × (p ≡ false) × (m ≡ false)
each_part false v p m e = cc
each_part true (Some x) p m e = cc
each_part true None true m e = cc
each_part true None false true e = cc
each_part true None false false e = (refl, refl, refl, refl)

parts_of : (o : Option NodeData) → option_map_or reads_runs o false ≡ true → Parts o
parts_of None e = cc
parts_of (Some d) e = each_part (holds_text d.role) d.value (is_password_input d.role) (is_multiline d.role) e

parts : (w : World) (id : FullNodeId) → says reads_runs w id ≡ true → Parts (data_of w id)
parts w id e = parts_of (data_of w id) e

-- it is its own source
pub own_source : (w : World) (id : FullNodeId) → says reads_runs w id ≡ true → IsSource w id id
own_source w id reads = record { reads = reads; tree = refl; runs = refl; plain = (parts w id reads).2; within = refl; below = refl }

-- ---- the value

abbrev text_by : Bool → ℕ → Bool → List SentRun → Bool
text_by holds index password runs =
    (holds && nat_lt 0 (length runs))
    && (lie_in_tree index runs
    && (are_cut runs && (have_rising_words runs && (are_empty_last runs && (are_linked_in_order runs && (have_size runs && are_measured password runs))))))

and_true : (b : Bool) → (b && true) ≡ b
and_true true = refl
and_true false = refl

by_runs : (w : World) (id : FullNodeId) → says reads_runs w id ≡ true → value_of w id ≡ (if supports_text_ranges w id then Some (document_text w id) else None)
unfolding value_of
by_runs w id reads =
    let p = parts w id reads in
    ap (λ o. option_or (option_map (shown_value w id) o) (if has_value_in_runs w id then Some (document_text w id) else None)) p.1
    ∙ ap (λ b. if supports_text_ranges w id && not b then Some (document_text w id) else None) p.3
    ∙ ap (λ b. if b then Some (document_text w id) else None) (and_true (supports_text_ranges w id))

no_other : (b other : Bool) → b ≡ false → (b && other) ≡ false
no_other false other e = refl
no_other true other e = cc

unmasked : (w : World) (id : FullNodeId) → says reads_runs w id ≡ true → needs_masking w id ≡ false
unfolding needs_masking
unmasked w id reads = no_other _ _ (parts w id reads).2

module _ (w : World) (id s : FullNodeId) (source : IsSource w id s) (reads : says reads_runs w id ≡ true) where
  holds : says (λ d. holds_text d.role) w id ≡ says (λ d. holds_text d.role) w s
  holds = (parts w id reads).0 ∙ sym (parts w s source.reads).0

  plain : is_password w id ≡ is_password w s
  plain = (parts w id reads).2 ∙ sym (parts w s source.reads).2

  sents : sent_runs w id ≡ sent_runs w s
  sents = ap (map (sent_run w)) source.runs

  makes : supports_text_ranges w id ≡ supports_text_ranges w s
  unfolding supports_text_ranges
  makes = λ i. text_by (holds i) (source.tree i) (plain i) (sents i)

  masks : needs_masking w id ≡ needs_masking w s
  masks = unmasked w id reads ∙ sym (unmasked w s source.reads)

  texts : supports_text_ranges w id ≡ true → document_text w id ≡ document_text w s
  texts e = document_is_shown w id e ∙ (λ i. shown_of_all (masks i) (sents i)) ∙ sym (document_is_shown w s (sym makes ∙ e))

  valued : (b : Bool) → supports_text_ranges w id ≡ b →
      (if supports_text_ranges w id then Some (document_text w id) else None) ≡ (if supports_text_ranges w s then Some (document_text w s) else None)
  valued true e =
      ap (λ b. if b then Some (document_text w id) else None) e ∙ ap (λ t. Some t) (texts e)
      ∙ sym (ap (λ b. if b then Some (document_text w s) else None) (sym makes ∙ e))
  valued false e =
      ap (λ b. if b then Some (document_text w id) else None) e ∙ sym (ap (λ b. if b then Some (document_text w s) else None) (sym makes ∙ e))

  pub value_of_source : HasValueOf w id s
  value_of_source = record {
    plain = (parts w id reads).2;
    value = by_runs w id reads ∙ valued (supports_text_ranges w id) refl ∙ sym (by_runs w s source.reads);
  }

  -- and where that is hidden
  owns : own_value w id ≡ own_value w s
  owns = (parts w id reads).1 ∙ sym (parts w s source.reads).1

  pub hides_as_source : hides_value w id ≡ hides_value w s
  hides_as_source =
      λ i. source.within i || ((plain i || is_none (owns i)) && ((holds i && nat_lt 0 (length (sents i))) && source.below i))

-- ---- what a node hands on

module _ (w : World) where
  pub carried_by_itself : (id : FullNodeId) (s : Source) → says reads_runs w id ≡ true → s.id ≡ id → s.is_hidden ≡ hides_value w id →
      IfSome s.only_child (λ child. children w id ≡ child ∷ []) → IsCarried w id s
  carried_by_itself id s reads is hides only = record {
    same = subst (IsSource w id) (sym is) (own_source w id reads);
    hides = hides ∙ ap (hides_value w) (sym is);
    only = only;
  }

  pub carried_below : IsFormed w → (p c : FullNodeId) (s t : Source) → Some p ≡ parent_of w c → IsCarried w p s → IsPassed w c s →
      t.id ≡ s.id → t.is_hidden ≡ s.is_hidden → IfSome t.only_child (λ child. children w c ≡ child ∷ []) → IsCarried w c t
  carried_below formed p c s t parent carried passed is hides only =
      let one : children w p ≡ c ∷ [] = subst (λ o. IfSome o (λ child. children w p ≡ child ∷ [])) passed.child carried.only in
      record {
        same = subst (IsSource w c) (sym is) (source_below w formed p c s.id one parent passed.run passed.plain passed.tree carried.same);
        hides = hides ∙ carried.hides ∙ ap (hides_value w) (sym is);
        only = only;
      }

-- a test of two that fails
pub neither : (a b r : Bool) → r ≡ (a || b) → not r ≡ true → (a ≡ false) × (b ≡ false)
neither true b r is e = absurd (let both : false ≡ true = sym (ap not is) ∙ e in cc)
neither false true r is e = absurd (let both : false ≡ true = sym (ap not is) ∙ e in cc)
neither false false r is e = (refl, refl)
