-- The two worlds of a password, worked out.
use Rattle.std.proofs.Common.{◌≡◌, ◌≢◌, ℕ, suc, Bool, true, false, cond, List, [], ◌∷◌, length, map, Option, Some, None, refl, sym, ap, subst, ◌∙◌, arith}
use Rattle.std.specs.Prelude.{codes, sum_by, Contains, option_map, option_and_then, is_some}
use Rattle.std.specs.Ordering.{eq_by_cmp}
use Rattle.std.specs.Str.{chars, is_utf8}
use Rattle.std.specs.Char.{encode_utf8}
use Rattle.std.specs.FinMap.{FinMap, from_sorted, find, entries, entries-from_sorted, len, len-entries}
use Rattle.std.proofs.lemmas.Map.Views.{tells_apart}
use Rattle.schema.specs.NodeData.{NodeData}
use Rattle.model.specs.RoleClasses.{is_multiline}
use Rattle.model.specs.Upward.{field_at, says}
use Rattle.model.specs.declared.FullNodeId.{FullNodeId}
use Rattle.model.specs.FullIds.{full_cmp, exact_full}
use Rattle.model.specs.World.{World, data_of, in_tree}
use Rattle.model.specs.Forest.{empty, tree, plant, levels_below, below}
use Rattle.model.specs.Frontier.{frontier}
use Rattle.model.specs.TextRuns.{SentRun, is_password, run_filter, run_ids, sent_run, sent_runs, supports_text_ranges}
use Rattle.model.specs.FlatText.{needs_masking, shown_run, flat_text}
use Rattle.model.specs.Values.{document_text, value_of, bullets}
use Rattle.model.specs.Ranges.{text_of, document_range}
use Rattle.model.specs.Outline.{outline, without_text, without_value}
use Rattle.model.specs.Shape.{face, IsMaskedText, EqualShape}
use Rattle.model.specs.Examples.{at}
use Rattle.model.specs.SecretExamples.{field_node, run_node, secret_nodes, secret, one_secret, other_secret, labelled_run, labelled_secret, shorter_secret, SecretsAreAlike}
use Rattle.model.proofs.Worlds.Written.{data_written, children_written}
use Rattle.model.proofs.Examples.WrittenViews.{data_in}
use Rattle.model.proofs.Text.Outlines.{given_same}
use Rattle.model.proofs.Text.Secrets.{one_value, value_by, value_is_faced}

abbrev pub sent_as : ℕ → List ℕ → List ℕ → SentRun
sent_as n value lengths = record { id = at 0 n; node = run_node value lengths }

-- what a world of such nodes has
module _ (w : World) (v a1 l1 a2 l2 : List ℕ) (is : w.nodes ≡ from_sorted (secret_nodes v (run_node a1 l1) (run_node a2 l2))) where
  pub at_id : (id : FullNodeId) → data_of w id ≡ find full_cmp id (secret_nodes v (run_node a1 l1) (run_node a2 l2))
  at_id id = data_written w (secret_nodes v (run_node a1 l1) (run_node a2 l2)) tt is id

  pub root_data : data_of w (at 0 0) ≡ Some (field_node v)
  root_data = at_id (at 0 0)

  pub first_data : data_of w (at 0 1) ≡ Some (run_node a1 l1)
  first_data = at_id (at 0 1)

  pub second_data : data_of w (at 0 2) ≡ Some (run_node a2 l2)
  second_data = at_id (at 0 2)

  three_nodes : len w.nodes ≡ 3
  three_nodes = len-entries w.nodes ∙ ap (λ (m : FinMap full_cmp NodeData). length (entries m)) is ∙ ap length (entries-from_sorted full_cmp (secret_nodes v (run_node a1 l1) (run_node a2 l2)) tt)

  leaf : (n : ℕ) (id : FullNodeId) (d : NodeData) → data_of w id ≡ Some d → d.tree_id ≡ None → d.children ≡ [] → levels_below w (suc n) id ≡ empty
  leaf n id d e bare none = ap (plant (levels_below w n)) (children_written w id d e bare ∙ ap (map (in_tree id.tree)) none)

  forest : below w (at 0 0) ≡ tree (at 0 1) empty (tree (at 0 2) empty empty)
  unfolding below
  forest =
      ap (λ n. levels_below w n (at 0 0)) three_nodes
      ∙ ap (plant (levels_below w 2)) (children_written w (at 0 0) (field_node v) root_data refl)
      ∙ ap (λ f. tree (at 0 1) f (tree (at 0 2) (levels_below w 2 (at 0 2)) empty)) (leaf 1 (at 0 1) (run_node a1 l1) first_data refl refl)
      ∙ ap (λ f. tree (at 0 1) empty (tree (at 0 2) f empty)) (leaf 1 (at 0 2) (run_node a2 l2) second_data refl refl)

  pub runs : run_ids w (at 0 0) ≡ at 0 1 ∷ at 0 2 ∷ []
  runs = ap (frontier (run_filter w (at 0 0))) forest ∙ rw (first_data, second_data) refl

  pub sent : sent_runs w (at 0 0) ≡ sent_as 1 a1 l1 ∷ sent_as 2 a2 l2 ∷ []
  sent = ap (map (sent_run w)) runs ∙ rw (first_data, second_data) refl

  pub password : is_password w (at 0 0) ≡ true
  password = rw root_data refl

pub one_masked : IsMaskedText one_secret (at 0 0)
unfolding supports_text_ranges needs_masking chars is_utf8 encode_utf8
one_masked =
    let s = sent one_secret (codes "secret") (112 ∷ 195 ∷ 164 ∷ []) (1 ∷ 2 ∷ []) (codes "ss") (1 ∷ 1 ∷ []) refl in
    let r = root_data one_secret (codes "secret") (112 ∷ 195 ∷ 164 ∷ []) (1 ∷ 2 ∷ []) (codes "ss") (1 ∷ 1 ∷ []) refl in
    record { supported = rw (s, r) refl; masked = rw (s, r) refl }

pub other_masked : IsMaskedText other_secret (at 0 0)
unfolding supports_text_ranges needs_masking chars is_utf8 encode_utf8
other_masked =
    let s = sent other_secret (codes "x") (codes "xy") (1 ∷ 1 ∷ []) (codes "zw") (1 ∷ 1 ∷ []) refl in
    let r = root_data other_secret (codes "x") (codes "xy") (1 ∷ 1 ∷ []) (codes "zw") (1 ∷ 1 ∷ []) refl in
    record { supported = rw (s, r) refl; masked = rw (s, r) refl }

-- ---- they are of equal shape

-- an id that is none of the three has nothing in either
apart : (id : FullNodeId) (v v' : List ℕ) (a b a' b' : NodeData) → id ≢ at 0 0 → id ≢ at 0 1 → id ≢ at 0 2 → find full_cmp id (secret_nodes v a b) ≡ find full_cmp id (secret_nodes v' a' b')
apart id v v' a b a' b' n0 n1 n2 = go (eq_by_cmp full_cmp id (at 0 0)) refl (eq_by_cmp full_cmp id (at 0 1)) refl (eq_by_cmp full_cmp id (at 0 2)) refl
  where
    go : (x : Bool) → eq_by_cmp full_cmp id (at 0 0) ≡ x → (y : Bool) → eq_by_cmp full_cmp id (at 0 1) ≡ y → (z : Bool) → eq_by_cmp full_cmp id (at 0 2) ≡ z →
        ◌≡◌ {A = Option NodeData} (cond x (Some (field_node v)) (cond y (Some a) (cond z (Some b) None))) (cond x (Some (field_node v')) (cond y (Some a') (cond z (Some b') None)))
    go true e y f z g = absurd (n0 (tells_apart exact_full id (at 0 0) e))
    go false e true f z g = absurd (n1 (tells_apart exact_full id (at 0 1) f))
    go false e false f true g = absurd (n2 (tells_apart exact_full id (at 0 2) g))
    go false e false f false g = refl

outline_is : (v a1 l1 a2 l2 : List ℕ) → outline (secret v (run_node a1 l1) (run_node a2 l2)) ≡ outline (secret [] (run_node [] []) (run_node [] []))
outline_is v a1 l1 a2 l2 =
    let w = secret v (run_node a1 l1) (run_node a2 l2) in
    let e = secret [] (run_node [] []) (run_node [] []) in
    let here = entries-from_sorted full_cmp (secret_nodes v (run_node a1 l1) (run_node a2 l2)) tt in
    let there = entries-from_sorted full_cmp (secret_nodes [] (run_node [] []) (run_node [] [])) tt in
    (λ i. record w { nodes = from_sorted (map (λ (x : FullNodeId × NodeData). (x.0, without_text x.1)) (here i)) })
    ∙ sym (λ i. record e { nodes = from_sorted (map (λ (x : FullNodeId × NodeData). (x.0, without_text x.1)) (there i)) })

-- two such worlds with the same faces are of equal shape, if both are masked
module _ (v a1 l1 a2 l2 u b1 m1 b2 m2 : List ℕ) where
  abbrev one : World
  one = secret v (run_node a1 l1) (run_node a2 l2)

  abbrev other : World
  other = secret u (run_node b1 m1) (run_node b2 m2)

  pub same_shape : IsMaskedText one (at 0 0) → IsMaskedText other (at 0 0) → map face (sent_as 1 a1 l1 ∷ sent_as 2 a2 l2 ∷ []) ≡ map face (sent_as 1 b1 m1 ∷ sent_as 2 b2 m2 ∷ []) → EqualShape (at 0 0) one other
  same_shape first second faces =
      let ids = runs one v a1 l1 a2 l2 refl in
      let r = root_data one v a1 l1 a2 l2 refl in
      let q = root_data other u b1 m1 b2 m2 refl in
      record {
        first = first;
        second = second;
        outlines = outline_is v a1 l1 a2 l2 ∙ sym (outline_is u b1 m1 b2 m2);
        others = λ id n0 none.
            at_id one v a1 l1 a2 l2 refl id
            ∙ apart id v u (run_node a1 l1) (run_node a2 l2) (run_node b1 m1) (run_node b2 m2) n0
            (λ e. none (subst (λ xs. Contains xs id) (sym ids) (0, omega arith, sym e)))
            (λ e. none (subst (λ xs. Contains xs id) (sym ids) (1, omega arith, sym e)))
            ∙ sym (at_id other u b1 m1 b2 m2 refl id);
        own = ap (option_map without_value) r ∙ sym (ap (option_map without_value) q);
        own_value_is_given = rw (r, q) refl;
        faces = ap (map face) (sent one v a1 l1 a2 l2 refl) ∙ faces ∙ sym (ap (map face) (sent other u b1 m1 b2 m2 refl));
      }

pub equal_shape : EqualShape (at 0 0) one_secret other_secret
equal_shape = same_shape (codes "secret") (112 ∷ 195 ∷ 164 ∷ []) (1 ∷ 2 ∷ []) (codes "ss") (1 ∷ 1 ∷ []) (codes "x") (codes "xy") (1 ∷ 1 ∷ []) (codes "zw") (1 ∷ 1 ∷ []) one_masked other_masked refl

pub one_root : data_of one_secret (at 0 0) ≡ Some (field_node (codes "secret"))
one_root = root_data one_secret (codes "secret") (112 ∷ 195 ∷ 164 ∷ []) (1 ∷ 2 ∷ []) (codes "ss") (1 ∷ 1 ∷ []) refl

pub one_text_is : flat_text one_secret (at 0 0) ≡ map (shown_run one_secret (at 0 0) true true) (sent_as 1 (112 ∷ 195 ∷ 164 ∷ []) (1 ∷ 2 ∷ []) ∷ sent_as 2 (codes "ss") (1 ∷ 1 ∷ []) ∷ [])
unfolding flat_text
one_text_is =
    let a1 : List ℕ = 112 ∷ 195 ∷ 164 ∷ [] in
    let l1 : List ℕ = 1 ∷ 2 ∷ [] in
    let ones : List ℕ = 1 ∷ 1 ∷ [] in
    λ i. map (shown_run one_secret (at 0 0) (password one_secret (codes "secret") a1 l1 (codes "ss") ones refl i) (one_masked.masked i)) (sent one_secret (codes "secret") a1 l1 (codes "ss") ones refl i)

all_bullets : document_text one_secret (at 0 0) ≡ bullets 4
all_bullets = ap (λ t. text_of t (document_range t)) one_text_is

pub shown_first : value_of one_secret (at 0 0) ≡ Some (bullets 4)
shown_first =
    let r = root_data one_secret (codes "secret") (112 ∷ 195 ∷ 164 ∷ []) (1 ∷ 2 ∷ []) (codes "ss") (1 ∷ 1 ∷ []) refl in
    value_is_faced one_secret (at 0 0) one_masked.supported one_masked.masked
    ∙ ap (λ o. value_by (is_some (option_and_then (λ (d : NodeData). d.value) o)) (says (λ d. is_multiline d.role) one_secret (at 0 0)) (document_text one_secret (at 0 0))) r
    ∙ ap Some all_bullets

told_label : ¬ (EqualShape (at 0 0) one_secret labelled_secret)
told_label e =
    let one : field_at (λ d. d.label) one_secret (at 0 1) ≡ None = ap (option_and_then (λ (d : NodeData). d.label)) (data_in None (secret_nodes (codes "secret") (run_node (112 ∷ 195 ∷ 164 ∷ []) (1 ∷ 2 ∷ [])) (run_node (codes "ss") (1 ∷ 1 ∷ []))) tt (at 0 1)) in
    let other : field_at (λ d. d.label) labelled_secret (at 0 1) ≡ Some (codes "x") = ap (option_and_then (λ (d : NodeData). d.label)) (data_in None (secret_nodes (codes "secret") labelled_run (run_node (codes "ss") (1 ∷ 1 ∷ []))) tt (at 0 1)) in
    let same : field_at (λ d. d.label) one_secret (at 0 1) ≡ field_at (λ d. d.label) labelled_secret (at 0 1) =
    sym (λ i. given_same one_secret (λ d. d.label) (λ d. refl) i (at 0 1)) ∙ ap (λ u. field_at (λ d. d.label) u (at 0 1)) e.outlines ∙ (λ i. given_same labelled_secret (λ d. d.label) (λ d. refl) i (at 0 1)) in
    let no : None ≡ Some (codes "x") = sym one ∙ same ∙ other in
    cc

abbrev faces_count : List (ℕ × Bool) → ℕ
faces_count fs = sum_by (λ f. f.0) fs

told_count : ¬ (EqualShape (at 0 0) one_secret shorter_secret)
told_count e =
    let one = sent one_secret (codes "secret") (112 ∷ 195 ∷ 164 ∷ []) (1 ∷ 2 ∷ []) (codes "ss") (1 ∷ 1 ∷ []) refl in
    let other = sent shorter_secret (codes "secret") (codes "xy") (1 ∷ 1 ∷ []) (codes "z") (1 ∷ []) refl in
    let faces : (2, false) ∷ (2, false) ∷ [] ≡ (2, false) ∷ (1, false) ∷ [] = sym (ap (map face) one) ∙ e.faces ∙ ap (map face) other in
    let no : 4 ≡ 3 = ap faces_count faces in
    omega (arith, no)

pub secrets_are_alike : SecretsAreAlike
secrets_are_alike = record { shape = equal_shape; shown = shown_first; other_shown = sym (one_value (at 0 0) one_secret other_secret equal_shape) ∙ shown_first; labels_are_told = told_label; counts_are_told = told_count }
