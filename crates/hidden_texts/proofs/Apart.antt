-- Which nodes are runs of a password.
use Rattle.std.proofs.Common.{◌≡◌, ◌≢◌, Bool, true, false, ◌||◌, List, [], ◌∷◌, map, refl, sym, ap, subst, ◌∙◌, ◌⊎◌, inl, inr}
use Rattle.std.specs.Prelude.{Contains}
use Rattle.std.specs.List.{list_any}
use Rattle.model.specs.declared.FullNodeId.{FullNodeId}
use Rattle.model.specs.declared.filters.FilterResult.{FilterResult}
use Rattle.model.specs.World.{World, Place}
use Rattle.model.specs.Forest.{above, below, IsFormed}
use Rattle.model.specs.Frontier.{LeadsUpTo}
use Rattle.model.specs.Lists.{nodes_of, ancestors}
use Rattle.model.specs.TextRuns.{is_password, run_filter, run_ids}
use Rattle.model.proofs.Members.{contains_none, contains_head, contains_later, contains_cases}
use Rattle.model.proofs.Lists.Shown.{shown_is}
use Rattle.model.proofs.Lists.Within.{in_preorder}
use Rattle.views.proofs.Climbing.{rest_above}
use Rattle.hidden_texts.specs.Hidden.{is_in_password, has_password_below}

-- a test passes of an element
pub passes_at : {X : Type 0} (P : X → Bool) (xs : List X) (x : X) → Contains xs x → P x ≡ true → list_any P xs ≡ true
passes_at P [] x m e = absurd (contains_none x m)
passes_at P (y ∷ xs) x m e = elim (contains_cases y x xs m) [
  | inl same ↦ ap (λ b. b || list_any P xs) (ap P same ∙ e)
  | inr later ↦ by_later (P y) (passes_at P xs x later e)
]
  where
    by_later : (b : Bool) → list_any P xs ≡ true → (b || list_any P xs) ≡ true
    by_later true h = refl
    by_later false h = h

leads_to_above : (f : FullNodeId → FilterResult) (top : FullNodeId) (ps : List Place) → LeadsUpTo f top ps → Contains (map (λ (p : Place). p.0) ps) top
leads_to_above f top [] h = absurd h
leads_to_above f top (p ∷ ps) (inl here) = contains_head p.0 top (map (λ (q : Place). q.0) ps) here
leads_to_above f top (p ∷ ps) (inr h) = contains_later p.0 top (map (λ (q : Place). q.0) ps) (leads_to_above f top ps h.1)

module _ (w : World) (formed : IsFormed w) where
  -- a root is above its runs
  pub above_run : (root run : FullNodeId) → Contains (run_ids w root) run → Contains (ancestors w run) root
  above_run root run m = leads_to_above (run_filter w root) root (above w run) ((shown_is (run_filter w root) w formed root run).0 m).1

  pub run_is_in : (p run : FullNodeId) → is_password w p ≡ true → Contains (run_ids w p) run → is_in_password w run ≡ true
  run_is_in p run secret m = passes_at (is_password w) (ancestors w run) p (above_run p run m) secret

  -- what is above a node is below it
  pub has_below : (top p : FullNodeId) → top ≢ p → is_password w p ≡ true → Contains (ancestors w p) top → has_password_below w top ≡ true
  has_below top p other secret m = elim (contains_cases top p (nodes_of (below w top)) ((in_preorder w formed top p).1 (inr m))) [
    | inl same ↦ absurd (other same)
    | inr later ↦ passes_at (is_password w) (nodes_of (below w top)) p later secret
  ]

  -- of two nodes above a third one, one is above the other
  two_above : (up : List FullNodeId) (id a b : FullNodeId) → ancestors w id ≡ up → Contains up a → Contains up b → (a ≡ b) ⊎ (Contains (ancestors w a) b ⊎ Contains (ancestors w b) a)
  two_above [] id a b e m n = absurd (contains_none a m)
  two_above (q ∷ up) id a b e m n =
      let rest : ancestors w q ≡ up = rest_above w formed id q up e in
      elim (contains_cases q a up m) [
        | inl first ↦ elim (contains_cases q b up n) [
          | inl second ↦ inl (sym first ∙ second)
          | inr later ↦ inr (inl (subst (λ x. Contains (ancestors w x) b) first (subst (λ xs. Contains xs b) (sym rest) later)))
        ]
        | inr later ↦ elim (contains_cases q b up n) [
          | inl second ↦ inr (inr (subst (λ x. Contains (ancestors w x) a) second (subst (λ xs. Contains xs a) (sym rest) later)))
          | inr other ↦ two_above up q a b rest later other
        ]
      ]

  -- the runs of a node outside of a password, with no password below it, are none of the password's, nor the password itself
  pub runs_apart : (p top run : FullNodeId) → is_password w p ≡ true → top ≢ p → is_in_password w top ≡ false → has_password_below w top ≡ false → Contains (run_ids w top) run →
      (run ≢ p) × ¬ (Contains (run_ids w p) run)
  runs_apart p top run secret other out none m = (not_it, not_its)
    where
      high : Contains (ancestors w run) top
      high = above_run top run m

      not_it : run ≢ p
      not_it same =
          let has : has_password_below w top ≡ true = has_below top p other secret (subst (λ x. Contains (ancestors w x) top) same high) in
          let clash : true ≡ false = sym has ∙ none in
          cc

      not_its : ¬ (Contains (run_ids w p) run)
      not_its n = elim (two_above (ancestors w run) run top p refl high (above_run p run n)) [
        | inl same ↦ other same
        | inr (inl above) ↦ (let clash : true ≡ false = sym (passes_at (is_password w) (ancestors w top) p above secret) ∙ out in cc)
        | inr (inr under) ↦ (let clash : true ≡ false = sym (has_below top p other secret under) ∙ none in cc)
      ]
