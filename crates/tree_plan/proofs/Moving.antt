-- Data that are moved out of slots into changes.
use Rattle.std.proofs.Common.{◌≡◌, ◌≢◌, ℕ, ◌+◌, ◌<◌, ◌≤◌, List, [], ◌∷◌, ◌++◌, map, length, take, get_or, Option, Some, None, refl, sym, ap, ◌∙◌, arith, append_assoc}
use Rattle.std.specs.Prelude.{option_and_then}
use Rattle.std.proofs.lemmas.List.{map-append, take_more}
use Rattle.std.proofs.lemmas.Option.{slice_get-get_or}
use Rattle.schema.specs.NodeData.{NodeData}
use Rattle.model.specs.declared.FullNodeId.{FullNodeId}
use Rattle.tree_changes.specs.declared.decision.NodeChange.{NodeChange}
use Rattle.tree_changes.specs.declared.decision.NodeChange.TheVariants.{Put, Gone}
use Rattle.tree_plan.specs.declared.plan.Change.{Change}
use Rattle.tree_plan.specs.declared.plan.Change.TheVariants as change
use Rattle.tree_changes.specs.Changes.{entry_of}
use Rattle.tree_plan.specs.Planned.{slot_data, plan_change, taken_at, AreTakenOnce}

abbrev pub Slots : Type 0
Slots = List (Option NodeData)

-- slots with the same data at the entry that a change takes move it alike
moved_alike : (a b : Slots) (id : FullNodeId) (c : NodeChange) → ((k : ℕ) → entry_of c ≡ Some k → slot_data a k ≡ slot_data b k) → plan_change a (id, c) ≡ plan_change b (id, c)
moved_alike a b id (Put place (Some k)) same = ap (change.Put id place) (same k refl)
moved_alike a b id (Put place None) same = refl
moved_alike a b id Gone same = refl

module _ (ns : List (FullNodeId × NodeChange)) (i : ℕ) (d : FullNodeId × NodeChange) (within : i < length ns) (before now : Slots)
    (fresh : (j k : ℕ) → i ≤ j → taken_at ns j ≡ Some k → slot_data now k ≡ slot_data before k) where
  abbrev x : FullNodeId × NodeChange
  x = get_or ns i d

  here : (k : ℕ) → entry_of x.1 ≡ Some k → taken_at ns i ≡ Some k
  here k e = ap (option_and_then (λ c. entry_of c.1)) (slice_get-get_or ns i d within) ∙ e

  pub listed_more : (cs old : List Change) (r : Change) → r ≡ plan_change now (x.0, x.1) → cs ≡ old ++ map (plan_change before) (take i ns) → cs ++ r ∷ [] ≡ old ++ map (plan_change before) (take (i + 1) ns)
  listed_more cs old r is so_far =
      let one : r ≡ plan_change before x = is ∙ moved_alike now before x.0 x.1 (λ k e. fresh i k (omega arith) (here k e)) in
      let next : map (plan_change before) (take (i + 1) ns) ≡ map (plan_change before) (take i ns) ++ plan_change before x ∷ [] = ap (map (plan_change before)) (take_more ns i d within) ∙ map-append (plan_change before) (take i ns) (x ∷ []) in
      ap (λ y. cs ++ y ∷ []) one ∙ ap (λ ys. ys ++ plan_change before x ∷ []) so_far ∙ append_assoc old (map (plan_change before) (take i ns)) (plan_change before x ∷ []) ∙ ap (λ ys. old ++ ys) (sym next)

  pub fresh_more : AreTakenOnce ns → (later : Slots) → ((k : ℕ) → entry_of x.1 ≢ Some k → slot_data later k ≡ slot_data now k)
      → (j k : ℕ) → i + 1 ≤ j → taken_at ns j ≡ Some k → slot_data later k ≡ slot_data before k
  fresh_more once later others j k above taken =
      others k (λ e. let same : i ≡ j = once i j k (here k e) taken in absurd (omega arith)) ∙ fresh j k (omega arith) taken
