-- What is written is the decision, and its lists are short.
use Rattle.std.proofs.Common.{◌≡◌, ◌≢◌, ◌+◌, ◌*◌, ◌≤◌, Bool, true, false, List, [], ◌++◌, map, length, IsTrue, inl, inr, refl, sym, ap, ◌∙◌, subst, arith, length-append}
use Rattle.std.specs.Prelude.{AllPairs}
use Rattle.values_by_id.specs.Rows.{Ascends}
use Rattle.std.specs.List.Sorted.{IsStrictlySortedBy}
use Rattle.model.specs.declared.FullNodeId.{FullNodeId}
use Rattle.model.specs.FullIds.{full_cmp}
use Rattle.model.specs.declared.events.PlanEvent.{PlanEvent}
use Rattle.model.specs.declared.events.PlanEvent.TheVariants as told
use Rattle.model.specs.Focus.{IsEffectiveFocus}
use Rattle.model.specs.Update.{IsFirst}
use Rattle.model.specs.Run.{AreToldBy}
use Rattle.model.specs.Work.{Work, IsWorkOf}
use Rattle.tree_changes.specs.declared.look_ups.TreeRecord.{TreeRecord}
use Rattle.tree_changes.specs.declared.decision.Decision.{Decision}
use Rattle.tree_changes.specs.Changes.{overlaid_world}
use Rattle.tree_changes.specs.Decisions.{IsDecision}
use Rattle.tree_plan.specs.declared.passes.Focused.{Focused}
use Rattle.tree_plan.specs.declared.verdicts.Found.{Found}
use Rattle.tree_plan.specs.declared.writing.Group.TheVariants as group
use Rattle.tree_plan.specs.Passes.{at, IsFocusing}
use Rattle.tree_plan.specs.Verdicts.{Transition, IsFound, Becomes, Verdicts}
use Rattle.tree_plan.specs.Writing.{own_record, IsOwnPart, AreEvents, AreTrees, IsSmall}
use Rattle.tree_plan.proofs.Listed.{ids_where, is_in, told-where, changes_in}
use Rattle.tree_plan.proofs.Trees.{AreAfter, all_after, all_once}
use Rattle.tree_plan.proofs.Assembled.{IsKept, all_told, overlaid_is, decision_is}
use Rattle.tree_plan.proofs.Counts.{entered_small, gone_small, changes_small, events_small}

module _ (s : Transition) (f : Found) (h : IsFound s f) (vs : Verdicts) (sorted : Ascends vs) (becomes : (id : FullNodeId) → Becomes s id (at vs id)) where
  module _ (own : TreeRecord) (is_own : own ≡ own_record s.update.name s.update.focus f.opened) (d : Decision) (nodes : d.nodes.items ≡ changes_in vs) (trees : AreTrees f own d.trees.items) where
    own_part : IsOwnPart f.opened.record (own_record s.update.name s.update.focus f.opened) trees.0
    own_part = subst (λ r. IsOwnPart f.opened.record r trees.0) is_own trees.2

    after : AreAfter s.old s.update h.old h.kept s.new h.rebuilt (f.removed.trees.items ++ f.regrafted.trees.items ++ trees.0)
    after = all_after s.old s.update h.old h.kept s.new h.rebuilt f.opened f.removed.trees.items f.regrafted.trees.items trees.0 h.opening h.removal.trees h.regrafting.gained own_part

    abbrev kept : IsKept s
    kept = record { old = h.old; kept = h.kept; rebuilt = h.rebuilt }

    pub written_new : overlaid_world s.old s.update d ≡ s.new
    written_new = overlaid_is s kept vs sorted becomes (f.removed.trees.items ++ f.regrafted.trees.items ++ trees.0) after d nodes trees.1

    module _ (focused : Focused) (focusing : IsFocusing s.old s.update focused) (quiet : IsTrue f.opened.is_first → d.events.items ≡ []) (tell : ¬ (IsTrue f.opened.is_first) → AreEvents vs focused d.events.items) where
      groups_told : (events : List PlanEvent) (all : AreEvents vs focused events)
          → events ≡ map told.Added (ids_where (is_in group.Added) vs) ++ map told.Updated (ids_where (is_in group.Updated) vs) ++ all.moved ++ map told.Removed (ids_where (is_in group.Removed) vs)
      groups_told events all =
          let added = told-where group.Added vs in
          let updated = told-where group.Updated vs in
          let removed = told-where group.Removed vs in
          all.all ∙ (λ i. added i ++ updated i ++ all.moved ++ removed i)

      differences : ¬ (IsFirst s.old) → AreToldBy s.old s.update s.new d.events.items
      differences later =
          let all = tell (λ first. later (h.opening.first.0 first)) in
          all_told s vs sorted becomes focused.before focused.after all.moved d.events.items (focusing.before later) (focusing.after s.new h.rebuilt) all.is_move (groups_told d.events.items all)

      pub written_decision : d.focus ≡ focused.effective → IsDecision s.old s.update d
      written_decision focus =
          decision_is s kept vs sorted becomes (f.removed.trees.items ++ f.regrafted.trees.items ++ trees.0) after d nodes trees.1
          (subst (IsEffectiveFocus s.new) (sym focus) (focusing.effective s.new h.rebuilt))
          (subst (AllPairs (λ a b. a.id ≢ b.id)) (sym trees.1)
          (all_once s.old s.update h.old h.kept s.new h.rebuilt f.opened f.removed.trees.items f.regrafted.trees.items trees.0 h.removal.trees h.regrafting.gained own_part h.removal.trees_once h.regrafting.gained_once))
          differences (λ first. quiet (h.opening.first.1 first))

      few_told : (work : Work) (is : IsWorkOf s.old s.update s.new work) (first : Bool) → f.opened.is_first ≡ first → length d.events.items ≤ 2 * work.named + work.children + work.removed + 4
      few_told work is true e = let none : length d.events.items ≡ 0 = ap length (quiet e) in omega arith
      few_told work is false e = events_small s f h work is vs sorted becomes focused d.events.items (tell (λ first. let clash : false ≡ true = sym e ∙ first in cc))

      own_short : IsOwnPart f.opened.record own trees.0 → length trees.0 ≤ 1
      own_short (inl x) = let e = ap length x.1 in omega arith
      own_short (inr x) = let e = ap length x.1 in omega arith

      pub written_small : Ascends f.compared.entered → IsStrictlySortedBy full_cmp f.removed.gone.keys → (work : Work) → IsWorkOf s.old s.update s.new work → IsSmall f.compared f.removed f.regrafted d work
      written_small entered gone work is = record {
        entered = entered_small s f h work is entered;
        gone = gone_small s f h work is gone;
        nodes = let a = changes_small s f h work is vs sorted becomes in let e = ap length nodes in omega arith;
        trees =
            let e = ap length trees.1 in
            let a = length-append (f.removed.trees.items ++ f.regrafted.trees.items) trees.0 in
            let b = length-append f.removed.trees.items f.regrafted.trees.items in
            let c = own_short trees.2 in
            omega arith;
        events = few_told work is f.opened.is_first refl;
      }
