-- The records of a world, stepped by its differences to the next world, are the next world's.
use Rattle.std.proofs.Common.{◌≡◌, Bool, true, false, List, [], ◌∷◌, Option, Some, None, ◌⊎◌, inl, inr, refl, sym, ap, subst, ◌∙◌, cond}
use Rattle.std.specs.Option.{option_map}
use Rattle.std.specs.Ordering.{eq_by_cmp}
use Rattle.std.specs.FinMap.{get, remove, get-insert, get-remove}
use Rattle.std.specs.Cmp.{eq_by_cmp_equiv}
use Rattle.std.proofs.lemmas.Map.Views.{tells_apart}
use Rattle.model.specs.declared.FullNodeId.{FullNodeId}
use Rattle.model.specs.FullIds.{full_cmp, full_total, exact_full}
use Rattle.model.specs.World.{World, IsNode}
use Rattle.model.specs.Events.{Told, seen_in}
use Rattle.model.specs.Differences.{PlanEvent, Added, Updated, FocusMoved, Removed, event, events}
use Rattle.model.specs.Mirror.{Mirrored, Records, Shows, IsRecordOf, Notes, Mirrors}

-- the difference is one of this node
abbrev pub IsOf : PlanEvent → FullNodeId → Type 0
IsOf (Added id) j = id ≡ j
IsOf (Updated id) j = id ≡ j
IsOf (FocusMoved before after) j = ⊥
IsOf (Removed id) j = id ≡ j

-- one of the differences is of this node
abbrev pub Mention : List PlanEvent → FullNodeId → Type 0
Mention [] j = ⊥
Mention (d ∷ ds) j = IsOf d j ⊎ Mention ds j

-- nothing is removed that is a node of the new world
abbrev pub Fits : World → PlanEvent → Type 0
Fits new (Added id) = Unit {0}
Fits new (Updated id) = Unit {0}
Fits new (FocusMoved before after) = Unit {0}
Fits new (Removed id) = ¬ (IsNode new id)

abbrev pub AllFit : World → List PlanEvent → Type 0
AllFit new [] = Unit {0}
AllFit new (d ∷ ds) = Fits new d × AllFit new ds

-- the focus that the last move names
abbrev pub moved_to : Option FullNodeId → List PlanEvent → Option FullNodeId
moved_to focus [] = focus
moved_to focus (Added id ∷ ds) = moved_to focus ds
moved_to focus (Updated id ∷ ds) = moved_to focus ds
moved_to focus (FocusMoved before after ∷ ds) = moved_to after ds
moved_to focus (Removed id ∷ ds) = moved_to focus ds

same_key : (j id : FullNodeId) → id ≡ j → eq_by_cmp full_cmp j id ≡ true
same_key j id e = subst (λ x. eq_by_cmp full_cmp j x ≡ true) (sym e) ((eq_by_cmp_equiv full_total).refl j)

module _ (old new : World) where
  by_key : (j id : FullNodeId) (here there : Option Mirrored) (b : Bool) → eq_by_cmp full_cmp j id ≡ b → (id ≡ j → IsRecordOf new j here) → (id ≡ j) ⊎ IsRecordOf new j there → IsRecordOf new j (cond b here there)
  by_key j id here there true e f g = f (sym (tells_apart exact_full j id e))
  by_key j id here there false e f (inl same) = absurd (let h : false ≡ true = sym e ∙ same_key j id same in cc)
  by_key j id here there false e f (inr g) = g

  after_notes : (r s : Records) (id j : FullNodeId) → Notes r (seen_in new id) s → (id ≡ j) ⊎ IsRecordOf new j (get r.nodes j) → IsRecordOf new j (get s.nodes j)
  after_notes r s id j h before =
      let is : get s.nodes j ≡ cond (eq_by_cmp full_cmp j id) (Some h.0) (get r.nodes j) = ap (λ (x : Records). get x.nodes j) h.2 ∙ get-insert full_total r.nodes id h.0 j in
      subst (IsRecordOf new j) (sym is) (by_key j id (Some h.0) (get r.nodes j) _ refl (λ same. subst (λ x. Shows new x h.0) same h.1) before)

  after_removal : (r s : Records) (id j : FullNodeId) → s ≡ record r { nodes = remove r.nodes id } → ¬ (IsNode new id) → (id ≡ j) ⊎ IsRecordOf new j (get r.nodes j) → IsRecordOf new j (get s.nodes j)
  after_removal r s id j h gone before =
      let is : get s.nodes j ≡ cond (eq_by_cmp full_cmp j id) None (get r.nodes j) = ap (λ (x : Records). get x.nodes j) h ∙ get-remove full_total r.nodes id j in
      subst (IsRecordOf new j) (sym is) (by_key j id None (get r.nodes j) _ refl (λ same. subst (λ x. ¬ (IsNode new x)) same gone) before)

  after_move : (r s : Records) (after : Option FullNodeId) (j : FullNodeId) → s ≡ record r { focus = after } → IsRecordOf new j (get r.nodes j) → IsRecordOf new j (get s.nodes j)
  after_move r s after j h before = subst (λ (x : Records). IsRecordOf new j (get x.nodes j)) (sym h) before

  -- one event leaves a right record right, and makes that of its own node right
  after_event : (d : PlanEvent) (r s : Records) (j : FullNodeId) → Fits new d → Mirrors r (event old new d) s → IsOf d j ⊎ IsRecordOf new j (get r.nodes j) → IsRecordOf new j (get s.nodes j)
  after_event (Added id) r s j fits h before = after_notes r s id j h before
  after_event (Updated id) r s j fits h before = after_notes r s id j h before
  after_event (FocusMoved left entered) r s j fits h (inl none) = absurd none
  after_event (FocusMoved left entered) r s j fits h (inr before) = after_move r s _ j h before
  after_event (Removed id) r s j fits h before = after_removal r s id j h fits before

  after_first : (d : PlanEvent) (ds : List PlanEvent) (r s : Records) (j : FullNodeId) → Fits new d → Mirrors r (event old new d) s → (IsOf d j ⊎ Mention ds j) ⊎ IsRecordOf new j (get r.nodes j) → Mention ds j ⊎ IsRecordOf new j (get s.nodes j)
  after_first d ds r s j fits h (inl (inl here)) = inr (after_event d r s j fits h (inl here))
  after_first d ds r s j fits h (inl (inr later)) = inl later
  after_first d ds r s j fits h (inr before) = inr (after_event d r s j fits h (inr before))

  -- after all events the record of a node is right, if one of them is of this node or it was right before
  pub after_events : (ds : List PlanEvent) (r s : Records) (j : FullNodeId) → AllFit new ds → Told Mirrors r (events old new ds) s → Mention ds j ⊎ IsRecordOf new j (get r.nodes j) → IsRecordOf new j (get s.nodes j)
  after_events [] r s j fits told (inl none) = absurd none
  after_events [] r s j fits told (inr before) = subst (λ (x : Records). IsRecordOf new j (get x.nodes j)) told before
  after_events (d ∷ ds) r s j fits told before = after_events ds told.0 s j fits.1 told.1.1 (after_first d ds r told.0 j fits.0 told.1.0 before)

  id_seen : (w : World) (focus : Option FullNodeId) → option_map (λ n. n.id) (option_map (seen_in w) focus) ≡ focus
  id_seen w None = refl
  id_seen w (Some id) = refl

  pub focus_after : (ds : List PlanEvent) (r s : Records) → Told Mirrors r (events old new ds) s → s.focus ≡ moved_to r.focus ds
  focus_after [] r s told = ap (λ (x : Records). x.focus) (sym told)
  focus_after (Added id ∷ ds) r s told = focus_after ds told.0 s told.1.1 ∙ ap (λ (x : Records). moved_to x.focus ds) told.1.0.2
  focus_after (Updated id ∷ ds) r s told = focus_after ds told.0 s told.1.1 ∙ ap (λ (x : Records). moved_to x.focus ds) told.1.0.2
  focus_after (FocusMoved left entered ∷ ds) r s told = focus_after ds told.0 s told.1.1 ∙ ap (λ (x : Records). moved_to x.focus ds) told.1.0 ∙ ap (λ f. moved_to f ds) (id_seen new entered)
  focus_after (Removed id ∷ ds) r s told = focus_after ds told.0 s told.1.1 ∙ ap (λ (x : Records). moved_to x.focus ds) told.1.0
