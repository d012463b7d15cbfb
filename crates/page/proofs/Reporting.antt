-- What a reporter has told of events.
use Rattle.std.proofs.Common.{◌≡◌, ℕ, List, [], ◌∷◌, map, Option, Some, None, Result, refl, sym, ap, ◌∙◌, subst}
use Rattle.std.specs.Prelude.{IfNone, IfSome, option_map}
use Rattle.std.specs.declared.alloc.AllocError.{AllocError}
use Rattle.atree_script.proofs.Printing.{without, before_it}
use Rattle.model.specs.Differences.{event}
use Rattle.model.specs.declared.FullNodeId.{FullNodeId}
use Rattle.model.specs.declared.events.PlanEvent.{PlanEvent}
use Rattle.model.specs.declared.events.PlanEvent.TheVariants.{Added, Updated, FocusMoved, Removed}
use Rattle.model.specs.Events.{Event, Told, seen_in}
use Rattle.model.specs.World.{World}
use Rattle.session.specs.declared.commands.Command.{Command}
use Rattle.session.specs.declared.commands.Reply.{Reply}
use Rattle.session.proofs.StepEvents.{step_differences}
use Rattle.session.specs.Replied.{IsStep}
use Rattle.page_states.specs.Found.{AreReady, IsOfStep}
use Rattle.page.specs.Reports.{Known, Report, Reports, ReportsRightly}

seen_there : (w : World) (id : Option FullNodeId) → IfSome (option_map (seen_in w) id) (λ n. n.world ≡ w)
seen_there w None = tt
seen_there w (Some id) = refl

of_step : (old new : World) (d : PlanEvent) → IsOfStep old new (event old new d)
of_step old new (Added id) = refl
of_step old new (Updated id) = (refl, refl)
of_step old new (FocusMoved before after) = (seen_there old before, seen_there new after)
of_step old new (Removed id) = refl

-- ---- a reporter's output by its name, the state that it tells of, what it has told, what it has found out, and its fault

module _ {S N F : Type 0} (name : S → N) (state : S → ℕ) (has : S → Report) (before after : S → Known) (fault : S → Option F) where
  abbrev pub TellsRightly : S → Event → S → Type 0
  TellsRightly s e t = ReportsRightly (state s) (has s) (before s, after s) e (has t) (before t, after t)

  abbrev pub ReportsEvent : S → Event → S → Type 0
  ReportsEvent s e t = (name t ≡ name s) × (state t ≡ state s) × IfNone (fault t) ((fault s ≡ None) × TellsRightly s e t)

  pub same_output : (s t : S) (es : List Event) → Told ReportsEvent s es t → name t ≡ name s
  same_output s t [] h = ap name (sym h)
  same_output s t (e ∷ es) h = same_output h.0 t es h.1.1 ∙ h.1.0.0

  module _ (old new : World) where
    abbrev IsReady : S → Type 0
    IsReady s = AreReady old new (before s) (after s)

    abbrev TellsAll : S → List Event → S → Type 0
    TellsAll s es t = IfNone (fault t) ((fault s ≡ None) × (IsReady s → Told (Reports (state s)) (has s) es (has t)))

    tells_all : (s t : S) (ds : List PlanEvent) → Told ReportsEvent s (map (event old new) ds) t → TellsAll s (map (event old new) ds) t
    tells_all s t [] h = subst (λ r. IfNone (fault r) ((fault s ≡ None) × (IsReady s → has s ≡ has r))) h (without (fault s) (λ ready. refl))
    tells_all s t (d ∷ ds) h =
        before_it (fault s) (fault h.0) (fault t)
        (λ (first : TellsRightly s (event old new d) h.0) (others : IsReady h.0 → Told (Reports (state h.0)) (has h.0) (map (event old new) ds) (has t)) (ready : IsReady s).
        let one = first old new (of_step old new d) ready in
        (has h.0, (one.0, subst (λ k. Told (Reports k) (has h.0) (map (event old new) ds) (has t)) h.1.0.1 (others one.1))))
        h.1.0.2 (tells_all h.0 t ds h.1.1)

    pub all_told : (c : Command) (reply : Result Reply AllocError) (s t : S) (es : List Event) → IsStep old c new es reply → Told ReportsEvent s es t → TellsAll s es t
    all_told c reply s t es step h =
        let of = step_differences old c new es reply step in
        subst (λ xs. TellsAll s xs t) (sym of.1) (tells_all s t of.0 (subst (λ xs. Told ReportsEvent s xs t) of.1 h))

-- nothing went wrong with the output
pub no_fault : {F A : Type 0} (fault : Option F) → fault ≡ None → IfNone fault A → A
no_fault {A = A} fault e h = subst (λ o. IfNone o A) e h
