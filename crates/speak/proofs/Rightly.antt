-- A speaker that begins a step knows rightly what it looks up at the step's events.
use Rattle.std.proofs.Common.{◌≡◌, Bool, true, false, List, [], ◌∷◌, map, Option, IsTrue, Result, refl, sym, ap, subst, ◌∙◌}
use Rattle.std.specs.declared.alloc.AllocError.{AllocError}
use Rattle.model.specs.Differences.{event}
use Rattle.model.specs.declared.events.PlanEvent.{PlanEvent}
use Rattle.model.specs.declared.events.PlanEvent.TheVariants.{Added, Updated, FocusMoved, Removed}
use Rattle.model.specs.Events.{Event, Told}
use Rattle.model.specs.Mirror.{Records, MirrorsWhileKept}
use Rattle.model.specs.World.{World}
use Rattle.session.specs.declared.commands.Command.{Command}
use Rattle.session.specs.declared.commands.Reply.{Reply}
use Rattle.session.proofs.StepEvents.{step_differences}
use Rattle.session.specs.Replied.{IsStep}
use Rattle.speaking.specs.declared.speaker.Speaker.{Speaker}
use Rattle.speaking.specs.Events.{IsOfStep, KnowsRightly, Speaks}
use Rattle.speaking.specs.Events as speaking
use Rattle.speak.specs.Steps.{Hears}

-- what both receive, if the speaker knows rightly
abbrev pub HearBoth : Speaker × Option Records → Event → Speaker × Option Records → Type 0
HearBoth s e t = speaking.Hears s.0 e t.0 × MirrorsWhileKept s.1 e t.1

of_step : (old new : World) (d : PlanEvent) → IsOfStep old new (event old new d)
of_step old new (Added id) = refl
of_step old new (Updated id) = (refl, refl)
of_step old new (FocusMoved before after) = tt
of_step old new (Removed id) = tt

-- one that isn't silent wasn't before
was_loud : (s t : Speaker) → (IsTrue s.is_silent → t ≡ s) → t.is_silent ≡ false → s.is_silent ≡ false
was_loud s t kept loud = go s.is_silent refl
  where
    go : (b : Bool) → s.is_silent ≡ b → s.is_silent ≡ false
    go false e = e
    go true e = absurd (let clash : true ≡ false = sym e ∙ ap (λ (x : Speaker). x.is_silent) (sym (kept e)) ∙ loud in cc)

rightly : (old new : World) (s t : Speaker × Option Records) (ds : List PlanEvent) → (s.0.is_silent ≡ false → KnowsRightly old new s.0) →
    Told HearBoth s (map (event old new) ds) t → Told Hears s (map (event old new) ds) t
rightly old new s t [] ready h = h
rightly old new s t (d ∷ ds) ready h =
    let m : Speaker × Option Records = h.0 in
    let one : speaking.Hears s.0 (event old new d) m.0 = h.1.0.0 in
    let speaks : Speaks s.0 (event old new d) m.0 = record {
      silent = one.silent;
      says = λ loud. (one.says old new (of_step old new d) (ready (was_loud s.0 m.0 one.silent loud)) loud).0;
      kept = one.kept;
      text = one.text;
    } in
    (m, ((speaks, h.1.0.1), rightly old new m t ds (λ loud. (one.says old new (of_step old new d) (ready (was_loud s.0 m.0 one.silent loud)) loud).1) h.1.1))

pub told_rightly : (old new : World) (c : Command) (s t : Speaker × Option Records) (told : List Event) (reply : Result Reply AllocError) → IsStep old c new told reply → KnowsRightly old new s.0 →
    Told HearBoth s told t → Told Hears s told t
told_rightly old new c s t told reply step ready h =
    let of = step_differences old c new told reply step in
    subst (λ es. Told Hears s es t) (sym of.1) (rightly old new s t of.0 (λ loud. ready) (subst (λ es. Told HearBoth s es t) of.1 h))
