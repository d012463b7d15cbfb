-- The decision on an update, and what follows where it is carried out.
use Rattle.std.proofs.Common.{◌≡◌, ◌≤◌, ◌+◌, ◌-◌, ◌*◌, ℕ, slice_index_or, List, [], length, Option, Some, None, Result, refl, sym, ◌∙◌, ap, subst, arith}
use Rattle.std.specs.Prelude.{All, IfOk, OnOk, IfSome, Ok, Err}
use Rattle.std.specs.Option.{option_map_or}
use Rattle.std.proofs.lemmas.List.{length-map}
use Rattle.std.proofs.lemmas.List.Elements.{Contains-get_or}
use Rattle.model.specs.declared.events.PlanEvent.{PlanEvent}
use Rattle.model.specs.declared.events.PlanEvent.TheVariants.{Added, Updated, FocusMoved, Removed}
use Rattle.model.specs.World.{World}
use Rattle.model.specs.Events.{Event, Told}
use Rattle.model.specs.Differences.{event, events, told_root}
use Rattle.model.specs.Reasons.{Reason}
use Rattle.model.specs.Run.{CommandData, ReplyData, ToUpdate, Refused, OutOfMemory, Accepted, Does}
use Rattle.model.specs.State.{IsState}
use Rattle.model.specs.Update.{UpdateData, Fault, IsFirst, Stands, index_for}
use Rattle.model.specs.Work.{Work, IsWorkOf, allowance}
use Rattle.model.proofs.Differences.DifferencesAreOne.{differences_unique}
use Rattle.model.proofs.Differences.Reasons.{has_reason}
use Rattle.tree_changes.specs.declared.decision.Decision.{Decision}
use Rattle.tree_changes.specs.declared.error.UpdateError.{UpdateError}
use Rattle.tree_changes.specs.Changes.{overlaid_world}
use Rattle.tree_changes.specs.Decisions.{IsDecision, IsWithinWork}
use Rattle.tree_changes.specs.Refusals.{fault_of, IsRefusal}
use Rattle.tree_changes.specs.LookUps.{IsRaisedAtLeast, IsRaisedBy}
use Rattle.trees.specs.Counts.{CountsEvents, change_count}
use Rattle.trees.specs.Telling.{IsTellable}

-- What the planner looked up, asked from none on. It is added to the count ..
module _ (start asked : ℕ) (none : start ≡ 0) where
  all_asked : (looked : ℕ) → looked ≡ asked - start → asked ≡ looked
  all_asked looked is = omega arith

  pub looked_counted : (result : Result Decision UpdateError) (before after : ℕ) → IfOk result (λ d. d.looked ≡ asked - start) → IsRaisedBy before asked after
      → IfOk result (λ d. IsRaisedBy before d.looked after)
  looked_counted (Ok d) before after is raised = subst (λ n. IsRaisedBy before n after) (all_asked d.looked is) raised
  looked_counted (Err e) before after is raised = is

  -- .. is at least so much ..
  pub looked_least : (result : Result Decision UpdateError) (least : ℕ) → IfOk result (λ d. d.looked ≡ asked - start) → OnOk result (IsRaisedAtLeast start least asked)
      → IfOk result (λ d. IsRaisedAtLeast 0 least d.looked)
  looked_least (Ok d) least is raised = subst (λ n. IsRaisedAtLeast 0 least n) (all_asked d.looked is) (subst (λ n. IsRaisedAtLeast n least asked) none raised)
  looked_least (Err e) least is raised = is

  -- .. and is within what is allowed
  pub looked_within : (result : Result Decision UpdateError) (v w : World) (u : UpdateData) → v ≡ w → IfOk result (λ d. d.looked ≡ asked - start) → IfOk result (λ d. IsWithinWork v u d start asked)
      → IfOk result (λ d. IsWithinWork w u d 0 d.looked)
  looked_within (Ok d) v w u world is h =
      subst (λ n. IsWithinWork w u d 0 n) (all_asked d.looked is) (subst (λ n. IsWithinWork w u d n asked) none (subst (λ x. IsWithinWork x u d start asked) world h))
  looked_within (Err e) v w u world is h = h

-- a world in which a name is known had its first update
state_not_first : (w : World) → IsState w → ¬ (IsFirst w)
state_not_first w s first = cc (s.known_first, first)

-- what has its reason can be told
tellable : (old new : World) (root : Option _) (d : PlanEvent) → Reason old new root d → IsTellable old new d
tellable old new root (Added id) r = r.0
tellable old new root (Updated id) r = r.0
tellable old new root (FocusMoved before after) r = (r.0, r.1)
tellable old new root (Removed id) r = r.0

module _ (w : World) (u : UpdateData) (d : Decision) (state : IsState w) (decided : IsDecision w u d) where
  all_tellable : All (IsTellable w (overlaid_world w u d)) d.events.items
  all_tellable =
      let root = told_root (index_for w u.name) u.info in
      λ k e less. tellable w (overlaid_world w u d) root (slice_index_or d.events.items k e)
      (has_reason w (overlaid_world w u d) root d.events.items (decided.told (state_not_first w state)) (slice_index_or d.events.items k e) (Contains-get_or d.events.items k e less))

  pub views_tellable : (old new : World) (items : List PlanEvent) → old ≡ w → new ≡ overlaid_world w u d → items ≡ d.events.items → All (IsTellable old new) items
  views_tellable old new items is_old is_new same =
      subst (λ x. All (IsTellable old new) x) (sym same)
      (subst (λ x. All (IsTellable x new) d.events.items) (sym is_old) (subst (λ x. All (IsTellable w x) d.events.items) (sym is_new) all_tellable))

  -- an update that is accepted and told
  pub does_accepted : (new : World) → new ≡ overlaid_world w u d → Does w (ToUpdate u) new (events w new d.events.items) Accepted
  does_accepted new is =
      subst (λ x. Does w (ToUpdate u) x (events w x d.events.items) Accepted) (sym is)
      (decided.accepted, d.events.items, decided.told (state_not_first w state), refl)

-- an update that is refused
by_fault : (w new : World) (u : UpdateData) (f : Option Fault) → IfSome f (Stands w u) → new ≡ w → Does w (ToUpdate u) new [] (option_map_or Refused f OutOfMemory)
by_fault w new u None h same = (same, refl)
by_fault w new u (Some f) h same = (h, same, refl)

pub does_refused : (w new : World) (u : UpdateData) (e : UpdateError) → IsRefusal w u e → new ≡ w → Does w (ToUpdate u) new [] (option_map_or Refused (fault_of e) OutOfMemory)
does_refused w new u e h same = by_fault w new u (fault_of e) h same

-- what an update adds to the count is within what is allowed
pub within : (w new : World) (u : UpdateData) (d : Decision) (looked before decided after : ℕ) → new ≡ overlaid_world w u d → IsWithinWork w u d 0 looked
    → decided ≤ before + looked → after ≤ decided + 2 * change_count d → (work : Work) → IsWorkOf w u new work → after ≤ before + allowance work
within w new u d looked before decided after is h asked told work is_work = let least = h work (subst (λ x. IsWorkOf w u x work) is is_work) in omega (arith, asked, told, least)

-- a count that rose, and then rose by more, rose by both at least
pub raised_further : (before looked least between more after : ℕ) → IsRaisedBy before looked between → IsRaisedAtLeast 0 least looked → IsRaisedAtLeast between more after
    → IsRaisedAtLeast before (least + more) after
raised_further before looked least between more after first asked then = grind (arith, first.1, asked, then)

-- an update tells one list
told_once : (old new : World) (u : UpdateData) (told heard : List Event) → Does old (ToUpdate u) new told Accepted → Does old (ToUpdate u) new heard Accepted → told ≡ heard
told_once old new u told heard h g =
    h.3 ∙ ap (events old new) (differences_unique old new (told_root (index_for old u.name) u.info) h.1 g.1 h.2 g.2) ∙ sym g.3

-- where two look-ups are counted for each event and each change of a decision, they are for each event that is told
pub events_counted : (w new : World) (u : UpdateData) (d : Decision) (before after : ℕ) → Does w (ToUpdate u) new (events w new d.events.items) Accepted
    → IsRaisedBy before (2 * change_count d) after → CountsEvents w u new before after
events_counted w new u d before after does raised = λ told other.
    let same : length told ≡ length d.events.items = ap length (told_once w new u told (events w new d.events.items) other does) ∙ length-map d.events.items (event w new) in
    grind (arith, raised.1, same)

-- what is done to the world that a state shows is done to that world
pub done_moved : {H : Type 0} (steps : H → Event → H → Type 0) (s t : H) (v w new : World) (command : CommandData) (reply : ReplyData) → v ≡ w
    → (told : List Event) × Does v command new told reply × Told steps s told t → (told : List Event) × Does w command new told reply × Told steps s told t
done_moved steps s t v w new command reply is h = subst (λ x. (told : List Event) × Does x command new told reply × Told steps s told t) is h
