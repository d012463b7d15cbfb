-- What a printer has printed of events.
use Rattle.std.proofs.Common.{◌≡◌, ℕ, List, [], ◌∷◌, Option, Some, None, refl, sym, ap, ◌∙◌, subst}
use Rattle.std.specs.Prelude.{IfNone, flat_map}
use Rattle.std.specs.Io.KnownBytes.{Appends}
use Rattle.std.proofs.KnownBytes.{Appends-trans, Appends-nil}
use Rattle.model.specs.Events.{Event, Told}
use Rattle.atree_script.specs.Printed.{event_line}

-- of one with no fault
pub without : {F A : Type 0} (fault : Option F) → A → IfNone fault ((fault ≡ None) × A)
without None held = (refl, held)
without (Some fault) held = tt

-- where there is no fault there was none before
pub before_it : {F A B C : Type 0} (first second third : Option F) → (A → B → C) → IfNone second ((first ≡ None) × A) → IfNone third ((second ≡ None) × B) → IfNone third ((first ≡ None) × C)
before_it first second (Some fault) both a b = tt
before_it {A = A} first second None both a b =
    let earlier : (first ≡ None) × A = subst (λ o. IfNone o ((first ≡ None) × A)) b.0 a in
    (earlier.0, both earlier.1 b.1)

-- a printer's output by its name and what it has, and its fault
module _ {S N F : Type 0} (name : S → N) (has : S → Option (List ℕ)) (fault : S → Option F) where
  abbrev pub PrintsEvent : S → Event → S → Type 0
  PrintsEvent s e t = (name t ≡ name s) × IfNone (fault t) ((fault s ≡ None) × Appends (has s) (has t) (event_line e))

  pub same_output : (s t : S) (es : List Event) → Told PrintsEvent s es t → name t ≡ name s
  same_output s t [] h = ap name (sym h)
  same_output s t (e ∷ es) h = same_output h.0 t es h.1.1 ∙ h.1.0.0

  pub all_printed : (s t : S) (es : List Event) → Told PrintsEvent s es t → IfNone (fault t) ((fault s ≡ None) × Appends (has s) (has t) (flat_map event_line es))
  all_printed s t [] h = subst (λ r. IfNone (fault r) ((fault s ≡ None) × Appends (has s) (has r) [])) h (without (fault s) (Appends-nil (has s)))
  all_printed s t (e ∷ es) h =
      before_it (fault s) (fault h.0) (fault t) (Appends-trans (has s) (has h.0) (has t) (event_line e) (flat_map event_line es)) h.1.0.1 (all_printed h.0 t es h.1.1)
