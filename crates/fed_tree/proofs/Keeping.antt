-- The records of events that a handler was told.
use Rattle.std.proofs.Common.{List, [], ◌∷◌, ◌++◌, Option, Some, None, sym, ap, ◌∙◌, subst, append_assoc}
use Rattle.std.proofs.lemmas.List.{append-nil, map-append}
use Rattle.model.specs.Events.{Told}
use Rattle.model.specs.Events.{Event as ModelEvent}
use Rattle.fed_tree.specs.Events.{record_of, Keeps}
use Rattle.fed_tree.specs.Feeding.{AreKept}
use Rattle.fed_tree.specs.declared.events.Event.{Event}

-- one more
keeps_one : (earlier : List ModelEvent) (e : ModelEvent) (before after : Option (List Event)) → AreKept earlier before → Keeps before e after → AreKept (earlier ++ e ∷ []) after
keeps_one earlier e before None kept keeps = tt
keeps_one earlier e None (Some now) kept keeps = absurd keeps
keeps_one earlier e (Some held) (Some now) kept keeps = keeps ∙ ap (λ (xs : List Event). xs ++ record_of e ∷ []) kept ∙ sym (map-append record_of earlier (e ∷ []))

-- and all
pub keeps_all : (earlier told : List ModelEvent) (before after : Option (List Event)) → AreKept earlier before → Told Keeps before told after → AreKept (earlier ++ told) after
keeps_all earlier [] before after kept heard = subst (λ (xs : List ModelEvent). AreKept xs after) (sym (append-nil earlier)) (subst (AreKept earlier) heard kept)
keeps_all earlier (e ∷ es) before after kept heard =
    subst (λ (xs : List ModelEvent). AreKept xs after) (append_assoc earlier (e ∷ []) es)
    (keeps_all (earlier ++ e ∷ []) es heard.0 after (keeps_one earlier e before heard.0 kept heard.1.0) heard.1.1)
