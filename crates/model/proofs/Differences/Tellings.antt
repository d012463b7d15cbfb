-- Handlers that are told of events one after another.
use Rattle.std.proofs.Common.{◌≡◌, List, [], ◌∷◌, ◌++◌, refl, sym, subst, ℕ, ◌<◌, ◌+◌, length, take, map, get_or}
use Rattle.std.proofs.lemmas.List.{map_more}
use Rattle.model.specs.Events.{Event, Told}

-- told of two lists in turn
pub told_append : {H : Type 0} (steps : H → Event → H → Type 0) (s m t : H) (ds es : List Event) → Told steps s ds m → Told steps m es t → Told steps s (ds ++ es) t
told_append steps s m t [] es h g = subst (λ x. Told steps x es t) (sym h) g
told_append steps s m t (d ∷ ds) es h g = (h.0, (h.1.0, told_append steps h.0 m t ds es h.1.1 g))

-- and back
pub told_split : {H : Type 0} (steps : H → Event → H → Type 0) (s t : H) (ds es : List Event) → Told steps s (ds ++ es) t → (m : H) × (Told steps s ds m × Told steps m es t)
told_split steps s t [] es h = (s, (refl, h))
told_split steps s t (d ∷ ds) es h =
    let rest = told_split steps h.0 t ds es h.1.1 in
    (rest.0, ((h.0, (h.1.0, rest.1.0)), rest.1.1))

-- told of one more
pub told_more : {H : Type 0} (steps : H → Event → H → Type 0) (s m t : H) (es : List Event) (e : Event) → Told steps s es m → steps m e t → Told steps s (es ++ e ∷ []) t
told_more steps s m t es e h step = told_append steps s m t es (e ∷ []) h (t, (step, refl))

-- a loop over a list of items that tells of each
pub told_next : {H X : Type 0} (steps : H → Event → H → Type 0) (f : X → Event) (xs : List X) (i : ℕ) (d : X) (s m t : H) (e : Event) → i < length xs → Told steps s (map f (take i xs)) m → steps m e t → e ≡ f (get_or xs i d) → Told steps s (map f (take (i + 1) xs)) t
told_next steps f xs i d s m t e h before step is =
    subst (λ es. Told steps s es t) (sym (map_more f xs i d h)) (told_more steps s m t (map f (take i xs)) (f (get_or xs i d)) before (subst (λ x. steps m x t) is step))
