-- A mirror that may find no memory, over a run.
use Rattle.std.proofs.Common.{◌≡◌, List, [], ◌∷◌, Option, Some, None, refl, ap, subst, ◌∙◌}
use Rattle.std.specs.Prelude.{IfSome, IsSomeAnd}
use Rattle.model.specs.World.{World}
use Rattle.model.specs.Events.{Event, Told}
use Rattle.model.specs.Mirror.{Records, Mirrors, MirrorsWhileKept, AreRecordsOf}
use Rattle.model.specs.Run.{CommandData, ReplyData, Runs}
use Rattle.model.proofs.Run.Runs.{records_follow_run}
use Rattle.model.proofs.Decisions.{same_inside}

some_and : {A : Type 0} (o : Option A) (P : A → Type 0) → IsSomeAnd o P → (x : A) × (o ≡ Some x) × P x
some_and None P h = absurd h
some_and (Some x) P h = (x, refl, h)

-- A handler that keeps its records to the end had them at the start, and they followed each event; view is what it keeps.
pub kept_throughout : {H : Type 0} (view : H → Option Records) (s t : H) (es : List Event) → Told (λ a e b. MirrorsWhileKept (view a) e (view b)) s es t → (after : Records) → view t ≡ Some after → (before : Records) × (view s ≡ Some before) × Told Mirrors before es after
kept_throughout view s t [] h after e = (after, ap view h ∙ e, refl)
kept_throughout view s t (x ∷ es) h after e =
    let rest = kept_throughout view h.0 t es h.1.1 after e in
    let step : IsSomeAnd (view s) (λ r. Mirrors r x rest.0) = rw rest.1 at h.1.0 in
    let first = some_and (view s) (λ r. Mirrors r x rest.0) step in
    (first.0, first.1, (rest.0, (first.2, rest.2)))

pub kept_records_follow_run : (w v : World) (cs : List CommandData) (told : List Event) (replies : List ReplyData) (r : Records) (o : Option Records) → Runs w cs v told replies → AreRecordsOf w r → Told MirrorsWhileKept (Some r) told o → IfSome o (AreRecordsOf v)
kept_records_follow_run w v cs told replies r None h are t = tt
kept_records_follow_run w v cs told replies r (Some s) h are t =
    let kept = kept_throughout (λ (o : Option Records). o) (Some r) (Some s) told t s refl in
    let same : r ≡ kept.0 = same_inside r kept.0 kept.1 in
    records_follow_run w v cs told replies kept.0 s h (subst (AreRecordsOf w) same are) kept.2
