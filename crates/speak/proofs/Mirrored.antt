-- The mirror beside a speaker follows each step.
use Rattle.std.proofs.Common.{◌≡◌, List, [], ◌∷◌, Option, Some, None, ap, subst, sym}
use Rattle.std.specs.Prelude.{IfSome, IsSomeAnd, Result, Ok, Err}
use Rattle.std.specs.declared.alloc.AllocError.{AllocError}
use Rattle.model.specs.Events.{Event, Told}
use Rattle.model.specs.Mirror.{Records, AreRecordsOf, MirrorsWhileKept}
use Rattle.model.specs.World.{World}
use Rattle.model.proofs.Mirror.KeptRecords.{kept_records_follow_run}
use Rattle.model.proofs.Run.Runs.{runs_one}
use Rattle.session.specs.declared.commands.Command.{Command}
use Rattle.session.specs.declared.commands.Reply.{Reply}
use Rattle.session.specs.Replied.{command_said, reply_said, IsStep}
use Rattle.speaking.specs.declared.speaker.Speaker.{Speaker}
use Rattle.speak.proofs.Rightly.{HearBoth}

-- what the second of two is told
second_told : (s t : Speaker × Option Records) (es : List Event) → Told HearBoth s es t → Told MirrorsWhileKept s.1 es t.1
second_told s t [] h = ap (λ x. x.1) h
second_told s t (e ∷ es) h = (h.0.1, (h.1.0.1, second_told h.0 t es h.1.1))

kept_as_it_was : (w v : World) (r : Records) (o : Option Records) (told : List Event) → v ≡ w → told ≡ [] → AreRecordsOf w r → Told MirrorsWhileKept (Some r) told o → IfSome o (AreRecordsOf v)
kept_as_it_was w v r o told same none are h =
    let kept : Some r ≡ o = subst (λ es. Told MirrorsWhileKept (Some r) es o) none h in
    subst (λ m. IfSome m (AreRecordsOf v)) kept (subst (λ x. AreRecordsOf x r) (sym same) are)

follows : (w v : World) (c : Command) (told : List Event) (result : Result Reply AllocError) (m n : Option Records) → IsStep w c v told result → Told MirrorsWhileKept m told n → IsSomeAnd m (AreRecordsOf w) → IfSome n (AreRecordsOf v)
follows w v c told result None n step heard held = absurd held
follows w v c told (Ok reply) (Some r) n step heard held = kept_records_follow_run w v (command_said c ∷ []) told (reply_said reply ∷ []) r n (runs_one w v (command_said c) told (reply_said reply) step) held heard
follows w v c told (Err wanting) (Some r) n step heard held = kept_as_it_was w v r n told step.0 step.1 held heard

-- a mirror that had the records of the session's tree has them after a step, while it keeps anything
pub mirror_follows : (w v : World) (c : Command) (s t : Speaker × Option Records) (told : List Event) (reply : Result Reply AllocError) → IsStep w c v told reply → Told HearBoth s told t → IsSomeAnd s.1 (AreRecordsOf w) → IfSome t.1 (AreRecordsOf v)
mirror_follows w v c s t told reply step heard held = follows w v c told reply s.1 t.1 step (second_told s t told heard) held
