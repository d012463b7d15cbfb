-- A run, command by command.
use Rattle.std.proofs.Common.{◌≡◌, ℕ, ◌≤◌, ◌+◌, List, [], ◌∷◌, ◌++◌, length, take, map, arith, inr, refl, sym, ap, ◌∙◌, subst, append_assoc}
use Rattle.std.proofs.lemmas.List.{map-append, length-map, length-append}
use Rattle.std.proofs.Math.Seq.{take-append_seam}
use Rattle.model.specs.World.{World}
use Rattle.model.specs.Events.{Event, Told}
use Rattle.model.specs.State.{IsState}
use Rattle.model.specs.Update.{UpdateData}
use Rattle.model.specs.Run.{ToUpdate, Does, Runs, MayStop, RunsUpTo}
use Rattle.model.proofs.Alike.Runs.{runs_keep_secret}
use Rattle.model.proofs.Run.Runs.{runs_one, runs_more, replies_length, after_command}
use Rattle.tree_changes.specs.declared.error.UpdateError.{UpdateError}
use Rattle.trees.specs.Replies.{reply_of}
use Rattle.std.specs.Prelude.{Result, Ok, Err, Option, Some, None, slice_get, IfSome, IsSomeAnd, if◌then◌else◌}
use Rattle.std.specs.declared.alloc.AllocError.{AllocError}
use Rattle.std.specs.Result.{IsOk, is_ok}
use Rattle.std.specs.Global.{Vec}
use Rattle.model.specs.Mirror.{Records, AreRecordsOf, MirrorsWhileKept}
use Rattle.model.proofs.Mirror.KeptRecords.{kept_records_follow_run}
use Rattle.session.specs.declared.commands.RunStopped.{RunStopped}
use Rattle.session.specs.declared.commands.Command.{Command}
use Rattle.session.specs.declared.commands.Command.TheVariants as command
use Rattle.session.specs.declared.commands.Reply.{Reply}
use Rattle.session.specs.Replied.{command_said, reply_said, TakesMemory, IsStep, IsAlikeStep, RunsAs}

-- one command more
pub run_more : (w m v : World) (cs : List Command) (c : Command) (first rest : List Event) (rs : List Reply) (r : Reply) → Runs w (map command_said cs) m first (map reply_said rs) → Does m (command_said c) v rest (reply_said r) → Runs w (map command_said (cs ++ c ∷ [])) v (first ++ rest) (map reply_said (rs ++ r ∷ []))
run_more w m v cs c first rest rs r h d =
    subst (λ xs. Runs w xs v (first ++ rest) (map reply_said (rs ++ r ∷ []))) (sym (map-append command_said cs (c ∷ [])))
    (subst (λ ys. Runs w (map command_said cs ++ command_said c ∷ []) v (first ++ rest) ys) (sym (map-append reply_said rs (r ∷ [])))
    (runs_more w m v (map command_said cs) (command_said c) first rest (map reply_said rs) (reply_said r) h d))

-- there are as many replies as commands
pub as_many : (w v : World) (cs : List Command) (told : List Event) (rs : List Reply) → Runs w (map command_said cs) v told (map reply_said rs) → length rs ≡ length cs
as_many w v cs told rs h = sym (length-map rs reply_said) ∙ replies_length w v (map command_said cs) told (map reply_said rs) h ∙ length-map cs command_said

first_said : (cs others : List Command) → take (length cs) (map command_said (cs ++ others)) ≡ map command_said cs
first_said cs others =
    ap (take (length cs)) (map-append command_said cs others)
    ∙ ap (λ n. take n (map command_said cs ++ map command_said others)) (sym (length-map cs command_said))
    ∙ take-append_seam (map command_said cs) (map command_said others)

at_seam : (cs more : List Command) (c : Command) → slice_get (map command_said (cs ++ c ∷ more)) (length cs) ≡ Some (command_said c)
at_seam [] more c = refl
at_seam (d ∷ cs) more c = at_seam cs more c

-- it may stop at a command whose reply takes memory
may_stop : (cs more : List Command) (c : Command) → TakesMemory c → MayStop (length cs) (map command_said (cs ++ c ∷ more))
may_stop cs more (command.Update u) h = absurd h
may_stop cs more (command.HostFocus focused) h = absurd h
may_stop cs more (command.Query q) h = inr (q, at_seam cs more (command.Query q), h)

-- and then it stops after those before it
pub run_stops : (w v : World) (done : ℕ) (cs more all : List Command) (c : Command) (told : List Event) (rs : List Reply) →
    Runs w (map command_said cs) v told (map reply_said rs) → TakesMemory c → done ≡ length cs → all ≡ cs ++ c ∷ more → RunsUpTo done w (map command_said all) v told (map reply_said rs)
run_stops w v done cs more all c told rs h takes is e =
    subst (λ xs. RunsUpTo done w (map command_said xs) v told (map reply_said rs)) (sym e)
    (subst (λ n. RunsUpTo n w (map command_said (cs ++ c ∷ more)) v told (map reply_said rs)) (sym is)
    (may_stop cs more c takes, subst (λ xs. Runs w xs v told (map reply_said rs)) (sym (first_said cs (c ∷ more))) h))

-- a state stays one
pub after_update : (w v : World) (u : UpdateData) (told : List Event) (r : Result (Unit {0}) UpdateError) → Does w (ToUpdate u) v told (reply_of r) → IsState w → IsState v
after_update w v u told r = after_command w v (ToUpdate u) told (reply_of r)

-- where memory is wanting for a reply, what ran before stands
pub stops : {H : Type 0} (steps : H → Event → H → Type 0) (w m v : World) (s t u : H) (done : ℕ) (cs others more all : List Command) (c : Command) (told : List Event) (rs : List Reply) →
    Runs w (map command_said cs) m told (map reply_said rs) → Told steps s told t → ((last : List Event) × ((v ≡ m) × (last ≡ []) × TakesMemory c) × Told steps t last u) → done ≡ length rs →
    all ≡ cs ++ others → others ≡ c ∷ more →
    (x : List Event) × RunsUpTo done w (map command_said all) v x (map reply_said rs) × Told steps s x u
stops steps w m v s t u done cs others more all c told rs runs heard rest is e left =
    let kept : t ≡ u = subst (λ es. Told steps t es u) rest.1.1 rest.2 in
    (told, subst (λ z. RunsUpTo done w (map command_said all) z told (map reply_said rs)) (sym rest.1.0) (run_stops w m done cs more all c told rs runs rest.1.2 (is ∙ as_many w m cs told rs runs) (e ∙ ap (λ xs. cs ++ xs) left)), subst (Told steps s told) kept heard)

-- while a command is left, fewer than all have run
pub one_left : (all cs others more : List Command) (c : Command) → all ≡ cs ++ others → others ≡ c ∷ more → length cs + 1 ≤ length all
one_left all cs others more c h left =
    let a = ap length h in let b = length-append cs others in let d : length others ≡ length more + 1 = (let e = ap length left in omega (arith, e)) in omega (arith, a, b, d)

-- and the others are the rest
pub others_left : (all cs others more : List Command) (c : Command) → all ≡ cs ++ others → others ≡ c ∷ more → all ≡ (cs ++ c ∷ []) ++ more
others_left all cs others more c h left = h ∙ ap (λ xs. cs ++ xs) left ∙ sym (append_assoc cs (c ∷ []) more)

-- what was appended
pub appended : {X U E : Type 0} (r : Result U E) (old new : List X) (x : X) → IsOk r → new ≡ (if is_ok r then old ++ x ∷ [] else old) → new ≡ old ++ x ∷ []
appended r old new x is h = h ∙ ap (λ b. if b then old ++ x ∷ [] else old) is

-- a command alone is a run of one
pub step_keeps_secret : (w v : World) (c : Command) (told : List Event) (result : Result Reply AllocError) → IsStep w c v told result → IsAlikeStep w c told result
step_keeps_secret w v c told (Ok reply) h = runs_keep_secret w v (command_said c ∷ []) told (reply_said reply ∷ []) (runs_one w v (command_said c) told (reply_said reply) h)
step_keeps_secret w v c told (Err wanting) h = tt

-- a mirror follows a run, also one that stopped
pub mirrored : (old new : World) (commands : List Command) (result : Result (Vec Reply) RunStopped) (told : List Event) (m n : Option Records) →
    RunsAs old commands new told result → Told MirrorsWhileKept m told n → IsSomeAnd m (AreRecordsOf old) → IfSome n (AreRecordsOf new)
mirrored old new commands result told None n run heard held = absurd held
mirrored old new commands (Ok replies) told (Some r) n run heard held = kept_records_follow_run old new (map command_said commands) told (map reply_said replies.items) r n run held heard
mirrored old new commands (Err stopped) told (Some r) n run heard held = kept_records_follow_run old new (take stopped.done (map command_said commands)) told (map reply_said stopped.replies.items) r n run.1 held heard
