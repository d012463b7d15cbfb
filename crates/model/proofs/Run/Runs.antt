-- Runs in parts, and what a run leaves fixed.
use Rattle.std.proofs.Common.{◌<◌, ◌+◌, get_or, ◌≡◌, ℕ, take, drop, zero, List, [], ◌∷◌, ◌++◌, length, refl, sym, ap, subst, ◌∙◌, append_assoc, suc, Bool, None}
use Rattle.std.proofs.lemmas.List.{append-nil, take_more}
use Rattle.model.specs.World.{World}
use Rattle.model.specs.Update.{index_for}
use Rattle.model.specs.Events.{Event, Told}
use Rattle.model.specs.Differences.{PlanEvent, events, told_root, AreOfFocus}
use Rattle.model.specs.Mirror.{Records, Mirrors, AreRecordsOf}
use Rattle.model.specs.State.{IsState, with_host}
use Rattle.model.specs.Run.{CommandData, ToUpdate, ToHostFocus, ToQuery, ReplyData, Accepted, Refused, OutOfMemory, Answered, Does, Runs}
use Rattle.model.proofs.Update.UpdateLeavesState.{update_leaves_state}
use Rattle.model.proofs.State.HostFocus.{host_leaves_state}
use Rattle.model.proofs.Differences.Tellings.{told_split}
use Rattle.model.proofs.Differences.HostChanges.{differences_of_host}
use Rattle.model.proofs.Mirror.RecordsFollow.{records_follow}

-- a run of one command
pub runs_one : (w v : World) (c : CommandData) (told : List Event) (reply : ReplyData) → Does w c v told reply → Runs w (c ∷ []) v told (reply ∷ [])
runs_one w v c told reply h = (v, told, [], reply, [], h, (refl, refl, refl), sym (append-nil told), refl)

-- a run of some commands and then a run of others
pub runs_append : (w m v : World) (cs ds : List CommandData) (first rest : List Event) (replies others : List ReplyData) → Runs w cs m first replies → Runs m ds v rest others → Runs w (cs ++ ds) v (first ++ rest) (replies ++ others)
runs_append w m v [] ds first rest replies others h g =
    subst (λ x. Runs x ds v (first ++ rest) (replies ++ others)) (sym h.0)
    (subst (λ es. Runs m ds v (es ++ rest) (replies ++ others)) (sym h.1) (subst (λ rs. Runs m ds v rest (rs ++ others)) (sym h.2) g))
runs_append w m v (c ∷ cs) ds first rest replies others h g =
    (h.0, h.1, h.2 ++ rest, h.3, h.4 ++ others, h.5, runs_append h.0 m v cs ds h.2 rest h.4 others h.6 g, ap (λ es. es ++ rest) h.7 ∙ append_assoc h.1 h.2 rest, ap (λ rs. rs ++ others) h.8)

-- a run of one command more
pub runs_more : (w m v : World) (cs : List CommandData) (c : CommandData) (first rest : List Event) (replies : List ReplyData) (reply : ReplyData) → Runs w cs m first replies → Does m c v rest reply → Runs w (cs ++ c ∷ []) v (first ++ rest) (replies ++ reply ∷ [])
runs_more w m v cs c first rest replies reply h g = runs_append w m v cs (c ∷ []) first rest replies (reply ∷ []) h (runs_one m v c rest reply g)

-- a loop over the commands that runs each
pub runs_next : (w m v : World) (cs : List CommandData) (i : ℕ) (c : CommandData) (first rest : List Event) (replies : List ReplyData) (reply : ReplyData) → i < length cs → c ≡ get_or cs i c → Runs w (take i cs) m first replies → Does m c v rest reply → Runs w (take (i + 1) cs) v (first ++ rest) (replies ++ reply ∷ [])
runs_next w m v cs i c first rest replies reply within is h g =
    subst (λ xs. Runs w xs v (first ++ rest) (replies ++ reply ∷ [])) (sym (take_more cs i c within ∙ ap (λ x. take i cs ++ x ∷ []) (sym is))) (runs_more w m v (take i cs) c first rest replies reply h g)

-- there is a reply to each command
pub replies_length : (w v : World) (cs : List CommandData) (told : List Event) (replies : List ReplyData) → Runs w cs v told replies → length replies ≡ length cs
replies_length w v [] told replies h = ap length h.2
replies_length w v (c ∷ cs) told replies h = ap length h.8 ∙ ap suc (replies_length h.0 v cs h.2 h.4 h.6)

-- ---- a mirror over a run

follow_host : (w : World) (focused : Bool) (ds : List PlanEvent) (r s : Records) → AreOfFocus w (with_host w focused) [] ds → AreRecordsOf w r → Told Mirrors r (events w (with_host w focused) ds) s → AreRecordsOf (with_host w focused) s
follow_host w focused ds r s h are t = records_follow w (with_host w focused) None ds (differences_of_host w focused ds h) r s are t

follow_command : (w v : World) (c : CommandData) (told : List Event) (reply : ReplyData) (r s : Records) → Does w c v told reply → AreRecordsOf w r → Told Mirrors r told s → AreRecordsOf v s
follow_command w v (ToUpdate u) told Accepted r s h are t = records_follow w v (told_root (index_for w u.name) u.info) h.1 h.2 r s are (subst (λ es. Told Mirrors r es s) h.3 t)
follow_command w v (ToUpdate u) told (Refused fault) r s h are t = subst (λ x. AreRecordsOf x s) (sym h.1) (subst (AreRecordsOf w) (subst (λ es. Told Mirrors r es s) h.2 t) are)
follow_command w v (ToUpdate u) told OutOfMemory r s h are t = subst (λ x. AreRecordsOf x s) (sym h.0) (subst (AreRecordsOf w) (subst (λ es. Told Mirrors r es s) h.1 t) are)
follow_command w v (ToUpdate u) told (Answered a) r s h are t = absurd h
follow_command w v (ToHostFocus focused) told Accepted r s h are t =
    subst (λ x. AreRecordsOf x s) (sym h.0)
    (follow_host w focused h.1 r s (subst (λ x. AreOfFocus w x [] h.1) h.0 h.2) are (subst (λ x. Told Mirrors r (events w x h.1) s) h.0 (subst (λ es. Told Mirrors r es s) h.3 t)))
follow_command w v (ToHostFocus focused) told (Refused fault) r s h are t = absurd h
follow_command w v (ToHostFocus focused) told OutOfMemory r s h are t = absurd h
follow_command w v (ToHostFocus focused) told (Answered a) r s h are t = absurd h
follow_command w v (ToQuery q) told reply r s h are t = subst (λ x. AreRecordsOf x s) (sym h.0) (subst (AreRecordsOf w) (subst (λ es. Told Mirrors r es s) h.1 t) are)

pub records_follow_run : (w v : World) (cs : List CommandData) (told : List Event) (replies : List ReplyData) (r s : Records) → Runs w cs v told replies → AreRecordsOf w r → Told Mirrors r told s → AreRecordsOf v s
records_follow_run w v [] told replies r s h are t = subst (λ x. AreRecordsOf x s) h.0 (subst (AreRecordsOf w) (subst (λ es. Told Mirrors r es s) h.1 t) are)
records_follow_run w v (c ∷ cs) told replies r s h are t =
    let parts = told_split Mirrors r s h.1 h.2 (subst (λ es. Told Mirrors r es s) h.7 t) in
    records_follow_run h.0 v cs h.2 h.4 parts.0 s h.6 (follow_command w h.0 c h.1 h.3 r parts.0 h.5 are parts.1.0) parts.1.1

-- ---- the beginning of a run

-- a run of some commands is a run of the first n, and then of the others
pub runs_split : (w v : World) (n : ℕ) (cs : List CommandData) (told : List Event) (replies : List ReplyData) → Runs w cs v told replies → (m : World) × (first rest : List Event) × Runs w (take n cs) m first (take n replies) × Runs m (drop n cs) v rest (drop n replies) × (told ≡ first ++ rest)
runs_split w v zero cs told replies h = (w, [], told, (refl, refl, refl), h, refl)
runs_split w v (suc n) [] told replies h = (w, [], told, (refl, refl, ap (take (suc n)) h.2), subst (λ rs. Runs w [] v told (drop (suc n) rs)) (sym h.2) (h.0, h.1, refl), refl)
runs_split w v (suc n) (c ∷ cs) told replies h =
    let others = runs_split h.0 v n cs h.2 h.4 h.6 in (
      others.0,
      h.1 ++ others.1,
      others.2,
      (h.0, h.1, others.1, h.3, take n h.4, h.5, others.3, refl, ap (take (suc n)) h.8),
      subst (λ rs. Runs others.0 (drop n cs) v others.2 (drop (suc n) rs)) (sym h.8) others.4,
      h.7 ∙ ap (λ es. h.1 ++ es) others.5 ∙ sym (append_assoc h.1 others.1 others.2),
    )

-- ---- states

pub after_command : (w v : World) (c : CommandData) (told : List Event) (reply : ReplyData) → Does w c v told reply → IsState w → IsState v
after_command w v (ToUpdate u) told Accepted h s = update_leaves_state w u v s h.0
after_command w v (ToUpdate u) told (Refused fault) h s = subst IsState (sym h.1) s
after_command w v (ToUpdate u) told OutOfMemory h s = subst IsState (sym h.0) s
after_command w v (ToUpdate u) told (Answered a) h s = absurd h
after_command w v (ToHostFocus focused) told Accepted h s = subst IsState (sym h.0) (host_leaves_state w focused s)
after_command w v (ToHostFocus focused) told (Refused fault) h s = absurd h
after_command w v (ToHostFocus focused) told OutOfMemory h s = absurd h
after_command w v (ToHostFocus focused) told (Answered a) h s = absurd h
after_command w v (ToQuery q) told reply h s = subst IsState (sym h.0) s

pub run_leaves_state : (w v : World) (cs : List CommandData) (told : List Event) (replies : List ReplyData) → Runs w cs v told replies → IsState w → IsState v
run_leaves_state w v [] told replies h s = subst IsState h.0 s
run_leaves_state w v (c ∷ cs) told replies h s = run_leaves_state h.0 v cs h.2 h.4 h.6 (after_command w h.0 c h.1 h.3 h.5 s)
