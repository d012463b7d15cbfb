-- Each command of a state is done, and each list of commands has a run.
use Rattle.std.proofs.Common.{◌≢◌, List, [], ◌∷◌, ◌++◌, inl, inr, refl, Bool}
use Rattle.std.specs.Prelude.{Contains}
use Rattle.model.specs.World.{World}
use Rattle.model.specs.Update.{UpdateData, IsAccepted, index_for}
use Rattle.model.specs.State.{IsState, with_host}
use Rattle.model.specs.Events.{Event}
use Rattle.model.specs.Differences.{events, told_root}
use Rattle.model.specs.Queries.{answer_of}
use Rattle.model.specs.Run.{CommandData, ToUpdate, ToHostFocus, ToQuery, ReplyData, Accepted, Refused, OutOfMemory, Answered, Does, Runs}
use Rattle.model.proofs.Update.UpdateLeavesState.{update_leaves_state}
use Rattle.model.proofs.Update.AcceptedOrFault.{accepted_or_fault}
use Rattle.model.proofs.Differences.DifferencesExist.{differences_exist, of_focus_exists}
use Rattle.model.proofs.Focus.FocusIsThere.{focus_exists}
use Rattle.model.proofs.State.HostFocus.{host_leaves_state}
use Rattle.model.proofs.Members.{contains_cases, contains_none}
use Rattle.model.proofs.Run.Runs.{after_command}

abbrev IsDone : World → CommandData → Type 0
IsDone w c = (v : World) × (told : List Event) × (reply : ReplyData) × Does w c v told reply × (reply ≢ OutOfMemory)

update_accepted : (w : World) (u : UpdateData) → IsState w → (v : World) → IsAccepted w u v → IsDone w (ToUpdate u)
update_accepted w u s v a =
    let before = focus_exists s in
    let after = focus_exists (update_leaves_state w u v s a) in
    let ds = differences_exist w v (told_root (index_for w u.name) u.info) before.0 after.0 before.1 after.1 in
    (v, events w v ds.0, Accepted, (a, ds.0, ds.1, refl), λ e. cc)

host_told : (w : World) (focused : Bool) → IsState w → IsDone w (ToHostFocus focused)
host_told w focused s =
    let before = focus_exists s in
    let after = focus_exists (host_leaves_state w focused s) in
    let ds = of_focus_exists w (with_host w focused) [] before.0 after.0 before.1 after.1 in
    (with_host w focused, events w (with_host w focused) ds.0, Accepted, (refl, ds.0, ds.1, refl), λ e. cc)

pub command_done : (w : World) (c : CommandData) → IsState w → IsDone w c
command_done w (ToUpdate u) s = elim (accepted_or_fault w u) [
  | inl done ↦ update_accepted w u s done.0 done.1
  | inr fault ↦ (w, [], Refused fault.0, (fault.1, refl, refl), λ e. cc)
]
command_done w (ToHostFocus focused) s = host_told w focused s
command_done w (ToQuery q) s = (w, [], Answered (answer_of w q), (refl, refl, refl), λ e. cc)

pub run_exists : (w : World) (cs : List CommandData) → IsState w → (v : World) × (told : List Event) × (replies : List ReplyData) × Runs w cs v told replies × ¬ (Contains replies OutOfMemory)
run_exists w [] s = (w, [], [], (refl, refl, refl), contains_none OutOfMemory)
run_exists w (c ∷ cs) s =
    let one = command_done w c s in
    let rest = run_exists one.0 cs (after_command w one.0 c one.1 one.2 one.3 s) in (
      rest.0,
      one.1 ++ rest.1,
      one.2 ∷ rest.2,
      (one.0, one.1, rest.1, one.2, rest.2, one.3, rest.3, refl, refl),
      λ h. elim (contains_cases one.2 OutOfMemory rest.2 h) [ inl e ↦ one.4 e | inr g ↦ rest.4 g ],
    )
