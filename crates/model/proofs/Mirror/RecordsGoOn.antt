-- A state has records, and each difference of two worlds can be noted.
use Rattle.std.proofs.Common.{◌≡◌, List, [], ◌∷◌, Option, None, refl, sym, subst, Bool, false}
use Rattle.std.specs.Prelude.{Contains, IsSome}
use Rattle.std.specs.FinMap.{get, insert, empty, get-empty}
use Rattle.schema.specs.NodeData.{NodeData}
use Rattle.model.specs.declared.FullNodeId.{FullNodeId}
use Rattle.model.specs.FullIds.{full_cmp}
use Rattle.model.specs.World.{World, IsNode, data_of}
use Rattle.model.specs.Forest.{place_of}
use Rattle.model.specs.Events.{Event, Told, seen_in}
use Rattle.model.specs.Differences.{PlanEvent, Added, Updated, FocusMoved, Removed, event, events, AreDifferences, AreOfFocus, told_root}
use Rattle.model.specs.Reasons.{Reason}
use Rattle.model.specs.Mirror.{Mirrored, Records, IsRecordOf, Notes, Mirrors, AreRecordsOf}
use Rattle.model.specs.State.{IsState, empty_world, with_host}
use Rattle.model.specs.Update.{index_for}
use Rattle.model.specs.Run.{CommandData, ToUpdate, ToHostFocus, ToQuery, ReplyData, Accepted, Refused, OutOfMemory, Answered, Does, Runs}
use Rattle.model.proofs.Differences.DifferencesExist.{differences_exist}
use Rattle.model.proofs.Focus.FocusIsThere.{focus_exists}
use Rattle.model.proofs.Differences.HostChanges.{differences_of_host}
use Rattle.model.proofs.Members.{contains_first, contains_later}
use Rattle.model.proofs.Mirror.RecordsFollow.{records_follow}
use Rattle.model.proofs.Differences.Reasons.{has_reason}
use Rattle.model.proofs.State.StatePlaces.{value_of}
use Rattle.model.proofs.Differences.Tellings.{told_append}

-- from these records there are some that follow each event
abbrev GoesOn : Records → List Event → Type 0
GoesOn r es = (s : Records) × Told Mirrors r es s

module _ (old new : World) where
  noted : (r : Records) (id : FullNodeId) → IsNode new id → (s : Records) × Notes r (seen_in new id) s
  noted r id there =
      let d = value_of (data_of new id) there in
      let m : Mirrored = record { place = place_of new id; node = d.0 } in
      (record r { nodes = insert r.nodes id m }, (m, (refl, d.1), refl))

  goes_on_once : (root : Option FullNodeId) (d : PlanEvent) (r : Records) → Reason old new root d → (s : Records) × Mirrors r (event old new d) s
  goes_on_once root (Added id) r why = noted r id why.0
  goes_on_once root (Updated id) r why = noted r id why.0.1
  goes_on_once root (FocusMoved before after) r why = (_, refl)
  goes_on_once root (Removed id) r why = (_, refl)

  goes_on : (root : Option FullNodeId) (ds : List PlanEvent) (r : Records) → ((d : PlanEvent) → Contains ds d → Reason old new root d) → GoesOn r (events old new ds)
  goes_on root [] r why = (r, refl)
  goes_on root (d ∷ ds) r why =
      let one = goes_on_once root d r (why d (contains_first d ds)) in
      let rest = goes_on root ds one.0 (λ e c. why e (contains_later d e ds c)) in
      (rest.0, (one.0, (one.1, rest.1)))

-- each difference can be noted
pub records_go_on : (old new : World) (root : Option FullNodeId) (ds : List PlanEvent) (r : Records) → AreDifferences old new root ds → GoesOn r (events old new ds)
records_go_on old new root ds r h = goes_on old new root ds r (has_reason old new root ds h)

-- a state has records: those that come of the empty ones when all its nodes are added
pub records_exist : (w : World) → IsState w → (r : Records) × AreRecordsOf w r
records_exist w s =
    let focus = focus_exists s in
    let none : Records = record { nodes = empty; focus = None } in
    let are : AreRecordsOf (empty_world false) none = record { nodes = λ id. no_record id; focus = refl } in
    let ds = differences_exist (empty_world false) w None None focus.0 refl focus.1 in
    let all = records_go_on (empty_world false) w None ds.0 none ds.1 in
    (all.0, records_follow (empty_world false) w None ds.0 ds.1 none all.0 are all.1)
  where
    no_node : (o : Option NodeData) → o ≡ None → ¬ (IsSome o)
    no_node o e h = cc

    no_record : (id : FullNodeId) → IsRecordOf (empty_world false) id (get (empty {X = Mirrored} {R = full_cmp}) id)
    no_record id = subst (IsRecordOf (empty_world false) id) (sym (get-empty full_cmp id)) (no_node (data_of (empty_world false) id) (get-empty full_cmp id))

-- ---- over a run

host_goes_on : (w : World) (focused : Bool) (ds : List PlanEvent) (r : Records) → AreOfFocus w (with_host w focused) [] ds → GoesOn r (events w (with_host w focused) ds)
host_goes_on w focused ds r h = records_go_on w (with_host w focused) None ds r (differences_of_host w focused ds h)

command_goes_on : (w v : World) (c : CommandData) (told : List Event) (reply : ReplyData) (r : Records) → Does w c v told reply → GoesOn r told
command_goes_on w v (ToUpdate u) told Accepted r h = subst (GoesOn r) (sym h.3) (records_go_on w v (told_root (index_for w u.name) u.info) h.1 r h.2)
command_goes_on w v (ToUpdate u) told (Refused fault) r h = (r, subst (λ es. Told Mirrors r es r) (sym h.2) refl)
command_goes_on w v (ToUpdate u) told OutOfMemory r h = (r, subst (λ es. Told Mirrors r es r) (sym h.1) refl)
command_goes_on w v (ToUpdate u) told (Answered a) r h = absurd h
command_goes_on w v (ToHostFocus focused) told Accepted r h =
    subst (GoesOn r) (sym h.3) (subst (λ x. GoesOn r (events w x h.1)) (sym h.0) (host_goes_on w focused h.1 r (subst (λ x. AreOfFocus w x [] h.1) h.0 h.2)))
command_goes_on w v (ToHostFocus focused) told (Refused fault) r h = absurd h
command_goes_on w v (ToHostFocus focused) told OutOfMemory r h = absurd h
command_goes_on w v (ToHostFocus focused) told (Answered a) r h = absurd h
command_goes_on w v (ToQuery q) told reply r h = (r, subst (λ es. Told Mirrors r es r) (sym h.1) refl)

pub records_go_on_over_run : (w v : World) (cs : List CommandData) (told : List Event) (replies : List ReplyData) (r : Records) → Runs w cs v told replies → GoesOn r told
records_go_on_over_run w v [] told replies r h = (r, subst (λ es. Told Mirrors r es r) (sym h.1) refl)
records_go_on_over_run w v (c ∷ cs) told replies r h =
    let one = command_goes_on w h.0 c h.1 h.3 r h.5 in
    let rest = records_go_on_over_run h.0 v cs h.2 h.4 one.0 h.6 in
    (rest.0, subst (λ es. Told Mirrors r es rest.0) (sym h.7) (told_append Mirrors r one.0 rest.0 h.1 h.2 one.1 rest.1))
