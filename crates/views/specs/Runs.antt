-- What a run shows, and how runs follow one another.
use Rattle.std.specs.Prelude.{◌≡◌, List, [], ◌∷◌, ◌++◌, map, true}
use Rattle.model.specs.declared.FullNodeId.{FullNodeId}
use Rattle.model.specs.World.{World}
use Rattle.model.specs.Beside.{is_below}
use Rattle.model.specs.TextRuns.{SentRun, sent_run}
use Rattle.views.specs.declared.node.node_ref.NodeRef.{NodeRef}
use Rattle.views.specs.declared.runs.Run.{Run}
use Rattle.views.specs.declared.walks.spot.Member.{Member}
use Rattle.views.specs.declared.walks.spot.Spot.{Spot}
use Rattle.views.specs.Nodes.{world_at, id_at, data_at}
use Rattle.views.specs.RunPlaces.{runs_after, runs_before}
use Rattle.views.specs.Spots.{IsSpot}

-- a node as the run that it was sent as
abbrev pub sent_as : Member → SentRun
sent_as m = record { id = m.id; node = m.node.now }

abbrev pub run_of : NodeRef → SentRun
run_of n = record { id = id_at n; node = data_at n }

abbrev pub text_root_of : Run → NodeRef
text_root_of r = r.root

abbrev pub run_world : Run → World
run_world r = world_at r.root

abbrev pub root_id : Run → FullNodeId
root_id r = id_at r.root

abbrev pub run_id : Run → FullNodeId
run_id r = r.spot.member.id

abbrev pub sent_of : Run → SentRun
sent_of r = record { id = r.spot.member.id; node = r.spot.member.node.now }

-- the root's runs after this one, and before it
abbrev pub ids_after : Run → List FullNodeId
ids_after r = runs_after (run_world r) (root_id r) (run_id r)

abbrev pub ids_before : Run → List FullNodeId
ids_before r = runs_before (run_world r) (root_id r) (run_id r)

-- the runs after it, as they were sent
abbrev pub sents_after : Run → List SentRun
sents_after r = map (sent_run (run_world r)) (ids_after r)

-- it is the root's first run, or its last one
pub record IsFirstOf (n : NodeRef) (r : Run) : Type 0 where
  pub root : r.root ≡ n
  pub order : ids_before r ≡ []

pub record IsLastOf (n : NodeRef) (r : Run) : Type 0 where
  pub root : r.root ≡ n
  pub order : ids_after r ≡ []

-- the second of these runs is the next one after the first, or the next one before it
pub record IsAfter (r s : Run) : Type 0 where
  pub root : s.root ≡ r.root
  pub after : ids_after r ≡ run_id s ∷ ids_after s
  pub before : ids_before s ≡ ids_before r ++ run_id r ∷ []

-- there is no run after the first of these, and the second is the same
pub record StaysLast (r s : Run) : Type 0 where
  pub same : s ≡ r
  pub last : ids_after r ≡ []

pub record IsPreviousRun (r s : Run) : Type 0 where
  pub root : s.root ≡ r.root
  pub after : ids_after s ≡ run_id r ∷ ids_after r
  pub before : ids_before r ≡ ids_before s ++ run_id s ∷ []

-- the next run after it is at this place
pub record IsSpotAfter (r : Run) (s : Spot) : Type 0 where
  pub there : IsSpot (run_world r) s
  pub below : is_below (run_world r) (root_id r) s.member.id ≡ true
  pub after : ids_after r ≡ s.member.id ∷ runs_after (run_world r) (root_id r) s.member.id
