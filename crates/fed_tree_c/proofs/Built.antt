-- What an export answers of an update that is begun, from what the tree answers.
use Rattle.std.proofs.Common.{◌≡◌, ◌⊎◌, ℕ, Bool, Option, Some, None, Result, inr, subst}
use Rattle.schema.specs.UpdateData.{UpdateData}
use Rattle.fed_tree.specs.Begun.{Builds, Sends, SetsHostFocus, WantsMemory}
use Rattle.fed_tree.specs.Fed.{Fed}
use Rattle.fed_tree.specs.declared.feeding.FeedError.{FeedError}
use Rattle.fed_tree.specs.declared.updating.BuildError.{BuildError}
use Rattle.fed_tree_c.specs.Answers.{OUT_OF_PLACE}
use Rattle.fed_tree_c.specs.Stops.{status_of, stop_of}
use Rattle.fed_tree_c.specs.Updates.{BuildsHeld, SendsHeld, SetsHostFocusHeld, build_status}
use Rattle.fed_tree_c.specs.declared.records.AkStop.{AkStop}

-- a part of the begun update was taken, or not
pub built_held : (change : UpdateData → Result UpdateData BuildError) (handle new : Option Fed) (old fed : Fed)
    (result : Result Unit BuildError) (status : ℕ)
    → Some old ≡ handle → new ≡ Some fed → WantsMemory old result fed ⊎ Builds change old result fed
    → status ≡ build_status result → BuildsHeld change handle status new
built_held change handle new old fed result status is e built s =
    subst (λ (o : Option Fed). BuildsHeld change o status new) is (fed, result, built, s, e)

-- one that takes no memory
pub said_held : (change : UpdateData → Result UpdateData BuildError) (handle new : Option Fed) (old fed : Fed)
    (result : Result Unit BuildError) (status : ℕ)
    → Some old ≡ handle → new ≡ Some fed → Builds change old result fed → status ≡ build_status result
    → BuildsHeld change handle status new
said_held change handle new old fed result status is e built s = built_held change handle new old fed result status is e (inr built) s

-- it was sent
pub sent_held : (handle new : Option Fed) (old fed : Fed) (result : Result Unit FeedError) (status : ℕ) (stop stopped : AkStop)
    → Some old ≡ handle → new ≡ Some fed → Sends old (Some result) fed → status ≡ status_of result
    → stopped ≡ stop_of result → SendsHeld handle status new stop stopped
sent_held handle new old fed result status stop stopped is e sends s t =
    subst (λ (o : Option Fed). SendsHeld o status new stop stopped) is (fed, Some result, e, sends, (s, t))

-- or none was begun
pub unsent_held : (handle new : Option Fed) (old fed : Fed) (status : ℕ) (stop stopped : AkStop)
    → Some old ≡ handle → new ≡ Some fed → Sends old None fed → status ≡ OUT_OF_PLACE → stopped ≡ stop
    → SendsHeld handle status new stop stopped
unsent_held handle new old fed status stop stopped is e sends s t =
    subst (λ (o : Option Fed). SendsHeld o status new stop stopped) is (fed, None, e, sends, (s, t))

-- the host's focus was set
pub focused_held : (handle new : Option Fed) (old fed : Fed) (focused : Bool) (result : Result Unit FeedError) (status : ℕ)
    → Some old ≡ handle → new ≡ Some fed → SetsHostFocus old focused result fed → status ≡ status_of result
    → SetsHostFocusHeld handle focused status new
focused_held handle new old fed focused result status is e sets s =
    subst (λ (o : Option Fed). SetsHostFocusHeld o focused status new) is (fed, result, e, sets, s)
