-- Commands that are carried out one after another, and how that ends.
use Rattle.std.proofs.Common.{◌≡◌, ◌≢◌, ℕ, ◌+◌, ◌≤◌, Bool, List, [], ◌∷◌, ◌++◌, length, Option, Some, None, IfSome, Result, Ok, Err, refl, sym, ap, ◌∙◌, subst, append_assoc, arith}
use Rattle.std.proofs.lemmas.Fn.{FoldsTo-push}
use Rattle.std.proofs.lemmas.List.{append-nil, length-append}
use Rattle.std.specs.Option.{option_map_or, unwrap_or}
use Rattle.std.specs.Prelude.{IsSome, MatchOption}
use Rattle.std.specs.Result.{IsErrAnd}
use Rattle.schema.specs.UpdateData.{UpdateData, update_data}
use Rattle.model.specs.World.{World}
use Rattle.model.specs.Events.{Told}
use Rattle.model.specs.Events.{Event as ModelEvent}
use Rattle.model.specs.Run.{Begins, Does, ToUpdate, ToHostFocus, Accepted, Refused, OutOfMemory}
use Rattle.model.specs.State.{empty_world}
use Rattle.model.specs.Update.{Fault, Stands}
use Rattle.tree_changes.specs.Refusals.{IsRefusal, fault_of}
use Rattle.tree_changes.specs.declared.error.UpdateError.{UpdateError}
use Rattle.tree_changes.specs.declared.error.UpdateError.TheVariants as error
use Rattle.trees.specs.Replies.{reply_of}
use Rattle.script_lines.specs.declared.reader.ScriptCommand.{ScriptCommand}
use Rattle.script_lines.specs.declared.reader.ScriptCommand.TheVariants as command
use Rattle.fed_tree.specs.Carried.{CarriesOut, Refocuses, Updates, with_tree, world_before}
use Rattle.fed_tree.specs.Events.{Keeps}
use Rattle.fed_tree.specs.Feeding.{GoesOn, CarryOut, AreKept, CarriesOutAll}
use Rattle.fed_tree.specs.declared.events.Event.{Event}
use Rattle.fed_tree.specs.declared.feeding.FeedError.TheVariants as feed
use Rattle.fed_tree.specs.declared.stage.Stage.{Stage}
use Rattle.fed_tree.proofs.Keeping.{keeps_all}

-- an update that is refused changes nothing, for the rule that the error names
pub refused : (w v : World) (u : UpdateData) (told : List ModelEvent) (why : UpdateError) → Does w (ToUpdate u) v told (reply_of (Err why)) → IsRefusal w u why × (v ≡ w) × (told ≡ [])
refused w v u told why does = by_fault (fault_of why) does
  where
    by_fault : (fault : Option Fault) → Does w (ToUpdate u) v told (option_map_or Refused fault OutOfMemory) → IfSome fault (Stands w u) × (v ≡ w) × (told ≡ [])
    by_fault None h = (tt, h.0, h.1)
    by_fault (Some f) h = (h.0, h.1, h.2)

-- an update of a tree that is there
pub updates_tree : (old new : Stage) (w v : World) (u : UpdateData) (told : List ModelEvent) (r : Result Unit UpdateError)
    → old.tree ≡ Some w → new ≡ with_tree old v → Does w (ToUpdate u) v told (reply_of r) → Updates old u r new told
updates_tree old new w v u told (Ok done) is e does =
    subst (λ (o : Option World). MatchOption o ((x : World) × Begins old.is_host_focused u x × (new ≡ with_tree old x) × (told ≡ [])) (λ x. (y : World) × Does x (ToUpdate u) y told Accepted × (new ≡ with_tree old y)))
    (sym is) (v, does, e)
updates_tree old new w v u told (Err why) is e does =
    let r = refused w v u told why does in
    (subst (λ (o : Option World). IsRefusal (unwrap_or o (empty_world old.is_host_focused)) u why) (sym is) r.0, e ∙ ap (with_tree old) r.1 ∙ ap (λ (o : Option World). record old { tree = o }) (sym is), r.2)

abbrev none : List ModelEvent
none = []

-- the first update
pub makes_tree : (old new : Stage) (w : World) (u : UpdateData) → old.tree ≡ None → Begins old.is_host_focused u w → new ≡ with_tree old w → Updates old u (Ok tt) new []
makes_tree old new w u is begun e =
    subst (λ (o : Option World). MatchOption o ((x : World) × Begins old.is_host_focused u x × (new ≡ with_tree old x) × (none ≡ [])) (λ x. (y : World) × Does x (ToUpdate u) y [] Accepted × (new ≡ with_tree old y)))
    (sym is) (w, begun, e, refl)

-- and one that is refused
pub refuses_first : (old : Stage) (u : UpdateData) (why : UpdateError) → old.tree ≡ None → IsRefusal (empty_world old.is_host_focused) u why → Updates old u (Err why) old []
refuses_first old u why is h = (subst (λ (o : Option World). IsRefusal (unwrap_or o (empty_world old.is_host_focused)) u why) (sym is) h, refl, refl)

-- as it is answered
pub refused_first : (old : Stage) (u : UpdateData) (r : Result Unit UpdateError) (why : UpdateError) → IsErrAnd r (λ e. e ≡ why) → old.tree ≡ None → IsRefusal (empty_world old.is_host_focused) u why → Updates old u r old []
refused_first old u (Ok done) why h is refusal = absurd h
refused_first old u (Err e) why h is refusal = subst (λ (x : UpdateError). Updates old u (Err x) old []) (sym h) (refuses_first old u why is refusal)

-- the host's focus, with a tree and without
pub refocuses_tree : (old new : Stage) (w v : World) (focused : Bool) (told : List ModelEvent) → old.tree ≡ Some w → Does w (ToHostFocus focused) v told Accepted
    → new ≡ record { tree = Some v; is_host_focused = focused } → Refocuses old focused new told
refocuses_tree old new w v focused told is does e =
    subst (λ (o : Option World). MatchOption o ((new ≡ record { tree = None; is_host_focused = focused }) × (told ≡ [])) (λ x. (y : World) × Does x (ToHostFocus focused) y told Accepted × (new ≡ record { tree = Some y; is_host_focused = focused })))
    (sym is) (v, does, e)

pub refocuses_none : (old new : Stage) (focused : Bool) → old.tree ≡ None → new ≡ record { tree = None; is_host_focused = focused } → Refocuses old focused new []
refocuses_none old new focused is e =
    subst (λ (o : Option World). MatchOption o ((new ≡ record { tree = None; is_host_focused = focused }) × (none ≡ [])) (λ x. (y : World) × Does x (ToHostFocus focused) y [] Accepted × (new ≡ record { tree = Some y; is_host_focused = focused })))
    (sym is) (e, refl)

abbrev fails : Result Unit UpdateError → Type 0
fails (Ok done) = ⊥
fails (Err why) = Unit {0}

no_error : (r : Result Unit UpdateError) → r ≡ Ok tt → fails r → ⊥
no_error r e h = subst fails e h

-- only an update is refused
refuses : (at new : Stage) (c : ScriptCommand) (told : List ModelEvent) (why : UpdateError) → CarriesOut at c (Err why) new told → CarriesOut new c (Err why) new [] × (new ≡ at) × (told ≡ [])
refuses at new (command.Update u) told why h = ((subst (λ (s : Stage). IsRefusal (world_before s) (update_data u) why) (sym h.1) h.0, refl, refl), h.1, h.2)
refuses at new (command.HostFocus focused) told why h = absurd (no_error (Err why) h.0 tt)
refuses at new command.Print told why h = absurd (no_error (Err why) h.0 tt)
refuses at new (command.Query q) told why h = absurd (no_error (Err why) h.0 tt)

-- the commands cs of all are carried out, count of them, and the others are left; no event is lost
pub record SoFar (old at : Stage) (commands cs others : List ScriptCommand) (events : Option (List Event)) (count : ℕ) : Type 0 where
  pub told : List ModelEvent
  pub runs : CarryOut old cs at told
  pub kept : AreKept told events
  pub whole : IsSome events
  pub is : count ≡ length cs
  pub all : commands ≡ cs ++ others

-- none is carried out yet
pub begins : (old : Stage) (commands : List ScriptCommand) (events : Option (List Event)) → events ≡ Some [] → SoFar old old commands [] commands events 0
begins old commands events empty = record {
  told = [];
  runs = refl;
  kept = subst (λ (o : Option (List Event)). AreKept [] o) (sym empty) refl;
  whole = subst (λ (o : Option (List Event)). IsSome o) (sym empty) refl;
  is = refl;
  all = refl;
}

module _ (old at new : Stage) (commands cs others more : List ScriptCommand) (c : ScriptCommand) (last : List ModelEvent) (before after : Option (List Event)) (count : ℕ)
    (so_far : SoFar old at commands cs others before count) (left : others ≡ c ∷ more) (heard : Told Keeps before last after) where
  -- the commands are those that are done, the next one, and the others
  parts : commands ≡ cs ++ c ∷ more
  parts = so_far.all ∙ ap (λ (xs : List ScriptCommand). cs ++ xs) left

  parts_after : commands ≡ (cs ++ c ∷ []) ++ more
  parts_after = parts ∙ sym (append_assoc cs (c ∷ []) more)

  -- while a command is left, fewer than all are done
  pub fewer : count + 1 ≤ length commands
  fewer = let a = ap length parts in let b = length-append cs (c ∷ more) in let n = so_far.is in omega (arith, a, b, n)

  carried_on : CarriesOut at c (Ok tt) new last → CarryOut old (cs ++ c ∷ []) new (so_far.told ++ last)
  carried_on carries = FoldsTo-push GoesOn (old, []) cs (at, so_far.told) c (new, so_far.told ++ last) so_far.runs (last, carries, refl)

  kept_on : AreKept (so_far.told ++ last) after
  kept_on = keeps_all so_far.told last before after so_far.kept heard

  counted_on : (n : ℕ) → n ≡ count + 1 → n ≡ length (cs ++ c ∷ [])
  counted_on n e = let l = length-append cs (c ∷ []) in let k = so_far.is in omega (arith, e, k, l)

  -- one more is done
  pub goes_on : (n : ℕ) → n ≡ count + 1 → CarriesOut at c (Ok tt) new last → IsSome after → SoFar old new commands (cs ++ c ∷ []) more after n
  goes_on n e carries whole = record { told = so_far.told ++ last; runs = carried_on carries; kept = kept_on; whole = whole; is = counted_on n e; all = parts_after }

  -- it was the last, since its events were lost
  pub ends_lost : (n : ℕ) → n ≡ count + 1 → CarriesOut at c (Ok tt) new last → CarriesOutAll old commands (Err (feed.Memory n)) new after
  ends_lost n e carries = record { done = cs ++ c ∷ []; told = so_far.told ++ last; runs = carried_on carries; kept = kept_on; ended = (counted_on n e, (more, parts_after)) }

  module _ (why : UpdateError) (carries : CarriesOut at c (Err why) new last) where
    nothing_told : before ≡ after
    nothing_told = subst (λ (es : List ModelEvent). Told Keeps before es after) (refuses at new c last why carries).2 heard

    runs_to : CarryOut old cs new so_far.told
    runs_to = subst (λ (s : Stage). CarryOut old cs s so_far.told) (sym (refuses at new c last why carries).1) so_far.runs

    kept_to : AreKept so_far.told after
    kept_to = subst (AreKept so_far.told) nothing_told so_far.kept

    -- it was refused
    pub ends_refused : why ≢ error.Memory → CarriesOutAll old commands (Err (feed.Refused count why)) new after
    ends_refused rule = record {
      done = cs;
      told = so_far.told;
      runs = runs_to;
      kept = kept_to;
      ended = (so_far.is, subst (λ (o : Option (List Event)). IsSome o) nothing_told so_far.whole, rule, (c, more, parts, (refuses at new c last why carries).0));
    }

    -- there was no memory for it
    pub ends_wanting : CarriesOutAll old commands (Err (feed.Memory count)) new after
    ends_wanting = record { done = cs; told = so_far.told; runs = runs_to; kept = kept_to; ended = (so_far.is, (c ∷ more, parts)) }

-- all are done
pub ends_well : (old at : Stage) (commands cs others : List ScriptCommand) (events : Option (List Event)) (count : ℕ)
    → SoFar old at commands cs others events count → others ≡ [] → CarriesOutAll old commands (Ok tt) at events
ends_well old at commands cs others events count so_far left =
    record { done = cs; told = so_far.told; runs = so_far.runs; kept = so_far.kept; ended = (sym (so_far.all ∙ ap (λ (xs : List ScriptCommand). cs ++ xs) left ∙ append-nil cs), so_far.whole) }
