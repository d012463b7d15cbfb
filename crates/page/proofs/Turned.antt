-- The turns that a script takes while it is shown.
use Rattle.std.proofs.Common.{◌≡◌, ◌⊎◌, ℕ, inl, inr, Bool, List, [], ◌∷◌, ◌++◌, map, Option, Some, None, Result, Ok, Err, refl, sym, ap, subst, ◌∙◌}
use Rattle.std.specs.Prelude.{◌≢◌, MatchOption}
use Rattle.std.specs.List.{FoldsTo}
use Rattle.std.proofs.lemmas.List.{append-nil, append_assoc, map-append}
use Rattle.atree_script.specs.Input.{Commented}
use Rattle.atree_script.specs.Playing.{Turn, Begun as TreeBegun, FirstRefused, Ran, Asked, Printed, Stage, SendsFirst, RunsOn, CarriesOut, GoesOn, Plays}
use Rattle.model.specs.World.{World}
use Rattle.schema.specs.declared.update.TreeUpdate.{TreeUpdate}
use Rattle.script_lines.specs.ScriptReading.{Place}
use Rattle.script_lines.specs.declared.reader.ScriptCommand.{ScriptCommand}
use Rattle.script_lines.specs.declared.reader.ScriptCommand.TheVariants as script
use Rattle.script_words.specs.declared.stops.Stop.{Stop}
use Rattle.script_words.specs.declared.stops.Stop.TheVariants.{Memory, WriteFault}
use Rattle.session.specs.declared.commands.Command.{Command}
use Rattle.session.specs.declared.commands.Command.TheVariants as command
use Rattle.page.specs.declared.sections.Cause.{Cause}
use Rattle.page.specs.declared.sections.Outcome.{Outcome}
use Rattle.page.specs.declared.sections.Titled.{Titled}
use Rattle.page.specs.Shown.{Shown, Shows, ShowsTurn}
use Rattle.page.specs.States.{cause_of}
use Rattle.page.specs.Turns.{outcomes, ShowsTaken, Taken, Takes, TurnTaken}

-- ---- what came of a turn

abbrev outcome_in : Titled → Outcome
outcome_in it = it.summary.outcome

one_more : (s t : List Titled) (it : Titled) → t ≡ s ++ it ∷ [] → map outcome_in t ≡ map outcome_in s ++ outcome_in it ∷ []
one_more s t it e = ap (map outcome_in) e ∙ map-append outcome_in s (it ∷ [])

abbrev Came : Shown → Shown → Type 0
Came s t = (came : List Outcome) × (outcomes t ≡ outcomes s ++ came)

none_came : (s t : Shown) → t ≡ s → Came s t
none_came s t e = ([], ap outcomes e ∙ sym (append-nil (outcomes s)))

abbrev done : Result Unit Stop
done = Ok tt

ran_came : (title : List ℕ) (line : ℕ) (s : Shown) (old : World) (c : Command) (new : World) (d : Unit) (t : Shown) (cause : Option Cause) →
    MatchOption cause ((new ≡ old) × (t ≡ s) × (Ok d ≡ done)) (λ cause. ShowsTurn title line cause s old c new (Ok d) t) → Came s t
ran_came title line s old c new d t None h = none_came s t h.1
ran_came title line s old c new d t (Some cause) h =
    let notes = h.shows.0.shown.notes in (outcome_in notes.state ∷ [], one_more s.0.states t.0.states notes.state notes.states)

turn_came : (s : Shown) (turn : Turn) (d : Unit) (t : Shown) → Shows s turn (Ok d) t → Came s t
turn_came s (TreeBegun comment w) d t h = let notes = h.0.shown.opens.notes in (outcome_in notes.state ∷ [], one_more s.0.states t.0.states notes.state notes.states)
turn_came s (FirstRefused comment line why) d t h = let notes = h.0.shown.notes in (outcome_in notes.state ∷ [], one_more s.0.states t.0.states notes.state notes.states)
turn_came s (Ran comment line old c new) d t h = ran_came comment line s old c new d t (cause_of old.host_focused s.0.updates c) h
turn_came s (Asked old q new) d t h = none_came s t h.1
turn_came s (Printed w) d t h = none_came s t h.0

-- ---- each turn that is shown is taken

takes : (s : Shown) (turn : Turn) (r : Result Unit Stop) (t : Shown) → Shows s turn r t → (xs : List TurnTaken) → (ys : List TurnTaken) × Takes (s, xs) turn r (t, ys)
takes s turn (Ok d) t h xs = let came = turn_came s turn d t h in (xs ++ (turn, came.0) ∷ [], (h, (came.0, came.1, refl)))
takes s turn (Err stop) t h xs = (xs, (h, refl))

by_tree : {A : Type 0} {B : List TurnTaken → Type 0} {C : World → Type 0} {D : List TurnTaken → World → Type 0} (o : Option World) → (A → (ys : List TurnTaken) × B ys) →
    ((w : World) → C w → (ys : List TurnTaken) × D ys w) → MatchOption o A C → (ys : List TurnTaken) × MatchOption o (B ys) (D ys)
by_tree None without with_one h = without h
by_tree (Some w) without with_one h = with_one w h

first_taken : (host : Bool) (s : Shown) (xs : List TurnTaken) (text : List ℕ) (line : ℕ) (u : TreeUpdate) (r : Result Unit Stop) (new : Stage) (t : Shown) → SendsFirst Shows host s text line u r new t →
    (ys : List TurnTaken) × SendsFirst Takes host (s, xs) text line u r new (t, ys)
first_taken host s xs text line u r new t (inl h) = let k = takes s (TreeBegun text h.0) r t h.3 xs in (k.0, inl (h.0, h.1, h.2, k.1))
first_taken host s xs text line u r new t (inr h) = let k = takes s (FirstRefused text line h.0) r t h.3 xs in (k.0, inr (h.0, h.1, h.2, k.1))

run_taken : (host : Bool) (s : Shown) (xs : List TurnTaken) (text : List ℕ) (line : ℕ) (c : Command) (r : Result Unit Stop) (new : Stage) (t : Shown) (w : World) → RunsOn Shows host s text line c r new t w →
    (ys : List TurnTaken) × RunsOn Takes host (s, xs) text line c r new (t, ys) w
run_taken host s xs text line c r new t w h = let k = takes s (Ran text line w c h.0) r t h.2 xs in (k.0, (h.0, h.1, k.1))

abbrev taken_with : Shown → List TurnTaken → Taken
taken_with s xs = (s, xs)

-- before there is a tree, a change of the host's focus is no turn
no_turn : (host : Bool) (s : Shown) (xs : List TurnTaken) (r : Result Unit Stop) (new : Stage) (t : Shown) → (r ≡ Ok tt) × (new ≡ record { world = None; host = host }) × (t ≡ s) →
    (ys : List TurnTaken) × ((r ≡ Ok tt) × (new ≡ record { world = None; host = host }) × (taken_with t ys ≡ taken_with s xs))
no_turn host s xs r new t h = (xs, (h.0, h.1, λ i. taken_with (h.2 i) xs))

carried_taken : (old : Stage) (s : Shown) (xs : List TurnTaken) (text : List ℕ) (line : ℕ) (c : ScriptCommand) (r : Result Unit Stop) (new : Stage) (t : Shown) → CarriesOut Shows old s text line c r new t →
    (ys : List TurnTaken) × CarriesOut Takes old (s, xs) text line c r new (t, ys)
carried_taken old s xs text line (script.Update u) r new t h = by_tree old.world (first_taken old.host s xs text line u r new t) (run_taken old.host s xs text line (command.Update u) r new t) h
carried_taken old s xs text line (script.HostFocus host) r new t h = by_tree old.world (no_turn host s xs r new t) (run_taken host s xs text line (command.HostFocus host) r new t) h
carried_taken old s xs text line script.Print r new t h = let k = takes s (Printed old.world) r t h.1 xs in (k.0, (h.0, k.1))
carried_taken old s xs text line (script.Query q) r new t h = let k = takes s (Asked old.world q h.0) r t h.2 xs in (k.0, (h.0, h.1, k.1))

abbrev with_turns : Stage × Shown → List TurnTaken → Stage × Taken
with_turns a xs = (a.0, (a.1, xs))

all_taken : (a b : Stage × Shown) (xs : List TurnTaken) (cs : List Commented) → FoldsTo (GoesOn Shows) a cs b → (ys : List TurnTaken) × FoldsTo (GoesOn Takes) (with_turns a xs) cs (with_turns b ys)
all_taken a b xs [] h = (xs, λ i. with_turns (h i) xs)
all_taken a b xs (c ∷ cs) h =
    let k = carried_taken a.0 a.1 xs c.comment c.line c.command (Ok tt) h.0.0 h.0.1 h.1 in
    let rest = all_taken h.0 b k.0 cs h.2 in
    (rest.0, (with_turns h.0 k.0, k.1, rest.1))

pub turns_taken : (input : Option Place) (a b : Stage × Shown) (xs : List TurnTaken) (cs : List Commented) (ended : Result Unit Stop) (number : ℕ) → Plays Shows input a cs ended number b →
    (ys : List TurnTaken) × Plays Takes input (with_turns a xs) cs ended number (with_turns b ys)
turns_taken input a b xs cs ended number (inl h) = let k = all_taken a b xs cs h.0 in (k.0, inl (k.1, h.1))
turns_taken input a b xs cs ended number (inr (h, reads)) =
    let k = all_taken a h.between xs h.earlier h.before in
    let l = carried_taken h.between.0 h.between.1 k.0 h.last.comment h.last.line h.last.command ended b.0 b.1 h.carried in (
      l.0,
      inr (
        record {
          earlier = h.earlier;
          last = h.last;
          whole = h.whole;
          between = with_turns h.between k.0;
          before = k.1;
          stop = h.stop;
          stopped = h.stopped;
          carried = l.1;
        },
        reads,
      ),
    )

-- ---- turns that were taken are shown one after the other

abbrev pub Went : Taken → Taken → Type 0
Went s t = (more : List TurnTaken) × (t.1 ≡ s.1 ++ more) × FoldsTo ShowsTaken s.0 more t.0

no_more : (s t : Taken) → t ≡ s → Went s t
no_more s t e = ([], ap (λ (x : Taken). x.1) e ∙ sym (append-nil s.1), ap (λ (x : Taken). x.0) (sym e))

one_went : (s : Taken) (turn : Turn) (t : Taken) → Takes s turn (Ok tt) t → Went s t
one_went s turn t h = ((turn, h.1.0) ∷ [], h.1.2, (t.0, (h.0, h.1.1), refl))

either_way : {A : Type 0} {C : World → Type 0} {D : Type 0} (o : Option World) → (A → D) → ((w : World) → C w → D) → MatchOption o A C → D
either_way None without with_one h = without h
either_way (Some w) without with_one h = with_one w h

first_went : (host : Bool) (s : Taken) (text : List ℕ) (line : ℕ) (u : TreeUpdate) (new : Stage) (t : Taken) → SendsFirst Takes host s text line u (Ok tt) new t → Went s t
first_went host s text line u new t (inl h) = one_went s (TreeBegun text h.0) t h.3
first_went host s text line u new t (inr h) = one_went s (FirstRefused text line h.0) t h.3

run_went : (host : Bool) (s : Taken) (text : List ℕ) (line : ℕ) (c : Command) (new : Stage) (t : Taken) (w : World) → RunsOn Takes host s text line c (Ok tt) new t w → Went s t
run_went host s text line c new t w h = one_went s (Ran text line w c h.0) t h.2

carried_went : (old : Stage) (s : Taken) (text : List ℕ) (line : ℕ) (c : ScriptCommand) (new : Stage) (t : Taken) → CarriesOut Takes old s text line c (Ok tt) new t → Went s t
carried_went old s text line (script.Update u) new t h = either_way old.world (first_went old.host s text line u new t) (run_went old.host s text line (command.Update u) new t) h
carried_went old s text line (script.HostFocus host) new t h =
    either_way old.world (λ (k : (done ≡ done) × (new ≡ record { world = None; host = host }) × (t ≡ s)). no_more s t k.2) (run_went host s text line (command.HostFocus host) new t) h
carried_went old s text line script.Print new t h = one_went s (Printed old.world) t h.1
carried_went old s text line (script.Query q) new t h = one_went s (Asked old.world q h.0) t h.2

joined : (xs ys : List TurnTaken) (s m t : Shown) → FoldsTo ShowsTaken s xs m → FoldsTo ShowsTaken m ys t → FoldsTo ShowsTaken s (xs ++ ys) t
joined [] ys s m t h g = subst (λ (x : Shown). FoldsTo ShowsTaken x ys t) (sym h) g
joined (x ∷ xs) ys s m t h g = (h.0, h.1, joined xs ys h.0 m t h.2 g)

all_went : (a b : Stage × Taken) (cs : List Commented) → FoldsTo (GoesOn Takes) a cs b → Went a.1 b.1
all_went a b [] h = no_more a.1 b.1 (ap (λ (x : Stage × Taken). x.1) (sym h))
all_went a b (c ∷ cs) h =
    let one = carried_went a.0 a.1 c.comment c.line c.command h.0.0 h.0.1 h.1 in
    let rest = all_went h.0 b cs h.2 in (
      one.0 ++ rest.0,
      rest.1 ∙ ap (λ (xs : List TurnTaken). xs ++ rest.0) one.1 ∙ append_assoc a.1.1 one.0 rest.0,
      joined one.0 rest.0 a.1.0 h.0.1.0 b.1.0 one.2 rest.2,
    )

-- ---- what stops a script

abbrev Stopped : Stop → Type 0
Stopped stop = (stop ≡ Memory) ⊎ (stop ≡ WriteFault)

or_stopped : {A B : Type 0} (stop : Stop) → ((stop ≡ Memory) × A) ⊎ ((stop ≡ WriteFault) × B) → Stopped stop
or_stopped stop (inl h) = inl h.0
or_stopped stop (inr h) = inr h.0

goes_on : {A : Type 0} (stop : Stop) → Err stop ≡ done → A
goes_on stop e = let no : ⊥ = cc in absurd no

ran_stopped : (title : List ℕ) (line : ℕ) (s : Shown) (old : World) (c : Command) (new : World) (t : Shown) (stop : Stop) (cause : Option Cause) →
    MatchOption cause ((new ≡ old) × (t ≡ s) × (Err stop ≡ done)) (λ cause. ShowsTurn title line cause s old c new (Err stop) t) → Stopped stop
ran_stopped title line s old c new t stop None h = goes_on stop h.2
ran_stopped title line s old c new t stop (Some cause) h = or_stopped stop h.shows

shows_stopped : (s : Shown) (turn : Turn) (stop : Stop) (t : Shown) → Shows s turn (Err stop) t → Stopped stop
shows_stopped s (TreeBegun comment w) stop t h = or_stopped stop h
shows_stopped s (FirstRefused comment line why) stop t h = or_stopped stop h
shows_stopped s (Ran comment line old c new) stop t h = ran_stopped comment line s old c new t stop (cause_of old.host_focused s.0.updates c) h
shows_stopped s (Asked old q new) stop t h = goes_on stop h.2
shows_stopped s (Printed w) stop t h = goes_on stop h.1

first_stopped : (host : Bool) (s : Taken) (text : List ℕ) (line : ℕ) (u : TreeUpdate) (stop : Stop) (new : Stage) (t : Taken) → SendsFirst Takes host s text line u (Err stop) new t → Stopped stop
first_stopped host s text line u stop new t (inl h) = shows_stopped s.0 (TreeBegun text h.0) stop t.0 h.3.0
first_stopped host s text line u stop new t (inr h) = shows_stopped s.0 (FirstRefused text line h.0) stop t.0 h.3.0

on_stopped : (host : Bool) (s : Taken) (text : List ℕ) (line : ℕ) (c : Command) (stop : Stop) (new : Stage) (t : Taken) (w : World) → RunsOn Takes host s text line c (Err stop) new t w → Stopped stop
on_stopped host s text line c stop new t w h = shows_stopped s.0 (Ran text line w c h.0) stop t.0 h.2.0

carried_stopped : (old : Stage) (s : Taken) (text : List ℕ) (line : ℕ) (c : ScriptCommand) (stop : Stop) (new : Stage) (t : Taken) → CarriesOut Takes old s text line c (Err stop) new t → Stopped stop
carried_stopped old s text line (script.Update u) stop new t h = either_way old.world (first_stopped old.host s text line u stop new t) (on_stopped old.host s text line (command.Update u) stop new t) h
carried_stopped old s text line (script.HostFocus host) stop new t h =
    either_way old.world (λ (k : (Err stop ≡ done) × (new ≡ record { world = None; host = host }) × (t ≡ s)). goes_on stop k.0) (on_stopped host s text line (command.HostFocus host) stop new t) h
carried_stopped old s text line script.Print stop new t h = shows_stopped s.0 (Printed old.world) stop t.0 h.1.0
carried_stopped old s text line (script.Query q) stop new t h = shows_stopped s.0 (Asked old.world q h.0) stop t.0 h.2.0

-- where neither want of memory nor a failed output ended it, all its commands were carried out
not_so : (ended : Result Unit Stop) (stop : Stop) → ended ≢ Err Memory → ended ≢ Err WriteFault → ended ≡ Err stop → Stopped stop → ⊥
not_so ended stop some out e (inl h) = some (e ∙ ap Err h)
not_so ended stop some out e (inr h) = out (e ∙ ap Err h)

pub played_through : (input : Option Place) (a b : Stage × Taken) (cs : List Commented) (ended : Result Unit Stop) (number : ℕ) → ended ≢ Err Memory → ended ≢ Err WriteFault →
    Plays Takes input a cs ended number b → Went a.1 b.1
played_through input a b cs ended number some out (inl h) = all_went a b cs h.0
played_through input a b cs ended number some out (inr (h, reads)) =
    let carried : CarriesOut Takes h.between.0 h.between.1 h.last.comment h.last.line h.last.command (Err h.stop) b.0 b.1 =
    subst (λ (r : Result Unit Stop). CarriesOut Takes h.between.0 h.between.1 h.last.comment h.last.line h.last.command r b.0 b.1) h.stopped h.carried in
    absurd (not_so ended h.stop some out h.stopped (carried_stopped h.between.0 h.between.1 h.last.comment h.last.line h.last.command h.stop b.0 b.1 carried))
