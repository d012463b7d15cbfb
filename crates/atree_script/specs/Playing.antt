-- How a script is played: the turns of the player, who carries out its commands.
use Rattle.std.specs.Prelude.{◌≡◌, ◌⊎◌, ℕ, Bool, false, List, [], ◌∷◌, ◌++◌, Option, Some, None, MatchOption, Result, Ok, Err}
use Rattle.std.specs.List.{FoldsTo}
use Rattle.std.specs.declared.alloc.AllocError.{AllocError}
use Rattle.schema.specs.UpdateData.{update_data}
use Rattle.schema.specs.declared.update.TreeUpdate.{TreeUpdate}
use Rattle.model.specs.Events.{Event, Told}
use Rattle.model.specs.Run.{Begins}
use Rattle.model.specs.State.{empty_world}
use Rattle.model.specs.World.{World}
use Rattle.model.specs.declared.queries.Query.{Query}
use Rattle.tree_changes.specs.Refusals.{IsRefusal}
use Rattle.tree_changes.specs.declared.error.UpdateError.{UpdateError}
use Rattle.tree_changes.specs.declared.error.UpdateError.TheVariants as error
use Rattle.script_lines.specs.ScriptReading.{Place}
use Rattle.script_lines.specs.declared.reader.ScriptCommand.{ScriptCommand}
use Rattle.script_lines.specs.declared.reader.ScriptCommand.TheVariants as script
use Rattle.script_words.specs.declared.stops.Stop.{Stop}
use Rattle.script_words.specs.declared.stops.Stop.TheVariants.{Memory}
use Rattle.session.specs.Replied.{IsStep}
use Rattle.session.specs.declared.commands.Command.{Command}
use Rattle.session.specs.declared.commands.Command.TheVariants as command
use Rattle.session.specs.declared.commands.Reply.{Reply}
use Rattle.session.specs.declared.commands.Reply.TheVariants.{Refused}
use Rattle.atree_script.specs.Input.{Commented, ReadsThese, ReadsAll}

-- ---- a command stops the script if memory ran out

abbrev pub end_of_refusal : UpdateError → Result Unit Stop
end_of_refusal error.Memory = Err Memory
end_of_refusal _ = Ok tt

abbrev pub end_of_reply : Reply → Result Unit Stop
end_of_reply (Refused why) = end_of_refusal why
end_of_reply _ = Ok tt

abbrev pub end_of : Result Reply AllocError → Result Unit Stop
end_of (Ok reply) = end_of_reply reply
end_of (Err wanting) = Err Memory

-- the command takes a step of the session, whose events a handler receives
pub record RunsTold {H : Type 0} (steps : H → Event → H → Type 0) (old : World) (c : Command) (new : World) (s t : H)
    (result : Result Unit Stop) : Type 0 where
  pub events : List Event
  pub reply : Result Reply AllocError
  pub step : IsStep old c new events reply
  pub told : Told steps s events t
  pub ended : result ≡ end_of reply

-- ---- turns

-- what a player is asked to do, with the world before and the world after, with the comment before what changes the tree, and with the line
-- of what may be refused
pub data Turn : Type 0 where
  Begun : (comment : List ℕ) (w : World) → Turn
  FirstRefused : (comment : List ℕ) (line : ℕ) (why : UpdateError) → Turn
  Ran : (comment : List ℕ) (line : ℕ) (old : World) (c : Command) (new : World) → Turn
  Asked : (old : Option World) (q : Query) (new : Option World) → Turn
  Printed : (w : Option World) → Turn

-- a script as far as it is played: the tree's world, once there is one, and whether the host has the focus
pub record Stage : Type 0 where
  pub world : Option World
  pub host : Bool

abbrev pub no_tree : Stage
no_tree = record { world = None; host = false }

module _ {P : Type 0} (turns : P → Turn → Result Unit Stop → P → Type 0) where
  -- a first update makes the tree, or is refused
  abbrev pub SendsFirst : Bool → P → List ℕ → ℕ → TreeUpdate → Result Unit Stop → Stage → P → Type 0
  SendsFirst host s comment line u result new t =
      ((w : World) × Begins host (update_data u) w × (new ≡ record { world = Some w; host = host }) × turns s (Begun comment w) result t)
      ⊎ ((why : UpdateError) × IsRefusal (empty_world host) (update_data u) why × (new ≡ record { world = None; host = host })
      × turns s (FirstRefused comment line why) result t)

  -- a command is run on a tree
  abbrev pub RunsOn : Bool → P → List ℕ → ℕ → Command → Result Unit Stop → Stage → P → World → Type 0
  RunsOn host s comment line c result new t w =
      (v : World) × (new ≡ record { world = Some v; host = host }) × turns s (Ran comment line w c v) result t

  -- what carrying out a command, with the comment before it and its line, makes of the script and the player, and how that ended
  abbrev pub CarriesOut : Stage → P → List ℕ → ℕ → ScriptCommand → Result Unit Stop → Stage → P → Type 0
  CarriesOut old s comment line (script.Update u) result new t =
      MatchOption old.world (SendsFirst old.host s comment line u result new t)
      (RunsOn old.host s comment line (command.Update u) result new t)
  CarriesOut old s comment line (script.HostFocus host) result new t =
      MatchOption old.world ((result ≡ Ok tt) × (new ≡ record { world = None; host = host }) × (t ≡ s))
      (RunsOn host s comment line (command.HostFocus host) result new t)
  CarriesOut old s comment line script.Print result new t = (new ≡ old) × turns s (Printed old.world) result t
  CarriesOut old s comment line (script.Query q) result new t =
      (v : Option World) × (new ≡ record { world = v; host = old.host }) × turns s (Asked old.world q v) result t

  -- a command is carried out, and the script goes on
  abbrev pub GoesOn : Stage × P → Commented → Stage × P → Type 0
  GoesOn a c b = CarriesOut a.0 a.1 c.comment c.line c.command (Ok tt) b.0 b.1

  -- commands are carried out in turn, and the last of them stops the script
  pub record StopsAtLast (start : Stage × P) (commands : List Commented) (ended : Result Unit Stop) (end : Stage × P) : Type 0 where
    pub earlier : List Commented
    pub last : Commented
    pub whole : commands ≡ earlier ++ last ∷ []
    pub between : Stage × P
    pub before : FoldsTo GoesOn start earlier between
    pub stop : Stop
    pub stopped : ended ≡ Err stop
    pub carried : CarriesOut between.0 between.1 last.comment last.line last.command ended end.0 end.1

  -- Commands are read and carried out in turn: all that the input has, up to where the reading ends, or the last of them stops the script.
  abbrev pub Plays : Option Place → Stage × P → List Commented → Result Unit Stop → ℕ → Stage × P → Type 0
  Plays input start commands ended number end =
      (FoldsTo GoesOn start commands end × ReadsAll input commands ended number)
      ⊎ (StopsAtLast start commands ended end × ReadsThese input commands number)
