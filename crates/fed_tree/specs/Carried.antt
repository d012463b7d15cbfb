-- What a command makes of a tree, or of none.
use Rattle.std.specs.Prelude.{◌≡◌, Bool, List, [], Some, None, MatchOption, unwrap_or, Result, Ok, Err}
use Rattle.schema.specs.UpdateData.{UpdateData, update_data}
use Rattle.model.specs.World.{World}
use Rattle.model.specs.Events.{Event as ModelEvent}
use Rattle.model.specs.Run.{Begins, Does, ToUpdate, ToHostFocus, Accepted}
use Rattle.model.specs.State.{empty_world}
use Rattle.tree_changes.specs.Refusals.{IsRefusal}
use Rattle.tree_changes.specs.declared.error.UpdateError.{UpdateError}
use Rattle.script_lines.specs.declared.reader.ScriptCommand.{ScriptCommand}
use Rattle.script_lines.specs.declared.reader.ScriptCommand.TheVariants as command
use Rattle.fed_tree.specs.declared.stage.Stage.{Stage}

-- with this tree
abbrev pub with_tree : Stage → World → Stage
with_tree stage w = record stage { tree = Some w }

-- the world that an update is to change: before there is a tree, the one with nothing in it
abbrev pub world_before : Stage → World
world_before stage = unwrap_or stage.tree (empty_world stage.is_host_focused)

-- The first update makes the tree, which tells nothing; another changes it. One that is refused changes nothing and tells nothing.
abbrev pub Updates : Stage → UpdateData → Result Unit UpdateError → Stage → List ModelEvent → Type 0
Updates old u (Ok done) new told =
    MatchOption old.tree ((w : World) × Begins old.is_host_focused u w × (new ≡ with_tree old w) × (told ≡ []))
    (λ w. (v : World) × Does w (ToUpdate u) v told Accepted × (new ≡ with_tree old v))
Updates old u (Err why) new told = IsRefusal (world_before old) u why × (new ≡ old) × (told ≡ [])

-- before there is a tree, the host's focus is kept for it
abbrev pub Refocuses : Stage → Bool → Stage → List ModelEvent → Type 0
Refocuses old focused new told =
    MatchOption old.tree ((new ≡ record { tree = None; is_host_focused = focused }) × (told ≡ []))
    (λ w. (v : World) × Does w (ToHostFocus focused) v told Accepted × (new ≡ record { tree = Some v; is_host_focused = focused }))

-- a command is carried out, or is an update that is refused
abbrev pub CarriesOut : Stage → ScriptCommand → Result Unit UpdateError → Stage → List ModelEvent → Type 0
CarriesOut old (command.Update u) result new told = Updates old (update_data u) result new told
CarriesOut old (command.HostFocus focused) result new told = (result ≡ Ok tt) × Refocuses old focused new told
CarriesOut old command.Print result new told = (result ≡ Ok tt) × (new ≡ old) × (told ≡ [])
CarriesOut old (command.Query q) result new told = (result ≡ Ok tt) × (new ≡ old) × (told ≡ [])
