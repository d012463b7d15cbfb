-- A script that is played, by what is seen of its player.
use Rattle.std.proofs.Common.{◌≡◌, ℕ, inl, inr, Bool, List, [], ◌∷◌, Option, Some, None, sym, ap, ◌∙◌, subst}
use Rattle.std.specs.Prelude.{MatchOption, Result, Ok}
use Rattle.std.specs.List.{FoldsTo}
use Rattle.model.specs.World.{World}
use Rattle.schema.specs.declared.update.TreeUpdate.{TreeUpdate}
use Rattle.script_lines.specs.ScriptReading.{Place}
use Rattle.script_lines.specs.Taking.{number_of}
use Rattle.script_lines.specs.declared.reader.ScriptCommand.{ScriptCommand}
use Rattle.script_lines.specs.declared.reader.ScriptCommand.TheVariants as script
use Rattle.script_words.specs.declared.stops.Stop.{Stop}
use Rattle.session.specs.declared.commands.Command.{Command}
use Rattle.session.specs.declared.commands.Command.TheVariants as command
use Rattle.atree_script.specs.Input.{Commented, start_of}
use Rattle.atree_script.specs.Played.{PlaysOut}
use Rattle.atree_script.specs.Playing.{Turn, Begun, FirstRefused, Ran, Asked, Printed, Stage, no_tree, SendsFirst, RunsOn, CarriesOut, GoesOn, Plays}
use Rattle.atree_script.specs.declared.playing.Played.{Played}

by_tree : {A B : Type 0} {C D : World → Type 0} (o : Option World) → (A → B) → ((w : World) → C w → D w) → MatchOption o A C → MatchOption o B D
by_tree None without with_one h = without h
by_tree (Some w) without with_one h = with_one w h

-- ---- what is seen of each turn is seen of all

module _ {P Q : Type 0} (turns : P → Turn → Result Unit Stop → P → Type 0) (seen : Q → Turn → Result Unit Stop → Q → Type 0) (look : P → Q) (shows : (s : P) (turn : Turn) (r : Result Unit Stop) (t : P) → turns s turn r t → seen (look s) turn r (look t)) where
  first_seen : (host : Bool) (s : P) (text : List ℕ) (line : ℕ) (u : TreeUpdate) (r : Result Unit Stop) (new : Stage) (t : P) → SendsFirst turns host s text line u r new t → SendsFirst seen host (look s) text line u r new (look t)
  first_seen host s text line u r new t (inl h) = inl (h.0, h.1, h.2, shows s (Begun text h.0) r t h.3)
  first_seen host s text line u r new t (inr h) = inr (h.0, h.1, h.2, shows s (FirstRefused text line h.0) r t h.3)

  run_seen : (host : Bool) (s : P) (text : List ℕ) (line : ℕ) (c : Command) (r : Result Unit Stop) (new : Stage) (t : P) (w : World) → RunsOn turns host s text line c r new t w → RunsOn seen host (look s) text line c r new (look t) w
  run_seen host s text line c r new t w h = (h.0, h.1, shows s (Ran text line w c h.0) r t h.2)

  carried_seen : (old : Stage) (s : P) (text : List ℕ) (line : ℕ) (c : ScriptCommand) (r : Result Unit Stop) (new : Stage) (t : P) → CarriesOut turns old s text line c r new t → CarriesOut seen old (look s) text line c r new (look t)
  carried_seen old s text line (script.Update u) r new t h = by_tree old.world (first_seen old.host s text line u r new t) (run_seen old.host s text line (command.Update u) r new t) h
  carried_seen old s text line (script.HostFocus host) r new t h =
      by_tree old.world (λ (k : (r ≡ Ok tt) × (new ≡ record { world = None; host = host }) × (t ≡ s)). (k.0, k.1, ap look k.2)) (run_seen host s text line (command.HostFocus host) r new t) h
  carried_seen old s text line script.Print r new t h = (h.0, shows s (Printed old.world) r t h.1)
  carried_seen old s text line (script.Query q) r new t h = (h.0, h.1, shows s (Asked old.world q h.0) r t h.2)

  abbrev look_at : Stage × P → Stage × Q
  look_at a = (a.0, look a.1)

  all_seen : (a b : Stage × P) (cs : List Commented) → FoldsTo (GoesOn turns) a cs b → FoldsTo (GoesOn seen) (look_at a) cs (look_at b)
  all_seen a b [] h = ap look_at h
  all_seen a b (c ∷ cs) h = (look_at h.0, carried_seen a.0 a.1 c.comment c.line c.command (Ok tt) h.0.0 h.0.1 h.1, all_seen h.0 b cs h.2)

  pub plays_seen : (input : Option Place) (a b : Stage × P) (cs : List Commented) (ended : Result Unit Stop) (number : ℕ) → Plays turns input a cs ended number b → Plays seen input (look_at a) cs ended number (look_at b)
  plays_seen input a b cs ended number (inl h) = inl (all_seen a b cs h.0, h.1)
  plays_seen input a b cs ended number (inr (h, reads)) =
      inr (
        record {
          earlier = h.earlier;
          last = h.last;
          whole = h.whole;
          between = look_at h.between;
          before = all_seen a h.between h.earlier h.before;
          stop = h.stop;
          stopped = h.stopped;
          carried = carried_seen h.between.0 h.between.1 h.last.comment h.last.line h.last.command ended b.0 b.1 h.carried;
        },
        reads,
      )

-- ---- what each turn keeps all keep

module _ {P N : Type 0} (turns : P → Turn → Result Unit Stop → P → Type 0) (name : P → N) (keeps : (s : P) (turn : Turn) (r : Result Unit Stop) (t : P) → turns s turn r t → name t ≡ name s) where
  first_keeps : (host : Bool) (s : P) (text : List ℕ) (line : ℕ) (u : TreeUpdate) (r : Result Unit Stop) (new : Stage) (t : P) → SendsFirst turns host s text line u r new t → name t ≡ name s
  first_keeps host s text line u r new t (inl h) = keeps s (Begun text h.0) r t h.3
  first_keeps host s text line u r new t (inr h) = keeps s (FirstRefused text line h.0) r t h.3

  either_way : {A : Type 0} {C : World → Type 0} {D : Type 0} (o : Option World) → (A → D) → ((w : World) → C w → D) → MatchOption o A C → D
  either_way None without with_one h = without h
  either_way (Some w) without with_one h = with_one w h

  run_keeps : (host : Bool) (s : P) (text : List ℕ) (line : ℕ) (c : Command) (r : Result Unit Stop) (new : Stage) (t : P) (w : World) → RunsOn turns host s text line c r new t w → name t ≡ name s
  run_keeps host s text line c r new t w h = keeps s (Ran text line w c h.0) r t h.2

  carried_keeps : (old : Stage) (s : P) (text : List ℕ) (line : ℕ) (c : ScriptCommand) (r : Result Unit Stop) (new : Stage) (t : P) → CarriesOut turns old s text line c r new t → name t ≡ name s
  carried_keeps old s text line (script.Update u) r new t h = either_way old.world (first_keeps old.host s text line u r new t) (run_keeps old.host s text line (command.Update u) r new t) h
  carried_keeps old s text line (script.HostFocus host) r new t h =
      either_way old.world (λ (k : (r ≡ Ok tt) × (new ≡ record { world = None; host = host }) × (t ≡ s)). ap name k.2) (run_keeps host s text line (command.HostFocus host) r new t) h
  carried_keeps old s text line script.Print r new t h = keeps s (Printed old.world) r t h.1
  carried_keeps old s text line (script.Query q) r new t h = keeps s (Asked old.world q h.0) r t h.2

  all_keep : (a b : Stage × P) (cs : List Commented) → FoldsTo (GoesOn turns) a cs b → name b.1 ≡ name a.1
  all_keep a b [] h = ap (λ (p : Stage × P). name p.1) (sym h)
  all_keep a b (c ∷ cs) h = all_keep h.0 b cs h.2 ∙ carried_keeps a.0 a.1 c.comment c.line c.command (Ok tt) h.0.0 h.0.1 h.1

  pub plays_keep : (input : Option Place) (a b : Stage × P) (cs : List Commented) (ended : Result Unit Stop) (number : ℕ) → Plays turns input a cs ended number b → name b.1 ≡ name a.1
  plays_keep input a b cs ended number (inl h) = all_keep a b cs h.0
  plays_keep input a b cs ended number (inr (h, reads)) = carried_keeps h.between.0 h.between.1 h.last.comment h.last.line h.last.command ended b.0 b.1 h.carried ∙ all_keep a h.between h.earlier h.before

-- a script that is played is so up to the number of its reader's last line
pub plays_to_last : {P : Type 0} (turns : P → Turn → Result Unit Stop → P → Type 0) (input : Option (List ℕ)) (s : P) (played : Played) (t : P) (h : PlaysOut turns input s played t) → Plays turns (start_of input) (no_tree, s) h.commands played.ended (number_of played.script) (record { world = played.session; host = h.host }, t)
plays_to_last turns input s played t h =
    subst (λ (n : ℕ). Plays turns (start_of input) (no_tree, s) h.commands played.ended n (record { world = played.session; host = h.host }, t)) (sym h.numbered) h.plays

-- ---- the same of a whole script that is played

module _ {P : Type 0} (turns : P → Turn → Result Unit Stop → P → Type 0) (input : Option (List ℕ)) (s : P) (played : Played) (t : P) (h : PlaysOut turns input s played t) where
  abbrev end : Stage
  end = record { world = played.session; host = h.host }

  pub seen_out : {Q : Type 0} (seen : Q → Turn → Result Unit Stop → Q → Type 0) (look : P → Q) → ((a : P) (turn : Turn) (r : Result Unit Stop) (b : P) → turns a turn r b → seen (look a) turn r (look b)) → PlaysOut seen input (look s) played (look t)
  seen_out seen look shows = record {
    commands = h.commands;
    host = h.host;
    plays = plays_seen turns seen look shows (start_of input) (no_tree, s) (end, t) h.commands played.ended played.number h.plays;
    numbered = h.numbered;
  }

  pub kept_out : {N : Type 0} (name : P → N) → ((a : P) (turn : Turn) (r : Result Unit Stop) (b : P) → turns a turn r b → name b ≡ name a) → name t ≡ name s
  kept_out name keeps = plays_keep turns name keeps (start_of input) (no_tree, s) (end, t) h.commands played.ended played.number h.plays
