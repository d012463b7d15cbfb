use Rattle.std.proofs.Common.{ℕ, Option, option_map, sym, subst}
use Rattle.script_lines.specs.ScriptReading.{Place, place}
use Rattle.atree_script.specs.Played.{stage_of}
use Rattle.atree_script.specs.Playing.{Stage, no_tree, Plays}
use Rattle.atree_script.proofs.Inputs.{at_start}
use Rattle.atree_script.proofs.playing.play.Goals as goal

pub returns : goal.returns
returns g c =
    let played = c.commands-ended.ensures in
    let left = g.R.Read.remaining c.args.input.now in
    let script = c.new-script.result in
    let end : Stage × g.row.P.Denot = (stage_of c.commands-ended.new.self, c.commands-ended.new.player) in
    record {
      commands = played.0;
      host = c.commands-ended.new.self.is_host_focused;
      plays =
          subst (λ (input : Option Place). Plays g.P.Player.turns input (no_tree, c.args.player.now) played.0 c.commands-ended.result c.line_number.result end) (at_start left script c.new-script.ensures.begun c.new-script.ensures.comment c.new-script.ensures.number)
          (subst (λ (number : ℕ). Plays g.P.Player.turns (option_map (place script) left) (no_tree, c.args.player.now) played.0 c.commands-ended.result number end) (sym c.line_number.ensures) played.1);
      numbered = sym c.line_number.ensures;
    }
