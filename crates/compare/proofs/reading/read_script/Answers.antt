use Rattle.std.proofs.Common.{refl, sym, ap, subst}
use Rattle.script_lines.specs.Ends.{TellsStop}
use Rattle.atree_script.specs.Playing.{Stage}
use Rattle.atree_script.specs.Reports.{Reports}
use Rattle.atree_script.proofs.Plays.{plays_to_last}
use Rattle.compare.proofs.reading.read_script.Goals as goal

pub returns-in-Ok-clause-reads : goal.returns-in-Ok-clause-reads
returns-in-Ok-clause-reads g c =
    let h = c.play_reported-played.ensures.plays in
    let played = c.play_reported-played.result in
    let reading = c.play_reported-played.new.reading in
    let before = g.E.Write.contents c.args.errors.now in
    let end : Stage = record { world = played.session; host = h.host } in
    record {
      commands = h.commands;
      ended = played.ended;
      script = played.script;
      end = (end, (reading.updates, g.E.Write.contents reading.errors.now));
      plays = plays_to_last Reports (g.R.Read.remaining c.args.input.now) (0, before) played (reading.updates, g.E.Write.contents reading.errors.now) h;
      gives = (c.in-Ok.is, refl, ap g.E.Write.contents (c.errors-1.given.1 (sym c.play_reported-played.ensures.errors)));
    }

pub returns-in-Err-clause-reads : goal.returns-in-Err-clause-reads
returns-in-Err-clause-reads g c =
    let h = c.play_reported-played.ensures.plays in
    let played = c.play_reported-played.result in
    let reading = c.play_reported-played.new.reading in
    let before = g.E.Write.contents c.args.errors.now in
    let end : Stage = record { world = played.session; host = h.host } in
    record {
      commands = h.commands;
      ended = played.ended;
      script = played.script;
      end = (end, (reading.updates, g.E.Write.contents reading.errors.now));
      plays = plays_to_last Reports (g.R.Read.remaining c.args.input.now) (0, before) played (reading.updates, g.E.Write.contents reading.errors.now) h;
      gives = (
        c.in-Err.stop,
        c.in-Err.is,
        subst (λ x. TellsStop played.script c.in-Err.stop (g.E.Write.contents x) (g.E.Write.contents c.tell_script_stop.new.errors) c.tell_script_stop.result) (c.errors-1.given.1 (sym c.play_reported-played.ensures.errors))
            (record { bad = c.tell_script_stop.ensures.bad; told = c.tell_script_stop.ensures.told }),
      );
    }
