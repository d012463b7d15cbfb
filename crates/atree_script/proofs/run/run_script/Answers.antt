use Rattle.std.proofs.Common.{sym, subst}
use Rattle.std.specs.Io.KnownBytes.{Keeps}
use Rattle.atree_script.specs.Playing.{Stage}
use Rattle.atree_script.proofs.run.run_script.Goals as goal

pub returns-clause-runs : goal.returns-clause-runs
returns-clause-runs g c =
    let h = c.play_printed-played.ensures.plays in
    let played = c.play_printed-played.result in
    let end : Stage = record { world = played.session; host = h.host } in
    record {
      commands = h.commands;
      ended = played.ended;
      number = played.number;
      end = (end, g.O.Write.contents c.play_printed-played.new.writing.output.now);
      plays = h.plays;
      kept = subst (λ x. Keeps (g.O.Write.contents x) (g.O.Write.contents c.end_run.new.output)) (c.output-1.given.1 (sym c.play_printed-played.ensures.output)) c.end_run.ensures.printed;
      tells = c.end_run.ensures.told;
    }
