use Rattle.std.proofs.Common.{ℕ, None, sym, subst}
use Rattle.std.specs.Io.KnownBytes.{Keeps}
use Rattle.script_lines.specs.Ends.{Tells, told_at_end, status_at_end}
use Rattle.atree_script.specs.Played.{PlaysOut}
use Rattle.speak.specs.Spoken.{aloud_of, Utters, ReportsEnd}
use Rattle.speak.specs.declared.numbering.Numbering.{Numbering}
use Rattle.speak.proofs.adapter.speak_script.Goals as goal

pub returns-clause-speaks : goal.returns-clause-speaks
returns-clause-speaks g c =
    let h = c.play_aloud-played.ensures in
    let played = c.play_aloud-played.result in
    let spoken = c.play_aloud-played.new.adapter in
    let input = g.R.Read.remaining c.args.input.now in
    let before = g.O.Write.contents c.args.output.now in
    let told_before = g.E.Write.contents c.args.errors.now in
    let reported = g.E.Write.contents c.errors-1.given.0 in
    let errors = g.E.Write.contents c.end_script_run.new.errors in
    let end = aloud_of spoken.numbering spoken.told (g.O.Write.contents spoken.output.now) (g.E.Write.contents spoken.errors.now) in
    record {
      played = played;
      end = end;
      plays = subst (λ (n : Numbering). PlaysOut Utters input (aloud_of n None before told_before) played end) c.none_yet.ensures h.plays;
      kept = subst (λ x. Keeps (g.O.Write.contents x) (g.O.Write.contents c.end_script_run.new.output)) (c.output-1.given.1 (sym h.output)) c.end_script_run.ensures.printed;
      reports = subst (λ x. ReportsEnd played (g.E.Write.contents x) errors c.end_script_run.result) (c.errors-1.given.1 (sym h.errors))
          (record {
            bad = c.end_script_run.ensures.bad;
            other = λ is. subst (λ (number : ℕ). Tells reported errors (told_at_end number played.ended) (status_at_end played.ended) c.end_script_run.result) h.plays.numbered (c.end_script_run.ensures.told is);
          });
    }
