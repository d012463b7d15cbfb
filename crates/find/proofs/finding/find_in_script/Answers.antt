use Rattle.std.proofs.Common.{◌≡◌, refl, sym, subst}
use Rattle.std.specs.Prelude.{MatchResult, Ok, Err}
use Rattle.script_lines.specs.Ends.{TellsStop}
use Rattle.find.specs.Finding.{Answers}
use Rattle.find.proofs.Ended.{given_well, given_badly}
use Rattle.find.proofs.finding.find_in_script.Goals as goal

pub returns-in-Ok-clause-finds : goal.returns-in-Ok-clause-finds
returns-in-Ok-clause-finds g c =
    given_well c.args.wanted.now (g.R.Read.remaining c.args.input.now) (g.O.Write.contents c.args.output.now) (g.O.Write.contents c.answer.new.output)
    (g.E.Write.contents c.args.errors.now) (g.E.Write.contents c.read_noted.new.errors) (g.E.Write.contents c.answer.new.errors) c.answer.result
    c.in-Ok.read c.in-Ok.ensures.reads c.answer.ensures.answers

pub returns-in-Err-clause-finds : goal.returns-in-Err-clause-finds
returns-in-Err-clause-finds g c =
    given_badly c.args.wanted.now (g.R.Read.remaining c.args.input.now) (g.O.Write.contents c.args.output.now)
    (g.E.Write.contents c.args.errors.now) (g.E.Write.contents c.read_noted.new.errors) c.in-Err.status c.in-Err.ensures.reads
