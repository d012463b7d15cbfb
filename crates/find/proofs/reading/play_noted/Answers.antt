use Rattle.std.proofs.Common.{◌≡◌}
use Rattle.atree_script.proofs.Plays.{seen_out, kept_out}
use Rattle.find.specs.Noted.{NotesTurn, Seen}
use Rattle.find.specs.Reading.{seen_of}
use Rattle.find.specs.declared.reading.Reader.{Reader}
use Rattle.find.proofs.reading.play_noted.Goals as goal

pub returns-clause-errors : goal.returns-clause-errors
returns-clause-errors g c =
    let seen : Reader g.row.E.Denot → Seen = λ (s : Reader g.row.E.Denot). seen_of s.wanted.now s.updates (g.E.Write.contents s.errors.now) s.notes in
    kept_out (λ s turn r t. (t.errors.ghost_name ≡ s.errors.ghost_name) × NotesTurn (seen s) turn r (seen t)) (g.R.Read.remaining c.args.input.now) c.args.reader.now c.play.result c.play.new.player c.play.ensures
    (λ (s : Reader g.row.E.Denot). s.errors.ghost_name) (λ s turn r t k. k.0)

pub returns-clause-plays : goal.returns-clause-plays
returns-clause-plays g c =
    let seen : Reader g.row.E.Denot → Seen = λ (s : Reader g.row.E.Denot). seen_of s.wanted.now s.updates (g.E.Write.contents s.errors.now) s.notes in
    seen_out (λ s turn r t. (t.errors.ghost_name ≡ s.errors.ghost_name) × NotesTurn (seen s) turn r (seen t)) (g.R.Read.remaining c.args.input.now) c.args.reader.now c.play.result c.play.new.player c.play.ensures
    NotesTurn seen (λ s turn r t k. k.1)
