use Rattle.std.proofs.Common.{◌≡◌, ℕ}
use Rattle.atree_script.specs.Played.{Bytes}
use Rattle.atree_script.specs.Reports.{Reports}
use Rattle.compare.specs.declared.reading.Reading.{Reading}
use Rattle.atree_script.proofs.Plays.{seen_out, kept_out}
use Rattle.compare.proofs.reading.play_reported.Goals as goal

pub returns-clause-errors : goal.returns-clause-errors
returns-clause-errors g c =
    let seen : Reading g.row.E.Denot → ℕ × Bytes = λ (s : Reading g.row.E.Denot). (s.updates, g.E.Write.contents s.errors.now) in
    kept_out (λ s turn r t. (t.errors.ghost_name ≡ s.errors.ghost_name) × Reports (seen s) turn r (seen t)) (g.R.Read.remaining c.args.input.now) c.args.reading.now c.play.result c.play.new.player c.play.ensures
    (λ (s : Reading g.row.E.Denot). s.errors.ghost_name) (λ s turn r t k. k.0)

pub returns-clause-plays : goal.returns-clause-plays
returns-clause-plays g c =
    let seen : Reading g.row.E.Denot → ℕ × Bytes = λ (s : Reading g.row.E.Denot). (s.updates, g.E.Write.contents s.errors.now) in
    seen_out (λ s turn r t. (t.errors.ghost_name ≡ s.errors.ghost_name) × Reports (seen s) turn r (seen t)) (g.R.Read.remaining c.args.input.now) c.args.reading.now c.play.result c.play.new.player c.play.ensures
    Reports seen (λ s turn r t k. k.1)
