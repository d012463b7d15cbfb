use Rattle.std.proofs.Common.{◌≡◌}
use Rattle.atree_script.proofs.Plays.{seen_out, kept_out}
use Rattle.speak.specs.Spoken.{Aloud, aloud_of, Utters}
use Rattle.speak.specs.declared.adapter.Adapter.{Adapter}
use Rattle.speak.proofs.adapter.play_aloud.Goals as goal

pub returns-clause-output : goal.returns-clause-output
returns-clause-output g c =
    let seen : Adapter g.row.O.Denot g.row.E.Denot → Aloud = λ (s : Adapter g.row.O.Denot g.row.E.Denot). aloud_of s.numbering s.told (g.O.Write.contents s.output.now) (g.E.Write.contents s.errors.now) in
    kept_out (λ s turn r t. (t.output.ghost_name ≡ s.output.ghost_name) × (t.errors.ghost_name ≡ s.errors.ghost_name) × Utters (seen s) turn r (seen t)) (g.R.Read.remaining c.args.input.now) c.args.adapter.now c.play.result c.play.new.player c.play.ensures
    (λ (s : Adapter g.row.O.Denot g.row.E.Denot). s.output.ghost_name) (λ s turn r t k. k.0)

pub returns-clause-errors : goal.returns-clause-errors
returns-clause-errors g c =
    let seen : Adapter g.row.O.Denot g.row.E.Denot → Aloud = λ (s : Adapter g.row.O.Denot g.row.E.Denot). aloud_of s.numbering s.told (g.O.Write.contents s.output.now) (g.E.Write.contents s.errors.now) in
    kept_out (λ s turn r t. (t.output.ghost_name ≡ s.output.ghost_name) × (t.errors.ghost_name ≡ s.errors.ghost_name) × Utters (seen s) turn r (seen t)) (g.R.Read.remaining c.args.input.now) c.args.adapter.now c.play.result c.play.new.player c.play.ensures
    (λ (s : Adapter g.row.O.Denot g.row.E.Denot). s.errors.ghost_name) (λ s turn r t k. k.1)

pub returns-clause-plays : goal.returns-clause-plays
returns-clause-plays g c =
    let seen : Adapter g.row.O.Denot g.row.E.Denot → Aloud = λ (s : Adapter g.row.O.Denot g.row.E.Denot). aloud_of s.numbering s.told (g.O.Write.contents s.output.now) (g.E.Write.contents s.errors.now) in
    seen_out (λ s turn r t. (t.output.ghost_name ≡ s.output.ghost_name) × (t.errors.ghost_name ≡ s.errors.ghost_name) × Utters (seen s) turn r (seen t)) (g.R.Read.remaining c.args.input.now) c.args.adapter.now c.play.result c.play.new.player c.play.ensures
    Utters seen (λ s turn r t k. k.2)
