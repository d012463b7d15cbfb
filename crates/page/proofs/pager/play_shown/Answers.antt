use Rattle.std.proofs.Common.{◌≡◌}
use Rattle.atree_script.proofs.Plays.{seen_out, kept_out}
use Rattle.page.specs.Shown.{Shown, pages_of, Shows}
use Rattle.page.specs.declared.pager.Pager.{Pager}
use Rattle.page.proofs.pager.play_shown.Goals as goal

pub returns-clause-output : goal.returns-clause-output
returns-clause-output g c =
    let seen : Pager g.row.O.Denot g.row.E.Denot → Shown = λ (s : Pager g.row.O.Denot g.row.E.Denot). (pages_of s.updates s.states.items s.kept (g.O.Write.contents s.output.now), g.E.Write.contents s.errors.now) in
    kept_out (λ s turn r t. (t.output.ghost_name ≡ s.output.ghost_name) × (t.errors.ghost_name ≡ s.errors.ghost_name) × Shows (seen s) turn r (seen t)) (g.R.Read.remaining c.args.input.now) c.args.pager.now c.play.result c.play.new.player c.play.ensures
    (λ (s : Pager g.row.O.Denot g.row.E.Denot). s.output.ghost_name) (λ s turn r t k. k.0)

pub returns-clause-errors : goal.returns-clause-errors
returns-clause-errors g c =
    let seen : Pager g.row.O.Denot g.row.E.Denot → Shown = λ (s : Pager g.row.O.Denot g.row.E.Denot). (pages_of s.updates s.states.items s.kept (g.O.Write.contents s.output.now), g.E.Write.contents s.errors.now) in
    kept_out (λ s turn r t. (t.output.ghost_name ≡ s.output.ghost_name) × (t.errors.ghost_name ≡ s.errors.ghost_name) × Shows (seen s) turn r (seen t)) (g.R.Read.remaining c.args.input.now) c.args.pager.now c.play.result c.play.new.player c.play.ensures
    (λ (s : Pager g.row.O.Denot g.row.E.Denot). s.errors.ghost_name) (λ s turn r t k. k.1)

pub returns-clause-plays : goal.returns-clause-plays
returns-clause-plays g c =
    let seen : Pager g.row.O.Denot g.row.E.Denot → Shown = λ (s : Pager g.row.O.Denot g.row.E.Denot). (pages_of s.updates s.states.items s.kept (g.O.Write.contents s.output.now), g.E.Write.contents s.errors.now) in
    seen_out (λ s turn r t. (t.output.ghost_name ≡ s.output.ghost_name) × (t.errors.ghost_name ≡ s.errors.ghost_name) × Shows (seen s) turn r (seen t)) (g.R.Read.remaining c.args.input.now) c.args.pager.now c.play.result c.play.new.player c.play.ensures
    Shows seen (λ s turn r t k. k.2)
