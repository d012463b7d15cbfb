use Rattle.std.proofs.Common.{◌≡◌}
use Rattle.atree_script.specs.Scripts.{Prints}
use Rattle.atree_script.specs.declared.run.Writing.{Writing}
use Rattle.atree_script.proofs.Plays.{seen_out, kept_out}
use Rattle.atree_script.proofs.run.play_printed.Goals as goal

pub returns-clause-output : goal.returns-clause-output
returns-clause-output g c =
    let written = λ (s : Writing g.row.O.Denot). g.O.Write.contents s.output.now in
    kept_out (λ s turn r t. (t.output.ghost_name ≡ s.output.ghost_name) × Prints (written s) turn r (written t)) (g.R.Read.remaining c.args.input.now) c.args.writing.now c.play.result c.play.new.player c.play.ensures
    (λ (s : Writing g.row.O.Denot). s.output.ghost_name) (λ s turn r t k. k.0)

pub returns-clause-plays : goal.returns-clause-plays
returns-clause-plays g c =
    let written = λ (s : Writing g.row.O.Denot). g.O.Write.contents s.output.now in
    seen_out (λ s turn r t. (t.output.ghost_name ≡ s.output.ghost_name) × Prints (written s) turn r (written t)) (g.R.Read.remaining c.args.input.now) c.args.writing.now c.play.result c.play.new.player c.play.ensures
    Prints written (λ s turn r t k. k.1)
