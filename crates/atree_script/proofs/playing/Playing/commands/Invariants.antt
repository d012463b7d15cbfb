use Rattle.std.specs.Prelude.{List}
use Rattle.std.specs.List.{FoldsTo}
use Rattle.atree_script.specs.Input.{Commented}
use Rattle.atree_script.specs.Playing.{GoesOn}
use Rattle.atree_script.specs.Played.{stage_of}
use Rattle.atree_script.proofs.Inputs.{HasRead}
use Rattle.atree_script.proofs.playing.Playing.commands.Given as goal

-- commands so far are read and carried out
abbrev pub invariant-loop : goal.invariant-loop
invariant-loop g l =
    (commands : List Commented) × FoldsTo (GoesOn g.P.Player.turns) (stage_of l.fn.self, l.fn.player) commands (stage_of l.self, l.player)
    × HasRead (g.R.Read.remaining l.fn.input) l.fn.script commands (g.R.Read.remaining l.input) l.script
