use Rattle.script_lines.specs.ScriptReading.{place}
use Rattle.fed_tree.specs.Feeding.{BeginWith}
use Rattle.fed_tree.proofs.fed_lines.read_commands.Given as goal

-- these commands are read so far
abbrev pub invariant-loop : goal.invariant-loop
invariant-loop l = BeginWith l.fn.lines l.commands.items (place l.script l.input)
