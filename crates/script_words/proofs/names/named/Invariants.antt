use Rattle.std.proofs.Common.{◌≡◌, drop}
use Rattle.script_words.specs.NamedIn.{named_in}
use Rattle.script_words.proofs.names.named.Given as goal

-- the word isn't among the names so far
abbrev pub invariant-loop-name : goal.invariant-loop-name
invariant-loop-name g l = named_in l.word l.table ≡ named_in l.word (drop l.name-index l.table)
